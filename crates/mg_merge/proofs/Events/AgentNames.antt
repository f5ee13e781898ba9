-- The agents of a shard's calls: what their names stand for is the shard's, through each of their steps, and so is what their requests name.
use Rattle.std.proofs.Common.{◌≡◌, ◌+◌, ◌<◌, arith, ℕ, Bool, true, false, List, [], ◌∷◌, length, Option, Some, None, option_map, refl, subst, ◌==◌}
use Rattle.std.proofs.Common.{if◌then◌else◌, nat_lt, nat_le, unwrap_or, Contains}
use Rattle.mg_merge.proofs.Words.{AddEphemeral, AddLine, Agent, All, All-cons, All-head, All-nil, All-tail, Command, Context, Done, Failure, IsCommandOf}
use Rattle.mg_merge.proofs.Words.{IsScript, IsSlot, Made, ModifyEphemeral, ModifyLine, MoveEphemeral, MoveLine, NoneGiven, NullContext, Peer, Phase, Place}
use Rattle.mg_merge.proofs.Words.{RemoteOption, Reply, Request, Script, SentNote, Termination, added_to, after_result, after_results, all, answers, awaits_pass}
use Rattle.mg_merge.proofs.Words.{awaits_reply, begun, bound_by, bound_if, built_by, choose, command_of, commands_of, context_or, context_ref, entered}
use Rattle.mg_merge.proofs.Words.{entered_if, entered_or_rests, entered_or_stays, entered_with, ephemeral_or, ephemeral_ref, forgotten, heard, inbox_of}
use Rattle.mg_merge.proofs.Words.{is_empty, is_listed, is_resting, last_number, leads_on, line_in, made_after, may_accept, no_ephemeral, none_in, none_is_some}
use Rattle.mg_merge.proofs.Words.{none_made, noted, null, only_one, opened, passed, passed_in, place_ref, remote_ref, replied, replied_to, request_of, resting}
use Rattle.mg_merge.proofs.Words.{sent_in, state_of, target_of, termination_ref, the_some, timed, with_accepted, with_at}
use Rattle.mg_model.specs.declared.commands.Command.TheVariants.{Subtract, SubtractAll, SetTopology}
use Rattle.mg_model.specs.declared.commands.Termination.TheVariants as termination
use Rattle.mg_model.proofs.Built.{state_commands, built_commands}
use Rattle.mg_merge.proofs.Commands.NamedItems.{NamesContextRef, NamesEphemeralRef, NamesTermRef, NamesRemoteRef, NamesCommand, IsDoneBy, none_is_all, none_is_zero}
use Rattle.mg_merge.proofs.Scopes.{Scope, NamesContext, NamesEphemeral, IsContextOf, IsEphemeralOf}

-- ---- what is the shard's

-- what the names of a call stand for
pub record AreOf (script : Script) (s : Scope) (lines : ℕ → ℕ) (contexts ephemerals : ℕ → Option ℕ) : Type 0 where
  pub line : (i : ℕ) → i < length script.lines → s.lines (lines i) ≡ true
  pub context : (j n : ℕ) → contexts j ≡ Some n → IsContextOf s n
  pub ephemeral : (k n : ℕ) → ephemerals k ≡ Some n → IsEphemeralOf s n

abbrev pub IsRequestWithin : Scope → Request → Type 0
IsRequestWithin s request = All (NamesCommand s) request.commands

abbrev pub IsReplyWithin : Scope → Reply → Type 0
IsReplyWithin s reply = All (IsDoneBy s) reply.results

-- what is outstanding in a phase
abbrev pub SendsWithin : Scope → Phase → Type 0
SendsWithin s phase = (request : Request) → Contains (sent_in phase) request → IsRequestWithin s request

pub record IsAgentWithin (script : Script) (s : Scope) (a : Agent) : Type 0 where
  pub names : AreOf script s a.lines a.contexts a.ephemerals
  pub sends : SendsWithin s a.phase

-- ---- the commands of a state

null_named : (s : Scope) → NamesContext s null
null_named s number = let above : 0 < 0 = number.0 in absurd (omega (arith, above))

choose_named : (s : Scope) → NamesContext s choose
choose_named s number = let below : 4294967294 < 4294967294 = number.1 in absurd (omega (arith, below))

module _ (script : Script) (s : Scope) (a : Agent) (names : AreOf script s a.lines a.contexts a.ephemerals) where
  bound_context : (o : Option ℕ) → ((n : ℕ) → o ≡ Some n → IsContextOf s n) → NamesContext s (unwrap_or o all)
  bound_context None bound = none_is_all s
  bound_context (Some n) bound = λ number. (bound n refl).1

  bound_ephemeral : (o : Option ℕ) → ((n : ℕ) → o ≡ Some n → IsEphemeralOf s n) → NamesEphemeral s (unwrap_or o no_ephemeral)
  bound_ephemeral None bound = none_is_zero s
  bound_ephemeral (Some n) bound = λ above. (bound n refl).1

  context_in : (made : Made) (j : ℕ) → NamesContextRef s (context_ref a made j)
  context_in made j = go (made.contexts j)
    where
      go : (o : Option ℕ) → NamesContextRef s (context_or o (a.contexts j))
      go None = bound_context (a.contexts j) (names.context j)
      go (Some place) = tt

  ephemeral_in : (made : Made) (k : ℕ) → NamesEphemeralRef s (ephemeral_ref a made k)
  ephemeral_in made k = go (made.ephemerals k)
    where
      go : (o : Option ℕ) → NamesEphemeralRef s (ephemeral_or o (a.ephemerals k))
      go None = bound_ephemeral (a.ephemerals k) (names.ephemeral k)
      go (Some place) = tt

  added_in : (made : Made) (create : Bool) (j : ℕ) → NamesContextRef s (added_to a made create j)
  added_in made true j = choose_named s
  added_in made false j = context_in made j

  place_in : (made : Made) (place : Place) → NamesContextRef s (place_ref a made place)
  place_in made NullContext = null_named s
  place_in made (Context j) = context_in made j

  term_in : (made : Made) (t : Termination) → IsSlot script t → NamesTermRef s (termination_ref a made t)
  term_in made (termination.Line i) slot = names.line i slot
  term_in made (termination.Ephemeral k) slot = ephemeral_in made k

  remote_in : (made : Made) (o : Option RemoteOption) → NamesRemoteRef s (option_map (remote_ref a made) o)
  remote_in made None = tt
  remote_in made (Some NoneGiven) = tt
  remote_in made (Some (Peer k)) = ephemeral_in made k

  command_in : (made : Made) (command : Command) → IsCommandOf script command → NamesCommand s (command_of script a made command)
  command_in made (AddLine create j i o) slot = (added_in made create j, names.line i slot.1, tt)
  command_in made (AddEphemeral create j k o) slot = (added_in made create j, remote_in made o.remote)
  command_in made (ModifyLine place i o) slot = (place_in made place, names.line i slot.1, tt)
  command_in made (ModifyEphemeral place k o) slot = (place_in made place, ephemeral_in made k, remote_in made o.remote)
  command_in made (MoveLine j i o) slot = (context_in made j, names.line i slot.1, tt)
  command_in made (MoveEphemeral j k o) slot = (context_in made j, ephemeral_in made k, remote_in made o.remote)
  command_in made (Subtract j t) slot = (context_in made j, term_in made t slot.1)
  command_in made (SubtractAll j) slot = context_in made j
  command_in made (SetTopology j t u topology) slot = (context_in made j, term_in made t slot.1, term_in made u slot.2)

  commands_in : (place : ℕ) (made : Made) (commands : List Command) → All (IsCommandOf script) commands
      → All (NamesCommand s) (commands_of script a made place commands)
  commands_in place made [] every = All-nil (NamesCommand s)
  commands_in place made (command ∷ more) every =
      All-cons (NamesCommand s) (command_of script a made command) (commands_of script a (made_after made command place) (place + 1) more)
      (command_in made command (All-head (IsCommandOf script) command more every))
      (commands_in (place + 1) (made_after made command place) more (All-tail (IsCommandOf script) command more every))

  -- what a state's request names is the shard's
  pub request_in : IsScript script → (state : ℕ) → IsRequestWithin s (request_of script a state)
  request_in is state = commands_in 0 none_made (built_by script a state)
      (built_commands script (bound_by a) (state_of script state).commands (state_commands script is state))

-- ---- results

module _ (script : Script) (s : Scope) where
  bound_at : (P : ℕ → Type 0) (bound : ℕ → Option ℕ) (name : ℕ) (new : Option ℕ) → ((j n : ℕ) → bound j ≡ Some n → P n) → ((n : ℕ) → new ≡ Some n → P n)
      → (j n : ℕ) → with_at bound name new j ≡ Some n → P n
  bound_at P bound name new before now j n = go (j == name)
    where
      go : (test : Bool) → (if test then new else bound j) ≡ Some n → P n
      go true is = now n is
      go false is = before j n is

  bound_where : (P : ℕ → Type 0) (create : Bool) (bound : ℕ → Option ℕ) (name : ℕ) (new : Option ℕ) → ((j n : ℕ) → bound j ≡ Some n → P n)
      → ((n : ℕ) → new ≡ Some n → P n) → (j n : ℕ) → bound_if create bound name new j ≡ Some n → P n
  bound_where P true bound name new before now = bound_at P bound name new before now
  bound_where P false bound name new before now = before

  unbound : (P : ℕ → Type 0) (n : ℕ) → None ≡ Some n → P n
  unbound P n is = absurd (none_is_some n is)

  abbrev HasNames : Agent → Type 0
  HasNames a = AreOf script s a.lines a.contexts a.ephemerals

  result_names : (a : Agent) (command : Command) (done : Done) (number : ℕ) → HasNames a → IsDoneBy s done → HasNames (after_result a command done number)
  result_names a (AddLine create j i o) done number names by =
      assumption (bound_where (IsContextOf s) create a.contexts j done.context names.context by.context)
  result_names a (AddEphemeral create j k o) done number names by = assumption (
    bound_where (IsContextOf s) create a.contexts j done.context names.context by.context,
    bound_at (IsEphemeralOf s) a.ephemerals k done.ephemeral names.ephemeral by.ephemeral,
  )
  result_names a (Subtract j (termination.Ephemeral k)) done number names by =
      assumption (bound_at (IsEphemeralOf s) a.ephemerals k None names.ephemeral (unbound (IsEphemeralOf s)))
  result_names a (SubtractAll j) done number names by = record {
    line = names.line;
    context = bound_at (IsContextOf s) a.contexts j None names.context (unbound (IsContextOf s));
    ephemeral = λ k n. go k n (is_listed done.ephemerals (a.ephemerals k));
  }
    where
      go : (k n : ℕ) (test : Bool) → (if test then None else a.ephemerals k) ≡ Some n → IsEphemeralOf s n
      go k n true is = absurd (none_is_some n is)
      go k n false is = names.ephemeral k n is
  result_names a _ done number names by = names

  results_names : (a : Agent) (commands : List Command) (results : List Done) (number : ℕ) → HasNames a → All (IsDoneBy s) results
      → HasNames (after_results a commands results number)
  results_names a [] results number names by = names
  results_names a (command ∷ more) [] number names by = names
  results_names a (command ∷ more) (done ∷ results) number names by =
      results_names (after_result a command done number) more results number
      (result_names a command done number names (All-head (IsDoneBy s) done results by)) (All-tail (IsDoneBy s) done results by)

  -- ---- steps

  abbrev pub GivesWithin : Option Agent → Type 0
  GivesWithin o = (b : Agent) → o ≡ Some b → IsAgentWithin script s b

  gives_none : GivesWithin None
  gives_none b e = absurd (none_is_some b e)

  gives : (c : Agent) → IsAgentWithin script s c → GivesWithin (Some c)
  gives c it b e = subst (IsAgentWithin script s) (the_some c b e) it

  gives_where : (test : Bool) (o : Option Agent) → GivesWithin o → GivesWithin (if test then o else None)
  gives_where true o it = it
  gives_where false o it = gives_none

  nothing_sent : (request : Request) → Contains [] request → IsRequestWithin s request
  nothing_sent request among = absurd (none_in request among)

  module _ (is : IsScript script) where
    enters_with : (a : Agent) (state : ℕ) (empty : Bool) → HasNames a → GivesWithin (entered_with script a state empty)
    enters_with a state true names = gives (record a { state = state; phase = awaits_pass }) (record { names = names; sends = nothing_sent })
    enters_with a state false names = gives_where (nat_le a.next last_number) _
        (gives (record a { state = state; phase = awaits_reply (request_of script a state); next = a.next + 1 }) (record {
          names = names;
          sends = λ request among. subst (IsRequestWithin s) (only_one (request_of script a state) request among) (request_in script s a names is state);
        }))

    enters : (a : Agent) (state : ℕ) → HasNames a → GivesWithin (entered script a state)
    enters a state names = enters_with a state (is_empty (built_by script a state)) names

    rests : (a : Agent) (target : Option ℕ) → HasNames a → GivesWithin (entered_or_rests script a target)
    rests a None names = gives (record a { phase = resting }) (record { names = names; sends = nothing_sent })
    rests a (Some state) names = enters a state names

    enters_if : (a : Agent) (target : Option ℕ) → HasNames a → GivesWithin (entered_if script a target)
    enters_if a None names = gives_none
    enters_if a (Some state) names = enters a state names

    leads : (was a : Agent) (failure : Option Failure) → HasNames a → GivesWithin (leads_on script was a failure)
    leads was a None names = rests a (state_of script was.state).ok names
    leads was a (Some failure) names = enters_if a (state_of script was.state).fault names

    pub replied_within : (a : Agent) (reply : Reply) → IsAgentWithin script s a → IsReplyWithin s reply → GivesWithin (replied script a reply)
    replied_within a reply within by = in_phase a.phase
      where
        in_phase : (phase : Phase) → GivesWithin (replied_to script a phase reply)
        in_phase (awaits_reply request) = gives_where (answers reply request) _
            (leads a (after_results a (built_by script a a.state) reply.results reply.number) reply.failure
            (results_names a (built_by script a a.state) reply.results reply.number within.names by))
        in_phase _ = gives_none

    pub passed_within : (a : Agent) → IsAgentWithin script s a → GivesWithin (passed script a)
    passed_within a within = in_phase a.phase
      where
        in_phase : (phase : Phase) → GivesWithin (passed_in script a phase)
        in_phase awaits_pass = rests a (state_of script a.state).ok within.names
        in_phase _ = gives_none

    pub timed_within : (a : Agent) → IsAgentWithin script s a → GivesWithin (timed script a)
    timed_within a within = gives_where (is_resting a.phase) _ (enters_if a (state_of script a.state).timer within.names)

    pub heard_within : (a : Agent) (association : ℕ) → IsAgentWithin script s a → GivesWithin (heard script a association)
    heard_within a association within = gives_where (nat_lt a.association association) _ (enters (forgotten a association) script.restart (record {
      line = within.names.line;
      context = λ j n e. absurd (none_is_some n e);
      ephemeral = λ k n e. absurd (none_is_some n e);
    }))

    pub noted_within : (a : Agent) (slots : List ℕ) (sent : SentNote) → IsAgentWithin script s a → GivesWithin (noted script a slots sent)
    noted_within a slots sent within = gives_where (may_accept script a sent) _ (goes (target_of script b (line_in b sent.line slots) sent.note))
      where
        b : Agent
        b = record a { accepted = (with_accepted (inbox_of a) sent.number).accepted }

        goes : (target : Option ℕ) → GivesWithin (entered_or_stays script b target)
        goes None = gives b (record { names = within.names; sends = within.sends })
        goes (Some state) = enters b state within.names

-- an agent of an opening, and one that begins on the lines of another
pub opened_within : (script : Script) (s : Scope) (call : ℕ) (lines : ℕ → ℕ) → ((i : ℕ) → i < length script.lines → s.lines (lines i) ≡ true)
    → IsAgentWithin script s (opened script call lines)
opened_within script s call lines own = record {
  names = record { line = own; context = λ j n e. absurd (none_is_some n e); ephemeral = λ k n e. absurd (none_is_some n e) };
  sends = nothing_sent script s;
}

pub begun_within : (script : Script) (s : Scope) (call : ℕ) (old : Agent) → IsAgentWithin script s old → IsAgentWithin script s (begun script call old)
begun_within script s call old within = record {
  names = record { line = within.names.line; context = λ j n e. absurd (none_is_some n e); ephemeral = λ k n e. absurd (none_is_some n e) };
  sends = nothing_sent script s;
}
