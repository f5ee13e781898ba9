-- What is alike is so the other way round.
use Rattle.std.proofs.Common.{◌≡◌, ◌∙◌, ℕ, Bool, List, [], ◌∷◌, Option, Some, None, refl, sym, subst, inl, inr}
use Rattle.mg_merge.proofs.Words.{Agent, ContextRef, Descriptors, Done, EphemeralRef, LineNo, MadeAt, Number, Phase, RemoteRef, Reply, Request, RequestCommand}
use Rattle.mg_merge.proofs.Words.{Row, SentNote, TermId, TerminationRef, To, World, add_ephemeral, add_line, awaits_pass, awaits_reply, modify, move, resting}
use Rattle.mg_merge.proofs.Words.{set_topology, subtract, subtract_all}
use Rattle.mg_alike.proofs.Words.{AgentsAlike, AreSentInBoth, CallAlike, CommandsAlike, ContextRefsAlike, ContextsAlike, DescriptorsAlike, DoneAlike}
use Rattle.mg_alike.proofs.Words.{EphemeralRefsAlike, EphemeralsAlike, IsOneToOne, IsWord, KeptAlike, OptionalRowsAlike, OptionsAlike, OwnAlike, Pairwise}
use Rattle.mg_alike.proofs.Words.{PhasesAlike, PlacesAlike, RemoteRefsAlike, Renaming, RepliesAlike, RequestsAlike, SameReply, SetsAlike, TerminationRefsAlike}
use Rattle.mg_alike.proofs.Words.{TreatmentIsMutual, anything, is_awaited}
use Rattle.mg_names.specs.declared.identifiers.TermId.TheVariants as term
use Rattle.mg_model.specs.declared.references.EphemeralRef.TheVariants as ephemeral
use Rattle.mg_model.specs.declared.references.RemoteRef.TheVariants.{Nothing}
use Rattle.mg_model.specs.declared.references.TerminationRef.TheVariants.{Line, Ephemeral}

abbrev turned : Renaming → Renaming
turned r = record { contexts = λ x y. r.contexts y x; ephemerals = λ x y. r.ephemerals y x }

one_turned : (pairs : ℕ → ℕ → Bool) → IsOneToOne pairs → IsOneToOne (λ x y. pairs y x)
one_turned pairs one = record { onward = λ x y z first second. one.back y z x first second; back = λ x y z first second. one.onward z x y first second }

options_turned : (pairs : ℕ → ℕ → Bool) (o p : Option ℕ) → OptionsAlike pairs o p → OptionsAlike (λ x y. pairs y x) p o
options_turned pairs None None is = tt
options_turned pairs (Some x) (Some y) is = is
options_turned pairs _ _ is = absurd is

sets_turned : (pairs : ℕ → ℕ → Bool) (xs ys : List ℕ) → SetsAlike pairs xs ys → SetsAlike (λ x y. pairs y x) ys xs
sets_turned pairs xs ys sets = record { onward = sets.back; back = sets.onward }

pairwise_turned : {A : Type 0} (alike other : A → A → Type 0) → ((x y : A) → alike x y → other y x) → (xs ys : List A) → Pairwise alike xs ys → Pairwise other ys xs
pairwise_turned alike other turn [] [] is = tt
pairwise_turned alike other turn (x ∷ xs) (y ∷ ys) is = (turn x y is.0, pairwise_turned alike other turn xs ys is.1)
pairwise_turned alike other turn _ _ is = absurd is

sent_turned : {A : Type 0} (of : A → ℕ) (call : ℕ) (alike other : A → A → Type 0) → ((x y : A) → alike x y → other y x) → (sent others : List A)
    → AreSentInBoth of call alike sent others → AreSentInBoth of call other others sent
sent_turned of call alike other turn sent others both = record {
  onward = λ y there its. let x = both.back y there its in (x.0, x.1, turn x.0 y x.2);
  back = λ x there its. let y = both.onward x there its in (y.0, y.1, turn x y.0 y.2);
}

-- ---- messages and agents

module _ (r : Renaming) where
  contexts_turned : (c d : ℕ) → ContextsAlike r c d → ContextsAlike (turned r) d c
  contexts_turned c d (inl word) = inl (subst IsWord word.1 word.0, sym word.1)
  contexts_turned c d (inr is) = inr is

  ephemerals_turned : (x y : ℕ) → EphemeralsAlike r x y → EphemeralsAlike (turned r) y x
  ephemerals_turned x y (inl none) = inl (none.1, none.0)
  ephemerals_turned x y (inr is) = inr is

  context_refs_turned : (c d : ContextRef) → ContextRefsAlike r c d → ContextRefsAlike (turned r) d c
  context_refs_turned (Number c) (Number d) is = contexts_turned c.0 d.0 is
  context_refs_turned (MadeAt p) (MadeAt q) is = sym is
  context_refs_turned _ _ is = absurd is

  ephemeral_refs_turned : (e f : EphemeralRef) → EphemeralRefsAlike r e f → EphemeralRefsAlike (turned r) f e
  ephemeral_refs_turned (ephemeral.Number x) (ephemeral.Number y) is = ephemerals_turned x y is
  ephemeral_refs_turned (ephemeral.MadeAt p) (ephemeral.MadeAt q) is = sym is
  ephemeral_refs_turned _ _ is = absurd is

  termination_refs_turned : (t u : TerminationRef) → TerminationRefsAlike r t u → TerminationRefsAlike (turned r) u t
  termination_refs_turned (Line l) (Line m) is = sym is
  termination_refs_turned (Ephemeral e) (Ephemeral f) is = ephemeral_refs_turned e f is
  termination_refs_turned _ _ is = absurd is

  remote_refs_turned : (e f : Option RemoteRef) → RemoteRefsAlike r e f → RemoteRefsAlike (turned r) f e
  remote_refs_turned None None is = tt
  remote_refs_turned (Some Nothing) (Some Nothing) is = tt
  remote_refs_turned (Some (To e)) (Some (To f)) is = ephemeral_refs_turned e f is
  remote_refs_turned _ _ is = absurd is

  descriptors_turned : (d e : Descriptors) → DescriptorsAlike r d e → DescriptorsAlike (turned r) e d
  descriptors_turned d e is = record {
    mode = sym is.mode;
    remote = remote_refs_turned d.remote e.remote is.remote;
    events = sym is.events;
    signals = sym is.signals;
  }

  commands_turned : (one other : RequestCommand) → CommandsAlike r one other → CommandsAlike (turned r) other one
  commands_turned (add_line c l d) (add_line e m f) is = (context_refs_turned c e is.0, sym is.1, descriptors_turned d f is.2)
  commands_turned (add_ephemeral c d) (add_ephemeral e f) is = (context_refs_turned c e is.0, descriptors_turned d f is.1)
  commands_turned (modify c t d) (modify e u f) is = (context_refs_turned c e is.0, termination_refs_turned t u is.1, descriptors_turned d f is.2)
  commands_turned (move c t d) (move e u f) is = (context_refs_turned c e is.0, termination_refs_turned t u is.1, descriptors_turned d f is.2)
  commands_turned (subtract c t) (subtract e u) is = (context_refs_turned c e is.0, termination_refs_turned t u is.1)
  commands_turned (subtract_all c) (subtract_all e) is = context_refs_turned c e is
  commands_turned (set_topology c t u one) (set_topology e v w other) is =
      (context_refs_turned c e is.0, termination_refs_turned t v is.1, termination_refs_turned u w is.2, sym is.3)
  commands_turned _ _ is = absurd is

  requests_turned : (one other : Request) → RequestsAlike r one other → RequestsAlike (turned r) other one
  requests_turned one other is = record {
    call = sym is.call;
    association = sym is.association;
    number = sym is.number;
    commands = pairwise_turned (CommandsAlike r) (CommandsAlike (turned r)) commands_turned one.commands other.commands is.commands;
  }

  done_turned : (one other : Done) → DoneAlike r one other → DoneAlike (turned r) other one
  done_turned one other is = record {
    context = options_turned r.contexts one.context other.context is.context;
    ephemeral = options_turned r.ephemerals one.ephemeral other.ephemeral is.ephemeral;
    lines = sym is.lines;
    ephemerals = sets_turned r.ephemerals one.ephemerals other.ephemerals is.ephemerals;
  }

  replies_turned : (one other : Reply) → RepliesAlike r one other → RepliesAlike (turned r) other one
  replies_turned one other is = record {
    call = sym is.call;
    association = sym is.association;
    number = sym is.number;
    results = pairwise_turned (DoneAlike r) (DoneAlike (turned r)) done_turned one.results other.results is.results;
    failure = sym is.failure;
  }

  kept_turned : (one other : Option Reply) → KeptAlike r one other → KeptAlike (turned r) other one
  kept_turned None None is = tt
  kept_turned (Some one) (Some other) is = replies_turned one other is
  kept_turned _ _ is = absurd is

  phases_turned : (p q : Phase) → PhasesAlike r p q → PhasesAlike (turned r) q p
  phases_turned (awaits_reply one) (awaits_reply other) is = requests_turned one other is
  phases_turned awaits_pass awaits_pass is = tt
  phases_turned resting resting is = tt
  phases_turned _ _ is = absurd is

  agents_turned : (a b : Agent) → AgentsAlike r a b → AgentsAlike (turned r) b a
  agents_turned a b is = record {
    call = sym is.call;
    state = sym is.state;
    phase = phases_turned a.phase b.phase is.phase;
    association = sym is.association;
    lines = sym is.lines;
    contexts = λ j. options_turned r.contexts (a.contexts j) (b.contexts j) (is.contexts j);
    ephemerals = λ k. options_turned r.ephemerals (a.ephemerals k) (b.ephemerals k) (is.ephemerals k);
    next = sym is.next;
    expected = sym is.expected;
    accepted = sym is.accepted;
  }

  awaited_same : (p q : Phase) → PhasesAlike r p q → (one other : Reply) → RepliesAlike anything one other → is_awaited p one ≡ is_awaited q other
  awaited_same (awaits_reply x) (awaits_reply y) is one other same =
      sym (rw (same.call, same.association, same.number, is.call, is.association, is.number) refl)
  awaited_same awaits_pass awaits_pass is one other same = refl
  awaited_same resting resting is one other same = refl
  awaited_same _ _ is one other same = absurd is

-- ---- worlds

module _ (r : Renaming) (w v : World) (call : ℕ) (a b : Agent) (alike : CallAlike r w v call a b) where
  own_turned : (u t : TermId) → OwnAlike (turned r) v w call u t → OwnAlike r w v call t u
  own_turned (term.Line m) (term.Line l) own =
      (sym own.0, subst (λ (k : LineNo). w.gateway.holder k.0 ≡ Some call) own.0 ((alike.held m.0).1 own.1))
  own_turned (term.Eph y) (term.Eph x) own = (own.0, own.2, own.1)
  own_turned _ _ own = absurd own

  places_turned : (c d : ℕ) → PlacesAlike r c d → PlacesAlike (turned r) d c
  places_turned c d (inl none) = inl (none.1, none.0)
  places_turned c d (inr is) = inr is

  rows_turned : (u t : TermId) → OwnAlike (turned r) v w call u t → (o p : Option Row) → OptionalRowsAlike r t o p → OptionalRowsAlike (turned r) u p o
  rows_turned u t own None None is = tt
  rows_turned (term.Line m) (term.Line l) own (Some one) (Some other) is =
      record { place = places_turned one.place.0 other.place.0 is.place; mode = sym is.mode; remote = tt }
  rows_turned (term.Eph y) (term.Eph x) own (Some one) (Some other) is = record {
    place = places_turned one.place.0 other.place.0 is.place;
    mode = sym is.mode;
    remote = options_turned r.ephemerals one.remote other.remote is.remote;
  }
  rows_turned u t own None (Some other) is = absurd is
  rows_turned u t own (Some one) None is = absurd is
  rows_turned _ _ own _ _ is = absurd own

  reply_turned : (one other : Reply) → SameReply r a.phase one other → SameReply (turned r) b.phase other one
  reply_turned one other same = record {
    shape = replies_turned anything one other same.shape;
    awaited = λ e. replies_turned r one other (same.awaited (awaited_same r a.phase b.phase alike.agents.phase one other same.shape ∙ e));
  }

  call_turned : CallAlike (turned r) v w call b a
  call_turned = record {
    renaming = record {
      contexts = one_turned r.contexts alike.renaming.contexts;
      ephemerals = one_turned r.ephemerals alike.renaming.ephemerals;
      numbers = λ x y is. let both = alike.renaming.numbers y x is in (both.1, both.0);
    };
    open_one = alike.open_other;
    open_other = alike.open_one;
    agents = agents_turned r a b alike.agents;
    association = sym alike.association;
    kept = kept_turned r (w.gateway.link call).last (v.gateway.link call).last alike.kept;
    count = sym alike.count;
    held = λ l. ((alike.held l).1, (alike.held l).0);
    lines = λ l held. sym (alike.lines l ((alike.held l).1 held));
    rows = λ u t own. rows_turned u t own (w.gateway.board.row t) (v.gateway.board.row u) (alike.rows t u (own_turned u t own));
    created = alike.created_back;
    created_back = alike.created;
    cuts = λ u t x s first second. sym (alike.cuts t u s x (own_turned u t first) (own_turned x s second));
    requests = sent_turned (λ (q : Request). q.call) call (RequestsAlike anything) (RequestsAlike anything) (requests_turned anything) w.requests v.requests alike.requests;
    replies = sent_turned (λ (q : Reply). q.call) call (SameReply r a.phase) (SameReply (turned r) b.phase) reply_turned w.replies v.replies alike.replies;
    notes = sent_turned (λ (n : SentNote). n.call) call (λ (x y : SentNote). x ≡ y) (λ (x y : SentNote). x ≡ y) (λ x y e. sym e) w.notes v.notes alike.notes;
  }

pub treated_mutually : TreatmentIsMutual
treated_mutually w v call treat = record {
  renaming = turned treat.renaming;
  one = treat.other;
  other = treat.one;
  alike = call_turned treat.renaming w v call treat.one treat.other treat.alike;
}
