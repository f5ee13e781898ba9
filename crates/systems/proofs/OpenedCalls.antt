-- Calls that are opened on a new gateway, one after the other, are an opening of the model.
use Rattle.std.proofs.Common.{◌≡◌, ◌∙◌, ℕ, ◌<◌, Bool, true, false, List, [], ◌∷◌, ◌++◌, length, Option, Some, None, Result, Ok, Err, ◌⊎◌, inl, inr, true≢false, refl, sym, subst, ap, arith}
use Rattle.std.specs.Prelude.{◌==◌, ◌||◌, ◌&&◌, not, if◌then◌else◌, Contains, is_some, option_map}
use Rattle.std.specs.List.{list_all}
use Rattle.std.proofs.lemmas.Bool.{eqb-true, eq-eqb, and_parts, not-true}
use Rattle.std.proofs.lemmas.Option.{same_Some}
use Rattle.mg_model.specs.declared.rows.Row.{Row}
use Rattle.mg_model.specs.Agent.{Agent}
use Rattle.mg_model.specs.Agent as model
use Rattle.mg_model.specs.Board.{null_row}
use Rattle.mg_model.specs.Gateway.{CallLink, Gateway}
use Rattle.mg_model.specs.LineEvents.{new_line}
use Rattle.mg_model.specs.Script.{Script}
use Rattle.mg_model.specs.World.{AreOpenedAgents, AreOpenedLines, IsNewGateway, IsOpening, Opened}
use Rattle.mg_model.proofs.OpenedLines.{line_held}
use Rattle.contexts.specs.BoardValue.{names_line}
use Rattle.gateway.specs.declared.fault.OpenFault.{OpenFault}
use Rattle.gateway.specs.declared.fault.OpenFault.TheVariants.{UnknownLine, Taken}
use Rattle.gateway.specs.GatewayValue.{gateway_of, is_open, is_taken}
use Rattle.gateway.specs.Openings.{are_free, are_there, first_gateway, has_twice, is_free, opened}
use Rattle.agent.specs.CallValue.{CallValue}
use Rattle.systems.specs.Openings.{AreOpened, Opens, Starts, line_at}
use Rattle.systems.specs.Systems.{AreOf, AreOpen, System, agent_in, agents_of, world_of}
use Rattle.systems.proofs.Deeds.{not_open}
use Rattle.systems.proofs.LineLists.{named, one_place}
use Rattle.systems.proofs.OpenedLines.{MayOpen, first_in, later_in, latest_or_earlier, lines_opened, not_held, still_hook}

-- an opening, whose lines are on hook, and whose calls are of the script and are those that the gateway has open
pub record IsOpened (script : Script) (calls : List Opened) (s : System) : Type 0 where
  pub is_opening : IsOpening script calls (world_of s)
  pub are_of : AreOf script s
  pub are_open : AreOpen s
  pub on_hook : (l : ℕ) → ((gateway_of s.gateway).line l).hook ≡ new_line.hook

same_links : {f g : ℕ → CallLink} → ((n : ℕ) → f n ≡ g n) → f ≡ g
same_links h = λ i n. h n i

nothing_in : (o : Opened) → Contains [] o → ⊥
nothing_in o among = let below : among.0 < 0 = among.1 in omega (arith, below)

no_agent : (a : Agent) → None ≡ Some a → ⊥
no_agent a same = true≢false (sym (ap is_some same))

-- ---- the answer to an opening

is_fine : Result (Unit {0}) OpenFault → Bool
is_fine (Ok done) = true
is_fine (Err fault) = false

abbrev answer_of : (there taken free : Bool) → Result (Unit {0}) OpenFault
answer_of there taken free =
    if not there then Err UnknownLine
    else if taken then Err Taken
    else if not free then Err Taken
    else Ok tt

allowed : (there taken free : Bool) → answer_of there taken free ≡ Ok tt → (taken ≡ false) × (free ≡ true)
unfolding is_fine
allowed true false true is = (refl, refl)
allowed true false false is = absurd (true≢false (sym (ap is_fine is)))
allowed true true free is = absurd (true≢false (sym (ap is_fine is)))
allowed false taken free is = absurd (true≢false (sym (ap is_fine is)))

-- ---- one more call

module _ (script : Script) (calls : List Opened) (one : Opened) (s t : System) (before : IsOpened script calls s) (d : Opens script one s t) where
  abbrev g : Gateway
  g = gateway_of s.gateway

  -- the call, with its lines as they were given
  abbrev new : Opened
  new = record { call = one.call; lines = line_at d.lines }

  new_is : new ≡ one
  new_is = ap (λ (lines : ℕ → ℕ). record { call = one.call; lines = lines }) (sym d.lines_are)

  may : (is_taken s.gateway one.call ≡ false) × (are_free g.board g.holder d.lines ≡ true)
  may = allowed (are_there g.board d.lines) (is_taken s.gateway one.call) (are_free g.board g.holder d.lines) d.may

  frees : MayOpen script g d.lines
  frees =
      let both = and_parts (list_all (is_free g.board g.holder) d.lines) (not (has_twice d.lines)) may.1 in
      record { all_lines = d.all_lines; free = both.0; once = not-true (has_twice d.lines) both.1 }

  -- no call of this number was opened before
  not_before : (o : Opened) → Contains calls o → o.call ≡ one.call → ⊥
  not_before o among same =
      let there : is_some (agents_of s.call o.call) ≡ true = ap is_some (before.is_opening.agents.opened o among) in
      let stands : is_open s.gateway o.call ≡ true = sym (before.are_open o.call) ∙ sym (mapped (s.call o.call)) ∙ there in
      true≢false (sym stands ∙ ap (is_open s.gateway) same ∙ not_open s.gateway one.call may.0)
    where
      mapped : (o : Option CallValue) → is_some (option_map agent_in o) ≡ is_some o
      mapped None = refl
      mapped (Some x) = refl

  calls_differ : (a b : Opened) → Contains (new ∷ calls) a → Contains (new ∷ calls) b → a.call ≡ b.call → a ≡ b
  calls_differ a b in_a in_b same = elim (latest_or_earlier new calls a in_a) [
    | inl is_a ↦ elim (latest_or_earlier new calls b in_b) [
      | inl is_b ↦ sym is_a ∙ is_b
      | inr later ↦ absurd (not_before b later (sym same ∙ sym (ap (λ (o : Opened). o.call) is_a)))
    ]
    | inr earlier ↦ elim (latest_or_earlier new calls b in_b) [
      | inl is_b ↦ absurd (not_before a earlier (same ∙ sym (ap (λ (o : Opened). o.call) is_b)))
      | inr later ↦ before.is_opening.distinct.calls_differ a b earlier later same
    ]
  ]

  -- a line of an earlier call isn't among those of this one
  apart : (o : Opened) → Contains calls o → (i j : ℕ) → i < length script.lines → j < length script.lines → line_at d.lines i ≡ o.lines j → ⊥
  apart o among i j within other same =
      let held = line_held script calls g before.is_opening.lines o among j other in
      not_held script g calls one.call d.lines frees (o.lines j) o.call held
      (subst (λ (n : ℕ). names_line d.lines n ≡ true) same (named_at i within))
    where
      named_at : (i : ℕ) → i < length script.lines → names_line d.lines (line_at d.lines i) ≡ true
      named_at i within = named d.lines i (omega (arith, within, d.all_lines))

  lines_differ : (a b : Opened) → Contains (new ∷ calls) a → Contains (new ∷ calls) b → (i j : ℕ) → i < length script.lines
      → j < length script.lines → a.lines i ≡ b.lines j → (a ≡ b) × (i ≡ j)
  lines_differ a b in_a in_b i j within other same = elim (latest_or_earlier new calls a in_a) [
    | inl is_a ↦ elim (latest_or_earlier new calls b in_b) [
      | inl is_b ↦ (
        sym is_a ∙ is_b,
        one_place d.lines i j frees.once (omega (arith, within, d.all_lines)) (omega (arith, other, d.all_lines))
            (ap (λ (o : Opened). o.lines i) is_a ∙ same ∙ sym (ap (λ (o : Opened). o.lines j) is_b)),
      )
      | inr later ↦ absurd (apart b later i j within other (ap (λ (o : Opened). o.lines i) is_a ∙ same))
    ]
    | inr earlier ↦ elim (latest_or_earlier new calls b in_b) [
      | inl is_b ↦ absurd (apart a earlier j i other within (ap (λ (o : Opened). o.lines j) is_b ∙ sym same))
      | inr later ↦ before.is_opening.distinct.lines_differ a b earlier later i j within other same
    ]
  ]

  new_gateway : IsNewGateway (opened g one.call d.lines)
  new_gateway =
      let was = before.is_opening.gateway in
      record {
        association = was.association;
        no_ephemeral = was.no_ephemeral;
        nothing_cut = was.nothing_cut;
        no_context_given = was.no_context_given;
        no_ephemeral_given = was.no_ephemeral_given;
        no_creator = was.no_creator;
        no_reply_kept = same_links (λ c. kept c (c == one.call));
        none_retired = was.none_retired;
      }
    where
      kept : (c : ℕ) (is : Bool) → (if is then record { last = None; notes = 0 } else g.link c) ≡ record { last = None; notes = 0 }
      kept c true = refl
      kept c false = ap (λ (link : ℕ → CallLink). link c) before.is_opening.gateway.no_reply_kept

  agents : AreOpenedAgents script (new ∷ calls) (world_of t)
  agents = record {
    opened = λ o among. elim (latest_or_earlier new calls o among) [
      | inl same ↦ subst (λ (x : Opened). agents_of t.call x.call ≡ Some (model.opened script x.call x.lines)) same
          (ap (λ call. agents_of call one.call) d.calls ∙ at_new (one.call == one.call) (eq-eqb one.call one.call refl))
      | inr earlier ↦ ap (λ call. agents_of call o.call) d.calls ∙ at_other o earlier (o.call == one.call) refl
    ];
    no_other = λ c a is. of_some c a (c == one.call) refl (sym (ap (λ call. agents_of call c) d.calls) ∙ is);
  }
    where
      at_new : (is : Bool) → is ≡ true → option_map agent_in (if is then Some d.call else s.call one.call)
          ≡ Some (model.opened script one.call (line_at d.lines))
      at_new true is = ap (λ (a : Agent). Some a) d.entered
      at_new false is = absurd (true≢false (sym is))

      at_other : (o : Opened) → Contains calls o → (is : Bool) → (o.call == one.call) ≡ is
          → option_map agent_in (if is then Some d.call else s.call o.call) ≡ Some (model.opened script o.call o.lines)
      at_other o among true is = absurd (not_before o among (eqb-true o.call one.call is))
      at_other o among false is = before.is_opening.agents.opened o among

      of_some : (c : ℕ) (a : Agent) (is : Bool) → (c == one.call) ≡ is → option_map agent_in (if is then Some d.call else s.call c) ≡ Some a
          → (o : Opened) × Contains (new ∷ calls) o × (o.call ≡ c)
      of_some c a true is at = (new, first_in new calls, sym (eqb-true c one.call is))
      of_some c a false is at =
          let by = before.is_opening.agents.no_other c a at in (by.0, later_in new calls by.0 by.1, by.2)

  of_script : AreOf script t
  of_script n call is = at (n == one.call) (ap (λ calls. calls n) (sym d.calls) ∙ is)
    where
      at : (one : Bool) → (if one then Some d.call else s.call n) ≡ Some call → call.script ≡ script
      at true is = ap (λ (c : CallValue). c.script) (same_Some call d.call (sym is)) ∙ d.of_script
      at false is = before.are_of n call is

  opens : AreOpen t
  opens n =
      ap (λ call. is_some (call n)) d.calls ∙ at (n == one.call) ∙ ap (λ (is : Bool). (n == one.call) || is) (before.are_open n) ∙ sym (d.open_calls n)
    where
      at : (is : Bool) → is_some (if is then Some d.call else s.call n) ≡ (is || is_some (s.call n))
      at true = refl
      at false = refl

  one_more : IsOpened script (new ∷ calls) t
  one_more = record {
    is_opening = record {
      distinct = record { calls_differ = calls_differ; lines_differ = lines_differ };
      lines = subst (AreOpenedLines script (new ∷ calls)) (sym d.gateway)
          (lines_opened script g calls one.call d.lines frees before.is_opening.lines before.on_hook);
      gateway = subst IsNewGateway (sym d.gateway) new_gateway;
      agents = agents;
      messages = record {
        no_request = d.requests ∙ before.is_opening.messages.no_request;
        no_answer = d.replies ∙ before.is_opening.messages.no_answer;
        no_note = d.notes ∙ before.is_opening.messages.no_note;
      };
    };
    are_of = of_script;
    are_open = opens;
    on_hook = λ l. subst (λ (after : Gateway). (after.line l).hook ≡ new_line.hook) (sym d.gateway)
        (still_hook (names_line d.lines l) (g.line l) (before.on_hook l));
  }

  pub opened_one : IsOpened script (one ∷ calls) t
  opened_one = subst (λ (o : Opened). IsOpened script (o ∷ calls) t) new_is one_more

-- ---- a new gateway

module _ (script : Script) (s : System) (d : Starts s) where
  abbrev first : Gateway
  first = first_gateway d.class d.lines

  started_row : (l : ℕ) (row : Row) (is : Bool) → (if is then Some null_row else None) ≡ Some row → row ≡ null_row
  started_row l row true same = same_Some row null_row (sym same)
  started_row l row false same = absurd (true≢false (sym (ap is_some same)))

  first_lines : AreOpenedLines script [] first
  first_lines = record {
    held = λ l c. ((λ is. absurd (true≢false (sym (ap is_some is)))), (λ its. absurd (nothing_in its.one its.among)));
    stand = λ l c is. absurd (true≢false (sym (ap is_some is)));
    armed = λ l c is. absurd (true≢false (sym (ap is_some is)));
    others_null = λ l row. started_row l row (names_line d.lines l);
  }

  first_new : IsNewGateway first
  first_new = record {
    association = refl;
    no_ephemeral = λ k. refl;
    nothing_cut = refl;
    no_context_given = refl;
    no_ephemeral_given = refl;
    no_creator = refl;
    no_reply_kept = refl;
    none_retired = refl;
  }

  pub opened_none : IsOpened script [] s
  opened_none = record {
    is_opening = record {
      distinct = record {
        calls_differ = λ a b in_a. absurd (nothing_in a in_a);
        lines_differ = λ a b in_a. absurd (nothing_in a in_a);
      };
      lines = subst (AreOpenedLines script []) (sym d.gateway) first_lines;
      gateway = subst IsNewGateway (sym d.gateway) first_new;
      agents = record {
        opened = λ o among. absurd (nothing_in o among);
        no_other = λ c a is. absurd (no_agent a (sym (ap (λ call. agents_of call c) d.calls) ∙ is));
      };
      messages = record { no_request = d.requests; no_answer = d.replies; no_note = d.notes };
    };
    are_of = λ n call is. absurd (true≢false (sym (ap is_some (ap (λ calls. calls n) (sym d.calls) ∙ is))));
    are_open = λ n. ap (λ call. is_some (call n)) d.calls ∙ sym (d.no_call n);
    on_hook = λ l. subst (λ (g : Gateway). (g.line l).hook ≡ new_line.hook) (sym d.gateway) refl;
  }

pub calls_opened : (script : Script) (calls : List Opened) (s : System) → AreOpened script calls s → IsOpened script calls s
calls_opened script [] s start = opened_none script s start
calls_opened script (one ∷ calls) s opening =
    opened_one script calls one opening.0 s (calls_opened script calls opening.0 opening.1.0) opening.1.1
