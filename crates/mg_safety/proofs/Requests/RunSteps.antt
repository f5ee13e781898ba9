-- What goes on from command to command of a request: changes of what is owned compose, the names that later commands create stay unbound,
-- and a configuration is shown, and is well formed, whatever its link is.
use Rattle.mg_safety.proofs.Words.{◌≡◌, ◌∙◌, ℕ, Bool, true, false, List, [], ◌∷◌, Option, Some, None, refl, sym, ap, true≢false, inl, inr, eqb-true, eq-eqb}
use Rattle.mg_safety.proofs.Words.{and_from, false_from_ne_true, ◌==◌, ◌&&◌, ◌||◌, ◌⊎◌, not, if◌then◌else◌, list_all, ContextValue, Free, Live, TermId, Line}
use Rattle.mg_safety.proofs.Words.{Eph, Command, AddLine, AddEphemeral, MoveLine, MoveEphemeral, Subtract, SubtractAll, Termination, Spot, Absent, In, Agent}
use Rattle.mg_safety.proofs.Words.{Board, place_of, with_at, Configuration, IsWellFormed, is_same, is_in, is_live, is_free, is_present, value_of, is_legal}
use Rattle.mg_safety.proofs.Words.{effect, is_elsewhere, LineRow, created_context, created_ephemeral, Script, creates_unbound, with_link, is_apart}
use Rattle.mg_safety.proofs.Words.{creates_apart, and_first, and_second, by_test, false_not_true}
use Rattle.mg_names.specs.declared.phases.LinkPhase as phases
use Rattle.mg_model.specs.declared.commands.Termination.TheVariants as termination
use Rattle.mg_safety.proofs.InvariantWords.{IsOfScript, Naming, Shown, Seen, LinesShown, Owner, owned_at, ChangesOwned}
use Rattle.mg_safety.proofs.Shared.ShownParts.{shown_with, seen_with}

-- ---- changes of what is owned

given_more : (created given before after : Bool) → (given ≡ true → after ≡ true) → (created || (given && not before)) ≡ true
    → (created || (after && not before)) ≡ true
given_more true given before after more e = refl
given_more false true before after more e = rw (more refl) e
given_more false false before after more e = absurd (false_not_true e)

owned_more : (own : Owner) (b after : Board) → ((x : ℕ) → b.used_ephemeral x ≡ true → after.used_ephemeral x ≡ true)
    → (t : TermId) → owned_at own b t ≡ true → owned_at own after t ≡ true
owned_more own b after more (Line l) e = e
owned_more own b after more (Eph x) e = given_more (own.created x) (b.used_ephemeral x) (own.before x) (after.used_ephemeral x) (more x) e

pub unchanged : (own : Owner) (b : Board) → ChangesOwned own b b
unchanged own b = record {
  row = λ t other. refl;
  cut = λ t u first second. refl;
  used_context = λ x e. e;
  used_ephemeral = λ x e. e;
  place = λ t owned stands. inl (t, owned, refl);
  line = λ l. refl;
  ephemeral = λ x e. inl e;
}

module _ (own : Owner) (b mid after : Board) (first : ChangesOwned own b mid) (second : ChangesOwned own mid after) where
  not_before : (t : TermId) → owned_at own after t ≡ false → owned_at own mid t ≡ false
  not_before t other = false_from_ne_true (owned_at own mid t) (λ owned. true≢false (sym (owned_more own mid after second.used_ephemeral t owned) ∙ other))

  ungiven : (was later : ℕ → Bool) (x : ℕ) → (was x ≡ true → later x ≡ true) → later x ≡ false → was x ≡ false
  ungiven was later x kept none = false_from_ne_true (was x) (λ given. true≢false (sym (kept given) ∙ none))

  place_before : (t : TermId) → owned_at own after t ≡ true → (place_of after t ≡ 0 → ⊥)
      → ((u : TermId) × (owned_at own b u ≡ true) × (place_of b u ≡ place_of after t)) ⊎ (b.used_context (place_of after t) ≡ false)
  place_before t owned stands = elim (second.place t owned stands) [
    | inl (u, owned_then, same) ↦ elim (first.place u owned_then (λ zero. stands (sym same ∙ zero))) [
      | inl (v, owned_before, place) ↦ inl (v, owned_before, place ∙ same)
      | inr none ↦ inr (ap b.used_context (sym same) ∙ none)
    ]
    | inr none ↦ inr (ungiven b.used_context mid.used_context (place_of after t) (first.used_context (place_of after t)) none)
  ]

  pub changes_on : ChangesOwned own b after
  changes_on = record {
    row = λ t other. second.row t other ∙ first.row t (not_before t other);
    cut = λ t u one other. second.cut t u one other ∙ first.cut t u (not_before t one) (not_before u other);
    used_context = λ x e. second.used_context x (first.used_context x e);
    used_ephemeral = λ x e. second.used_ephemeral x (first.used_ephemeral x e);
    place = place_before;
    line = λ l. second.line l ∙ first.line l;
    ephemeral = λ x stands. elim (second.ephemeral x stands) [
      | inl stood ↦ first.ephemeral x stood
      | inr none ↦ inr (ungiven b.used_ephemeral mid.used_ephemeral x (first.used_ephemeral x) none)
    ];
  }

-- ---- names that are unbound

abbrev context_free : Configuration → Option ℕ → Bool
context_free c None = true
context_free c (Some j) = is_free (c.context j)

abbrev ephemeral_absent : Configuration → Option ℕ → Bool
ephemeral_absent c None = true
ephemeral_absent c (Some k) = not (is_present (c.spot (termination.Ephemeral k)))

unbound_is : (c : Configuration) (command : Command)
    → creates_unbound c command ≡ (context_free c (created_context command) && ephemeral_absent c (created_ephemeral command))
unbound_is c (AddLine true j i o) = refl
unbound_is c (AddEphemeral true j k o) = refl
unbound_is c command = refl

free_stays : (value : ContextValue) (stands : Bool) → is_free value ≡ true → is_free (value_of value stands) ≡ true
free_stays Free stands e = refl
free_stays value stands e = absurd (false_not_true e)

not_live : (value : ContextValue) → is_live value ≡ true → is_free value ≡ true → ⊥
not_live Free live free = false_not_true live
not_live value live free = false_not_true free

-- a command puts a termination into j, and i is another name
put_free : (contexts : ℕ → ContextValue) (i j : ℕ) (value : ContextValue) (stands : Bool) → is_free (contexts i) ≡ true → (i ≡ j → ⊥)
    → is_free (value_of (with_at contexts j value i) stands) ≡ true
put_free contexts i j value stands free apart = by_test (λ (v : ContextValue). is_free (value_of v stands) ≡ true) value (contexts i) (i == j)
    (λ same. absurd (apart (eqb-true i j same))) (λ differ. free_stays (contexts i) stands free)

freed : (contexts : ℕ → ContextValue) (i j : ℕ) (stands : Bool) → is_free (contexts i) ≡ true
    → is_free (value_of (with_at contexts j Free i) stands) ≡ true
freed contexts i j stands free = by_test (λ (v : ContextValue). is_free (value_of v stands) ≡ true) Free (contexts i) (i == j)
    (λ same. refl) (λ differ. free_stays (contexts i) stands free)

not_same : (i j : ℕ) → not (j == i) ≡ true → i ≡ j → ⊥
not_same i j apart same = true≢false (sym apart ∙ ap not (eq-eqb j i (sym same)))

live_apart : (contexts : ℕ → ContextValue) (i j : ℕ) → is_live (contexts j) ≡ true → is_free (contexts i) ≡ true → i ≡ j → ⊥
live_apart contexts i j live free same = not_live (contexts j) live (ap (λ n. is_free (contexts n)) (sym same) ∙ free)

context_kept : (script : Script) (c : Configuration) (command : Command) (i : ℕ) → is_legal c command ≡ true
    → is_apart (created_context command) (Some i) ≡ true → is_free (c.context i) ≡ true → is_free ((effect script c command).context i) ≡ true
context_kept script c (AddLine true j x o) i legal apart free = put_free c.context i j Live _ free (not_same i j apart)
context_kept script c (AddLine false j x o) i legal apart free = put_free c.context i j Live _ free (live_apart c.context i j (and_first _ _ legal) free)
context_kept script c (AddEphemeral true j k o) i legal apart free = put_free c.context i j Live _ free (not_same i j apart)
context_kept script c (AddEphemeral false j k o) i legal apart free = put_free c.context i j Live _ free
    (live_apart c.context i j (and_first _ _ legal) free)
context_kept script c (MoveLine j x o) i legal apart free = put_free c.context i j Live _ free (live_apart c.context i j (and_first _ _ legal) free)
context_kept script c (MoveEphemeral j k o) i legal apart free = put_free c.context i j Live _ free
    (live_apart c.context i j (and_first _ _ (and_first _ _ legal)) free)
context_kept script c (Subtract j t) i legal apart free = free_stays (c.context i) _ free
context_kept script c (SubtractAll j) i legal apart free = freed c.context i j _ free
context_kept script c command i legal apart free = free

absent_stays : (spots : Termination → Spot) (k : ℕ) (test : Bool) (spot : Spot) → (test ≡ true → not (is_present spot) ≡ true)
    → not (is_present (spots (termination.Ephemeral k))) ≡ true → not (is_present (if test then spot else spots (termination.Ephemeral k))) ≡ true
absent_stays spots k test spot new absent = by_test (λ (s : Spot). not (is_present s) ≡ true) spot (spots (termination.Ephemeral k)) test new (λ e. absent)

elsewhere_present : (spot : Spot) (j : ℕ) → is_elsewhere spot j ≡ true → not (is_present spot) ≡ true → ⊥
elsewhere_present Absent j elsewhere absent = false_not_true elsewhere
elsewhere_present spot j elsewhere absent = false_not_true absent

ephemeral_kept : (script : Script) (c : Configuration) (command : Command) (k : ℕ) → is_legal c command ≡ true
    → is_apart (created_ephemeral command) (Some k) ≡ true → not (is_present (c.spot (termination.Ephemeral k))) ≡ true
    → not (is_present ((effect script c command).spot (termination.Ephemeral k))) ≡ true
ephemeral_kept script c (AddEphemeral create j x o) k legal apart absent = absent_stays c.spot k (k == x) (In j)
    (λ same. absurd (not_same k x apart (eqb-true k x same))) absent
ephemeral_kept script c (MoveEphemeral j x o) k legal apart absent = absent_stays c.spot k (k == x) (In j)
    (λ same. absurd (elsewhere_present (c.spot (termination.Ephemeral x)) j (and_second _ _ (and_first _ _ legal))
    (ap (λ n. not (is_present (c.spot (termination.Ephemeral n)))) (sym (eqb-true k x same)) ∙ absent))) absent
ephemeral_kept script c (Subtract j t) k legal apart absent =
    absent_stays c.spot k (is_same t (termination.Ephemeral k)) Absent (λ same. refl) absent
ephemeral_kept script c (SubtractAll j) k legal apart absent =
    absent_stays c.spot k (is_in (c.spot (termination.Ephemeral k)) j) Absent (λ same. refl) absent
ephemeral_kept script c command k legal apart absent = absent

module _ (script : Script) (c : Configuration) (command : Command) (legal : is_legal c command ≡ true) where
  contexts_kept : (created : Option ℕ) → is_apart (created_context command) created ≡ true → context_free c created ≡ true
      → context_free (effect script c command) created ≡ true
  contexts_kept None apart free = refl
  contexts_kept (Some i) apart free = context_kept script c command i legal apart free

  ephemerals_kept : (created : Option ℕ) → is_apart (created_ephemeral command) created ≡ true → ephemeral_absent c created ≡ true
      → ephemeral_absent (effect script c command) created ≡ true
  ephemerals_kept None apart absent = refl
  ephemerals_kept (Some k) apart absent = ephemeral_kept script c command k legal apart absent

  unbound_kept : (other : Command) → creates_apart command other ≡ true → creates_unbound c other ≡ true
      → creates_unbound (effect script c command) other ≡ true
  unbound_kept other apart unbound =
      let both = sym (unbound_is c other) ∙ unbound in
      unbound_is (effect script c command) other
      ∙ and_from _ _ (contexts_kept (created_context other) (and_first _ _ apart) (and_first _ _ both))
      (ephemerals_kept (created_ephemeral other) (and_second _ _ apart) (and_second _ _ both))

  -- the names that later commands create stay unbound
  pub all_unbound : (more : List Command) → list_all (creates_apart command) more ≡ true → list_all (creates_unbound c) more ≡ true
      → list_all (creates_unbound (effect script c command)) more ≡ true
  all_unbound [] apart unbound = refl
  all_unbound (other ∷ more) apart unbound = and_from _ _ (unbound_kept other (and_first _ _ apart) (and_first _ _ unbound))
      (all_unbound more (and_second _ _ apart) (and_second _ _ unbound))

-- ---- the link of a configuration

pub formed_with_link : (c : Configuration) (link : phases.LinkPhase) → IsWellFormed (with_link c link) → IsWellFormed c
formed_with_link c link f = record { live = f.live; absent_mode = f.absent_mode; absent_remote = f.absent_remote; named = f.named; cut_within = f.cut_within }

pub of_script_with_link : (script : Script) (c : Configuration) (link : phases.LinkPhase) → IsOfScript script (with_link c link) → IsOfScript script c
of_script_with_link script c link o =
    record { spot = o.spot; mode = o.mode; events = o.events; plays = o.plays; context = o.context; remote = o.remote; cut = o.cut }

-- the board and the lines show neither the state nor the link
pub shown_still : (script : Script) (owned : TermId → Bool) (n : Naming) (b : Board) (c : Configuration) (state : ℕ) (link : phases.LinkPhase)
    → Shown script owned n b c → Shown script owned n b (record c { state = state; link = link })
shown_still script owned n b c state link s = shown_with script owned owned n b c (λ t. refl) b.cut state link c.context c.cut (λ j. refl) s.cut s

pub lines_with_link : (script : Script) (e : Agent) (line : ℕ → LineRow) (c : Configuration) (link : phases.LinkPhase)
    → LinesShown script e line c → LinesShown script e line (with_link c link)
lines_with_link script e line c link s = record { events = s.events; silent = s.silent; expected = s.expected; unnamed = s.unnamed }

pub seen_still : (script : Script) (owned : TermId → Bool) (n : Naming) (b : Board) (c : Configuration) (state : ℕ) (link : phases.LinkPhase)
    → Seen script owned n b c → Seen script owned n b (record c { state = state; link = link })
seen_still script owned n b c state link s = seen_with script owned owned n b c (λ t. refl) b.cut state link c.context c.cut (λ j. refl) s.cut s

-- a command leaves the state
pub effect_state : (script : Script) (c : Configuration) (command : Command) → (effect script c command).state ≡ c.state
effect_state script c (SubtractAll j) = refl
effect_state script c command = refl
