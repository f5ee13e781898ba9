-- A note that an agent accepts is one that the line's list can raise, so where it leads is an observation of the configuration.
use Rattle.mg_safety.proofs.Words.{◌≡◌, ◌∙◌, ◌<◌, ℕ, Bool, true, false, List, [], ◌∷◌, length, map, Option, Some, None, is_some, refl, sym, ap, subst, arith}
use Rattle.mg_safety.proofs.Words.{inl, inr, true≢false, eqb-true, common_steps, Contains-append_left, ◌==◌, ◌||◌, if◌then◌else◌, Contains, nat_lt, flat_map}
use Rattle.mg_safety.proofs.Words.{Kind, Resting, EventsName, EventItem, Agent, line_in, same_number, target_of, list_item, list_of, Configuration, ListItem}
use Rattle.mg_safety.proofs.Words.{Note, Script, Step, all_kinds, with_state, entering, observation, observations, steps_by_link, state_of, items_of}
use Rattle.mg_safety.proofs.Words.{item_raises, raises, target_in, below, line_places, only_here, in_joined, none_in, first_or_later, the_some, first_in}
use Rattle.mg_safety.proofs.Words.{later_in}
use Rattle.mg_names.specs.declared.kinds.Kind.TheVariants as kind
use Rattle.mg_model.specs.declared.steps.StepName.TheVariants as names
use Rattle.mg_model.specs.declared.transitions.EventItem.TheVariants as item
use Rattle.mg_safety.proofs.InvariantWords.{raises_kind, list_raises}

-- ---- lists

pub below_less : (n : ℕ) (xs : List ℕ) (i : ℕ) → Contains (below n xs) i → i < n
below_less n [] i among = absurd (none_in i among)
below_less n (x ∷ xs) i there = by_first (below_less n xs i) (nat_lt x n) refl there
  where
    by_first : (Contains (below n xs) i → i < n) → (first : Bool) → nat_lt x n ≡ first → Contains (if first then x ∷ below n xs else []) i → i < n
    by_first rest true e among = elim (first_or_later x (below n xs) i among) [
      | inl same ↦ grind (arith, common_steps, e, same)
      | inr later ↦ rest later
    ]
    by_first rest false e among = absurd (none_in i among)

-- ---- what a list raises

item_same : (script : Script) (what : Kind) (one : EventItem ℕ) → raises_kind what (list_item script one) ≡ item_raises what one
item_same script kind.On item.Flash = refl
item_same script kind.Of item.Flash = refl
item_same script kind.Fl item.Flash = refl
item_same script kind.Full item.Flash = refl
item_same script kind.Part item.Flash = refl
item_same script what one = refl

pub raises_same : (script : Script) (what : Kind) (items : List (EventItem ℕ)) → list_raises (map (list_item script) items) what ≡ raises items what
raises_same script what [] = refl
raises_same script what (one ∷ more) = either (raises_kind what (list_item script one)) (item_raises what one)
    (list_raises (map (list_item script) more) what) (raises more what) (item_same script what one) (raises_same script what more)
  where
    either : (p q r s : Bool) → p ≡ q → r ≡ s → (p || r) ≡ (q || s)
    either p q r s first rest = cc

-- ---- where a note leads

-- the line of the script of a line of the gateway
line_is : (a : Agent) (l : ℕ) (slots : List ℕ) (i : ℕ) → line_in a l slots ≡ Some i → Contains slots i × (a.lines i ≡ l)
line_is a l [] i is = absurd (true≢false (sym (ap is_some is)))
line_is a l (j ∷ more) i is = by_first (line_is a l more i) (a.lines j == l) refl is
  where
    by_first : (line_in a l more ≡ Some i → Contains more i × (a.lines i ≡ l)) → (first : Bool) → (a.lines j == l) ≡ first
        → (if first then Some j else line_in a l more) ≡ Some i → Contains (j ∷ more) i × (a.lines i ≡ l)
    by_first rest true e is = let same : j ≡ i = the_some j i is in
        (subst (λ v. Contains (j ∷ more) v) same (first_in j more), ap a.lines (sym same) ∙ eqb-true (a.lines j) l e)
    by_first rest false e is = let later = rest is in (later_in j more i later.0, later.1)

expects : (o : Option ℕ) (q : ℕ) → same_number o q ≡ true → o ≡ Some q
expects None q e = absurd (true≢false (sym e))
expects (Some m) q e = ap Some (eqb-true m q e)

-- a note that leads on: of a line of the script, with the RequestID that is expected of it
pub record LeadsOn (script : Script) (a : Agent) (line : ℕ) (note : Note) (state : ℕ) : Type 0 where
  pub i : ℕ
  pub place : Contains (line_places script) i
  pub within : i < length script.lines
  pub line_is : a.lines i ≡ line
  pub expected : a.expected i ≡ Some note.request
  pub target : target_in (state_of script a.state).on i note.kind ≡ Some state

pub leads_where : (script : Script) (a : Agent) (line : ℕ) (note : Note) (state : ℕ)
    → target_of script a (line_in a line (line_places script)) note ≡ Some state → LeadsOn script a line note state
leads_where script a line note state = by_line (line_in a line (line_places script)) refl
  where
    by_number : (i : ℕ) → line_in a line (line_places script) ≡ Some i → (same : Bool) → same_number (a.expected i) note.request ≡ same
        → (if same then target_in (state_of script a.state).on i note.kind else None) ≡ Some state → LeadsOn script a line note state
    by_number i at true e is =
        let found = line_is a line (line_places script) i at in
        record {
          i = i;
          place = found.0;
          within = below_less (length script.lines) (0 ∷ 1 ∷ 2 ∷ 3 ∷ []) i found.0;
          line_is = found.1;
          expected = expects (a.expected i) note.request e;
          target = is;
        }
    by_number i at false e is = absurd (true≢false (sym (ap is_some is)))

    by_line : (at : Option ℕ) → line_in a line (line_places script) ≡ at → target_of script a at note ≡ Some state → LeadsOn script a line note state
    by_line None at is = absurd (true≢false (sym (ap is_some is)))
    by_line (Some i) at is = by_number i at (same_number (a.expected i) note.request) refl is

-- ---- it is an observation

has_kind : (what : Kind) → Contains all_kinds what
has_kind kind.On = (0, omega arith, refl)
has_kind kind.Of = (1, omega arith, refl)
has_kind kind.Fl = (2, omega arith, refl)
has_kind kind.Full = (3, omega arith, refl)
has_kind kind.Part = (4, omega arith, refl)

-- what the list raises is among the observations of its line, with the state that it leads to
pub observed : (script : Script) (c : Configuration) (i : ℕ) (what : Kind) (state : ℕ) → Contains (line_places script) i
    → raises (items_of script (c.events i)) what ≡ true → target_in (state_of script c.state).on i what ≡ Some state
    → Contains (steps_by_link script c Resting) (names.Observe i what, with_state script c state)
observed script c i what state place raised target =
    let step : Step = (names.Observe i what, with_state script c state) in
    let among : Contains (entering script c (names.Observe i what) (target_in (state_of script c.state).on i what)) step =
    subst (λ o. Contains (entering script c (names.Observe i what) o) step) (sym target) (only_here step) in
    let seen : Contains (observation script c i what) step = subst (λ (p : Bool). Contains
    (if p then entering script c (names.Observe i what) (target_in (state_of script c.state).on i what) else []) step) (sym raised) among in
    Contains-append_left (flat_map (observations script c) (line_places script)) (entering script c names.Timer (state_of script c.state).timer) step
    (in_joined (observations script c) (line_places script) i step place
    (in_joined (observation script c i) all_kinds what step (has_kind what) seen))

-- the list of a line raises what the items of its configuration raise
pub list_says : (script : Script) (name : EventsName) (list : List ListItem) (what : Kind) → list ≡ list_of script name → list_raises list what ≡ true
    → raises (items_of script name) what ≡ true
list_says script name list what is raised =
    sym (raises_same script what (items_of script name)) ∙ ap (λ l. list_raises l what) (sym is) ∙ raised
