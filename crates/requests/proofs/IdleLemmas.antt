-- A Modify in the null context that sets a line Inactive: what it leaves, and that where it is refused nothing is to be set.
use Rattle.std.proofs.Common.{◌≡◌, ◌∙◌, ℕ, ◌==◌, Bool, true, false, not, ◌||◌, IsTrue, if◌then◌else◌, Option, Some, None, is_some, Result, Ok, Err, IfOk, IfErr, OnOk, OnErr, alloc_error, refl, ap, sym, arith, rules}
use Rattle.std.specs.declared.alloc.AllocError.{AllocError}
use Rattle.std.proofs.lemmas.Grind.{common_steps}
use Rattle.mg_names.specs.declared.codes.Code.{Code}
use Rattle.mg_names.specs.declared.codes.Code.TheVariants.{UnknownContext, UnknownTermination, AlreadyInContext, NotInContext, InternalFailure, InsufficientResources}
use Rattle.mg_names.specs.declared.identifiers.TermId.{TermId}
use Rattle.mg_names.specs.declared.identifiers.TermId.TheVariants.{Line}
use Rattle.mg_names.specs.declared.modes.Mode.TheVariants.{Inactive}
use Rattle.mg_model.specs.declared.items.Item.{Item}
use Rattle.mg_model.specs.declared.items.Item.TheVariants.{Modify}
use Rattle.mg_model.specs.declared.items.Settings.{Settings}
use Rattle.mg_model.specs.declared.rows.Row.{Row}
use Rattle.mg_model.specs.Board.{Board, same_term, place_in, mode_in, remote_in}
use Rattle.mg_model.specs.Items.{Done, IsExecuted, IsRefused, row_at, with_row}
use Rattle.mg_model.proofs.Terminations.{same_term_is}
use Rattle.contexts.specs.Faults.{IsFault}
use Rattle.contexts.specs.declared.fault.ExecFault.{ExecFault}
use Rattle.contexts.specs.declared.fault.ExecFault.TheVariants.{Code as Refused, NoMemory}
use Rattle.contexts.proofs.ExecLemmas.{both_known, is_place}
use Rattle.requests.specs.Idle.{idle_row, deactivated}

abbrev line : ℕ → TermId
line l = Line (record { 0 = l })

abbrev set_inactive : Settings
set_inactive = record { mode = Some Inactive; remote = None }

abbrev pub set_idle : ℕ → Item
set_idle l = Modify (record { 0 = 0 }) (line l) set_inactive

-- ---- executed

idle_set : (row : Option Row) → is_some row ≡ true → place_in row ≡ 0 → Some (row_at 0 set_inactive (mode_in row) (remote_in row)) ≡ idle_row row
idle_set None there null = absurd (search rules)
idle_set (Some row) there null = by_test (row.place.0 == 0) refl
  where
    by_test : (b : Bool) → (row.place.0 == 0) ≡ b →
        Some (row_at 0 set_inactive row.mode row.remote) ≡ (if b then Some (record row { mode = Inactive }) else Some row)
    by_test true e = ap (λ (n : ℕ). Some (row_at n set_inactive row.mode row.remote)) (sym null)
    by_test false e = absurd (grind (arith, common_steps))

pub executed_idle : (b after : Board) (l : ℕ) (done : Done) → IsExecuted b (set_idle l) after done → after ≡ deactivated b l
executed_idle b after l done e =
    e.effect_is ∙ ap (with_row b (line l)) (idle_set (b.row (line l)) (both_known _ _ (e.legal UnknownTermination)).0 (is_place _ _ (e.legal NotInContext)))

-- ---- refused

idle_none : (row : Option Row) → is_some row ≡ false → idle_row row ≡ row
idle_none None e = refl
idle_none (Some row) e = absurd (search rules)

idle_elsewhere : (row : Option Row) → (place_in row == 0) ≡ false → idle_row row ≡ row
idle_elsewhere None e = refl
idle_elsewhere (Some row) e = rw e refl

not_there : (a : Bool) → IsTrue (not a || false) → a ≡ false
not_there true h = absurd (search rules)
not_there false h = refl

is_false : (a : Bool) → IsTrue (not a) → a ≡ false
is_false true h = absurd (search rules)
is_false false h = refl

nothing_set : (b : Board) (l : ℕ) → idle_row (b.row (line l)) ≡ b.row (line l) → b ≡ deactivated b l
nothing_set b l e = λ i. record b { row = λ u. by_test u (same_term u (line l)) refl i }
  where
    by_test : (u : TermId) (same : Bool) → same_term u (line l) ≡ same → b.row u ≡ (if same then idle_row (b.row (line l)) else b.row u)
    by_test u true h = ap b.row (same_term_is u (line l) h) ∙ sym e
    by_test u false h = refl

pub refused_idle : (b : Board) (l : ℕ) (code : Code) → IsRefused b (set_idle l) code → b ≡ deactivated b l
refused_idle b l UnknownContext refused = absurd (refused.applies.0 refl)
refused_idle b l UnknownTermination refused = nothing_set b l (idle_none (b.row (line l)) (not_there _ refused.applies))
refused_idle b l AlreadyInContext refused = absurd (search rules)
refused_idle b l NotInContext refused = nothing_set b l (idle_elsewhere (b.row (line l)) (is_false _ refused.applies))
refused_idle b l InternalFailure refused = absurd refused.applies
refused_idle b l InsufficientResources refused = absurd refused.applies

-- ---- one of the two, or memory ran out

set_where : (given : Result (Unit {0}) AllocError) (b after : Board) (l : ℕ) → after ≡ deactivated b l → OnOk given (after ≡ deactivated b l)
set_where (Ok done) b after l h = h
set_where (Err fault) b after l h = tt

pub idle_answered : (b after : Board) (l : ℕ) (answer : Result Done ExecFault) (given : Result (Unit {0}) AllocError)
    → IfOk answer (IsExecuted b (set_idle l) after) → IfErr answer (IsFault b (set_idle l)) → OnErr answer (after ≡ b)
    → (answer ≡ Err NoMemory → given ≡ Err alloc_error) → OnOk given (after ≡ deactivated b l)
idle_answered b after l (Ok done) given executed refused unchanged none_left = set_where given b after l (executed_idle b after l done executed)
idle_answered b after l (Err (Refused code)) given executed refused unchanged none_left = set_where given b after l (unchanged ∙ refused_idle b l code refused)
idle_answered b after l (Err NoMemory) given executed refused unchanged none_left = rw (none_left refl) tt
