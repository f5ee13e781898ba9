-- The tests of a configuration pass exactly where it is well formed.
use Rattle.std.proofs.Common.{◌≡◌, ℕ, ◌<◌, ◌≤◌, suc, zero, nat_lt, Bool, true, false, ◌&&◌, [], ◌∷◌, refl, subst, sym, ◌∙◌, arith, IsTrue}
use Rattle.std.specs.List.{list_all, list_any}
use Rattle.std.proofs.lemmas.Grind.{common_steps}
use Rattle.std.proofs.lemmas.Bool.{and_parts}
use Rattle.mg_names.specs.declared.modes.Mode.{Mode}
use Rattle.mg_names.specs.declared.modes.Mode.TheVariants.{Inactive, SendOnly, ReceiveOnly, SendReceive}
use Rattle.mg_model.specs.declared.commands.Termination.{Termination}
use Rattle.mg_model.specs.declared.commands.Termination.TheVariants.{Line, Ephemeral}
use Rattle.mg_model.specs.declared.components.Spot.{Spot}
use Rattle.mg_model.specs.declared.components.Spot.TheVariants.{Absent, Null, In}
use Rattle.mg_model.specs.declared.components.Remote.{Remote}
use Rattle.mg_model.specs.declared.components.Remote.TheVariants.{Unset, Gone, To}
use Rattle.mg_model.specs.Configuration.{Configuration, IsWellFormed, terminations, is_in, is_present}
use Rattle.mg_model.specs.Paths.{is_shared}
use Rattle.configuration.specs.Places.{index_of}
use Rattle.configuration.specs.Tests.{AreContextsRight, AreCutsRight, is_inactive, remote_is_right, is_ephemeral_right}

-- a test that all eight terminations pass
pub at_termination : (q : Termination → Bool) → list_all q terminations ≡ true → (t : Termination) → index_of t < 8 → q t ≡ true
at_termination q h (Line zero) l = grind (arith, common_steps)
at_termination q h (Line (suc zero)) l = grind (arith, common_steps)
at_termination q h (Line (suc (suc zero))) l = grind (arith, common_steps)
at_termination q h (Line (suc (suc (suc zero)))) l = grind (arith, common_steps)
at_termination q h (Line (suc (suc (suc (suc i))))) l = grind (arith, common_steps)
at_termination q h (Ephemeral zero) l = grind (arith, common_steps)
at_termination q h (Ephemeral (suc zero)) l = grind (arith, common_steps)
at_termination q h (Ephemeral (suc (suc zero))) l = grind (arith, common_steps)
at_termination q h (Ephemeral (suc (suc (suc zero)))) l = grind (arith, common_steps)
at_termination q h (Ephemeral (suc (suc (suc (suc k))))) l = grind (arith, common_steps)

pub at_all_terminations : (q : Termination → Bool) → ((t : Termination) → index_of t < 8 → q t ≡ true) → list_all q terminations ≡ true
at_all_terminations q h =
    let l0 = h (Line 0) (omega arith) in let l1 = h (Line 1) (omega arith) in let l2 = h (Line 2) (omega arith) in
    let l3 = h (Line 3) (omega arith) in let e0 = h (Ephemeral 0) (omega arith) in let e1 = h (Ephemeral 1) (omega arith) in
    let e2 = h (Ephemeral 2) (omega arith) in let e3 = h (Ephemeral 3) (omega arith) in
    rw (l0, l1, l2, l3, e0, e1, e2, e3) refl

pub some_termination : (p : Termination → Bool) (t : Termination) → index_of t < 8 → p t ≡ true → list_any p terminations ≡ true
some_termination p (Line zero) l h = grind (arith, common_steps)
some_termination p (Line (suc zero)) l h = grind (arith, common_steps)
some_termination p (Line (suc (suc zero))) l h = grind (arith, common_steps)
some_termination p (Line (suc (suc (suc zero)))) l h = grind (arith, common_steps)
some_termination p (Line (suc (suc (suc (suc i))))) l h = grind (arith, common_steps)
some_termination p (Ephemeral zero) l h = grind (arith, common_steps)
some_termination p (Ephemeral (suc zero)) l h = grind (arith, common_steps)
some_termination p (Ephemeral (suc (suc zero))) l h = grind (arith, common_steps)
some_termination p (Ephemeral (suc (suc (suc zero)))) l h = grind (arith, common_steps)
some_termination p (Ephemeral (suc (suc (suc (suc k))))) l h = grind (arith, common_steps)

pub at_slot : (q : ℕ → Bool) → list_all q (0 ∷ 1 ∷ 2 ∷ 3 ∷ []) ≡ true → (k : ℕ) → k < 4 → q k ≡ true
at_slot q h zero l = grind (arith, common_steps)
at_slot q h (suc zero) l = grind (arith, common_steps)
at_slot q h (suc (suc zero)) l = grind (arith, common_steps)
at_slot q h (suc (suc (suc zero))) l = grind (arith, common_steps)
at_slot q h (suc (suc (suc (suc k)))) l = absurd (omega arith)

pub at_all_slots : (q : ℕ → Bool) → ((k : ℕ) → q k ≡ true) → list_all q (0 ∷ 1 ∷ 2 ∷ 3 ∷ []) ≡ true
at_all_slots q h = rw (h 0, h 1, h 2, h 3) refl

-- a slot, or past the slots
pub slot_cases : (k : ℕ) {P : Type 0} → (k < 4 → P) → (4 ≤ k → P) → P
slot_cases k {P} small large = by_test (nat_lt k 4) refl
  where
    by_test : (b : Bool) → nat_lt k 4 ≡ b → P
    by_test true e = small (grind (arith, common_steps))
    by_test false e = large (grind (arith, common_steps))

pub inactive_is : (m : Mode) → is_inactive m ≡ true → m ≡ Inactive
inactive_is Inactive h = refl
inactive_is SendOnly h = cc
inactive_is ReceiveOnly h = cc
inactive_is SendReceive h = cc

-- an ephemeral that passes its test and does not exist is Inactive with no Remote
pub absent_is : (c : Configuration) (k : ℕ) → is_ephemeral_right c k ≡ true → c.spot (Ephemeral k) ≡ Absent →
    (c.mode (Ephemeral k) ≡ Inactive) × (c.remote k ≡ Unset)
absent_is c k h gone =
    by_remote (c.remote k) refl (rw gone at h)
  where
    by_remote : (r : Remote) → c.remote k ≡ r → remote_is_right c false (is_inactive (c.mode (Ephemeral k))) (c.remote k) ≡ true →
        (c.mode (Ephemeral k) ≡ Inactive) × (c.remote k ≡ Unset)
    by_remote Unset e h = (inactive_is (c.mode (Ephemeral k)) (rw e at h), e)
    by_remote Gone e h = let bad : false ≡ true = rw e at h in cc
    by_remote (To i) e h = let bad : false ≡ true = rw e at h in cc

pub named_is : (c : Configuration) (k i : ℕ) → is_ephemeral_right c k ≡ true → c.remote k ≡ To i →
    IsTrue (is_present (c.spot (Ephemeral i)))
named_is c k i h e =
    let right : (is_present (c.spot (Ephemeral k)) && is_present (c.spot (Ephemeral i))) ≡ true = rw e at h in
    (and_parts (is_present (c.spot (Ephemeral k))) (is_present (c.spot (Ephemeral i))) right).1

pub shared_is : (s r : Spot) → is_shared s r ≡ true → (j : ℕ) × (IsTrue (is_in s j) × IsTrue (is_in r j))
shared_is Absent r h = cc
shared_is Null r h = cc
shared_is (In j) r h = (j, (grind (arith, common_steps), h))

pub right_ephemeral : (c : Configuration) → IsWellFormed c → (k : ℕ) → is_ephemeral_right c k ≡ true
right_ephemeral c w k = by_spot (c.spot (Ephemeral k)) refl
  where
    inactive : c.spot (Ephemeral k) ≡ Absent → is_inactive (c.mode (Ephemeral k)) ≡ true
    inactive gone = rw (w.absent_mode k gone) refl

    present : (r : Remote) → c.remote k ≡ r → remote_is_right c true (is_inactive (c.mode (Ephemeral k))) r ≡ true
    present Unset e = refl
    present Gone e = refl
    present (To i) e = w.named k i e

    by_spot : (s : Spot) → c.spot (Ephemeral k) ≡ s → is_ephemeral_right c k ≡ true
    by_spot Absent e = rw (w.absent_remote k e, e) (inactive e)
    by_spot Null e = rw e (present (c.remote k) refl)
    by_spot (In j) e = rw e (present (c.remote k) refl)

pub shared_from : (s r : Spot) (j : ℕ) → IsTrue (is_in s j) → IsTrue (is_in r j) → is_shared s r ≡ true
shared_from Absent r j h g = cc
shared_from Null r j h g = cc
shared_from (In i) r j h g = let same : i ≡ j = grind (arith, common_steps) in subst (λ (n : ℕ). is_in r n ≡ true) (sym same) g

-- the three tests together
pub tests_well_formed : (c : Configuration) → ((k : ℕ) → 4 ≤ k → c.mode (Ephemeral k) ≡ Inactive) → ((k : ℕ) → 4 ≤ k → c.remote k ≡ Unset) →
    AreContextsRight c → list_all (is_ephemeral_right c) (0 ∷ 1 ∷ 2 ∷ 3 ∷ []) ≡ true → AreCutsRight c → IsWellFormed c
tests_well_formed c modes remotes live ephemerals cuts = record {
  live = live;
  absent_mode = λ k gone. slot_cases k
      (λ l. (absent_is c k (at_slot (is_ephemeral_right c) ephemerals k l) gone).0) (λ l. modes k l);
  absent_remote = λ k gone. slot_cases k
      (λ l. (absent_is c k (at_slot (is_ephemeral_right c) ephemerals k l) gone).1) (λ l. remotes k l);
  named = λ k i e. slot_cases k
      (λ l. named_is c k i (at_slot (is_ephemeral_right c) ephemerals k l) e)
      (λ l. let bad : Unset ≡ To i = sym (remotes k l) ∙ e in cc);
  cut_within = λ t u cut. shared_is (c.spot t) (c.spot u) (cuts t u cut);
}

pub right_cuts : (c : Configuration) → IsWellFormed c → AreCutsRight c
right_cuts c w t u cut =
    let within = w.cut_within t u cut in shared_from (c.spot t) (c.spot u) within.0 within.1.0 within.1.1
