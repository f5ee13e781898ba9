-- Whether a line lets media in is nothing to a path that leads to it, and where it lets none in, no path leads from it.
use Rattle.std.proofs.Common.{◌≡◌, ◌∙◌, ◌↔◌, ℕ, ◌==◌, Bool, true, false, not, ◌&&◌, IsTrue, List, [], ◌∷◌, inl, inr, refl, sym, ap}
use Rattle.std.proofs.lemmas.Bool.{and_parts, eqb-true, true≢false}
use Rattle.mg_names.specs.declared.modes.Mode.{Mode}
use Rattle.mg_names.specs.declared.modes.Mode.TheVariants.{Inactive, SendOnly, ReceiveOnly, SendReceive}
use Rattle.mg_model.specs.declared.commands.Termination.{Termination}
use Rattle.mg_model.specs.declared.commands.Termination.TheVariants.{Line, Ephemeral}
use Rattle.mg_model.specs.Configuration.{Configuration, is_same}
use Rattle.mg_model.specs.Paths.{AreJoined, HasPath, crosses, goes_over, hops, is_shared, passes_in, passes_out}
use Rattle.mg_model.proofs.Cases.{at_one, by_test, different, where_false}
use Rattle.call_ways.specs.Hearing.{muted, only_out}

out_kept : (m : Mode) → passes_out (only_out m) ≡ passes_out m
out_kept Inactive = refl
out_kept SendOnly = refl
out_kept ReceiveOnly = refl
out_kept SendReceive = refl

in_shut : (m : Mode) → passes_in (only_out m) ≡ false
in_shut Inactive = refl
in_shut SendOnly = refl
in_shut ReceiveOnly = refl
in_shut SendReceive = refl

third : (a b d e f : Bool) → IsTrue (a && b && d && e && f) → d ≡ true
third a b d e f holds = (and_parts (a && b) d (and_parts (a && b && d) e (and_parts (a && b && d && e) f holds).0).0).1

module _ (c : Configuration) (j : ℕ) where
  in_same : (t : Termination) → is_same t (Line j) ≡ false → passes_in ((muted c j).mode t) ≡ passes_in (c.mode t)
  in_same t e = ap passes_in (where_false (is_same t (Line j)) (only_out (c.mode (Line j))) (c.mode t) e)

  in_none : passes_in ((muted c j).mode (Line j)) ≡ false
  in_none = ap passes_in (at_one j (only_out (c.mode (Line j))) (c.mode (Line j))) ∙ in_shut (c.mode (Line j))

  out_same : (u : Termination) → passes_out ((muted c j).mode u) ≡ passes_out (c.mode u)
  out_same (Ephemeral k) = refl
  out_same (Line k) =
      by_test (λ (m : Mode). passes_out m ≡ passes_out (c.mode (Line k))) (only_out (c.mode (Line j))) (c.mode (Line k)) (k == j)
      (λ e. out_kept (c.mode (Line j)) ∙ ap (λ (n : ℕ). passes_out (c.mode (Line n))) (sym (eqb-true k j e))) (λ e. refl)

  hops_same : (t u : Termination) → is_same t (Line j) ≡ false → hops (muted c j) t u ≡ hops c t u
  hops_same t u e =
      ap (λ (b : Bool). not (is_same t u) && is_shared (c.spot t) (c.spot u) && b && passes_out ((muted c j).mode u) && not (c.cut t u)) (in_same t e)
      ∙ ap (λ (b : Bool). not (is_same t u) && is_shared (c.spot t) (c.spot u) && passes_in (c.mode t) && b && not (c.cut t u)) (out_same u)

  goes_same : (t : Termination) (crossings : List (ℕ × ℕ)) → is_same t (Line j) ≡ false
      → goes_over (muted c j) t crossings (Line j) ≡ goes_over c t crossings (Line j)
  goes_same t [] e = hops_same t (Line j) e
  goes_same t (crossing ∷ more) e =
      ap (λ (b : Bool). b && crosses c crossing.0 crossing.1 && goes_over (muted c j) (Ephemeral crossing.1) more (Line j))
      (hops_same t (Ephemeral crossing.0) e)
      ∙ ap (λ (b : Bool). hops c t (Ephemeral crossing.0) && crosses c crossing.0 crossing.1 && b) (goes_same (Ephemeral crossing.1) more refl)

  no_hop : (u : Termination) → IsTrue (hops (muted c j) (Line j) u) → ⊥
  no_hop u holds =
      let within = third (not (is_same (Line j) u)) (is_shared (c.spot (Line j)) (c.spot u)) (passes_in ((muted c j).mode (Line j)))
      (passes_out ((muted c j).mode u)) (not (c.cut (Line j) u)) holds in
      true≢false (sym within ∙ in_none)

  no_way : (u : Termination) (crossings : List (ℕ × ℕ)) → IsTrue (goes_over (muted c j) (Line j) crossings u) → ⊥
  no_way u [] way = no_hop u way
  no_way u (crossing ∷ more) way = no_hop (Ephemeral crossing.0) (and_parts _ _ (and_parts _ _ way).0).0

  kept : (i : ℕ) → HasPath c i j → HasPath (muted c j) i j
  kept i path = record {
    another = path.another;
    crossings = path.crossings;
    goes = goes_same (Line i) path.crossings (different i j path.another) ∙ path.goes;
  }

  one_way : (i : ℕ) → AreJoined (muted c j) i j → HasPath c i j
  one_way i (inl path) = record {
    another = path.another;
    crossings = path.crossings;
    goes = sym (goes_same (Line i) path.crossings (different i j path.another)) ∙ path.goes;
  }
  one_way i (inr path) = absurd (no_way (Line i) path.crossings path.goes)

  -- what says whether the two are joined in that configuration says whether there is a path to line j
  pub path_by_join : (i : ℕ) (b : Bool) → IsTrue b ↔ AreJoined (muted c j) i j → IsTrue b ↔ HasPath c i j
  path_by_join i b says = ((λ yes. one_way i (says.0 yes)), (λ path. says.1 (inl (kept i path))))
