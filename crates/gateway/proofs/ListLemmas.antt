-- The open calls among those that were opened, in rising order.
use Rattle.std.proofs.Common.{◌≡◌, ◌∙◌, ℕ, zero, suc, Bool, true, false, Option, Some, None, is_some, List, [], ◌∷◌, map, filter, cond, Contains, IsTrue, refl, sym, ap, subst, arith, rules}
use Rattle.mg_names.specs.declared.identifiers.CallNo.{CallNo}
use Rattle.mg_model.specs.Items.{IsRising, Lists}
use Rattle.gateway.specs.Calls.{OpenCall, call_entry, call_in, open_entry, is_taken_in}

abbrev numbers : List CallNo → List ℕ
numbers calls = map (λ (c : CallNo). c.0) calls

later : (x y : ℕ) (xs : List ℕ) → Contains xs y → Contains (x ∷ xs) y
later x y xs (n, h, e) = (suc n, omega (arith, h), e)

module _ (test : ℕ → Bool) where
  abbrev chosen : List CallNo → List CallNo
  chosen calls = filter (λ (c : CallNo). test c.0) calls

  chosen_among : (calls : List CallNo) (n : ℕ) → Contains (numbers (chosen calls)) n → Contains (numbers calls) n × IsTrue (test n)
  chosen_among [] n h = absurd (omega (arith, h.1))
  chosen_among (c ∷ calls) n h = by_test (chosen_among calls n) (test c.0) refl h
    where
      by_test : (Contains (numbers (chosen calls)) n → Contains (numbers calls) n × IsTrue (test n)) → (b : Bool) → test c.0 ≡ b
          → Contains (numbers (cond b (c ∷ chosen calls) (chosen calls))) n → Contains (numbers (c ∷ calls)) n × IsTrue (test n)
      by_test more false e h = let both = more h in (later c.0 n (numbers calls) both.0, both.1)
      by_test more true e (zero, h, is) = ((zero, omega arith, is), subst (λ m. IsTrue (test m)) is (search (rules, e)))
      by_test more true e (suc k, h, is) = let both = more (k, omega (arith, h), is) in (later c.0 n (numbers calls) both.0, both.1)

  among_chosen : (calls : List CallNo) (n : ℕ) → Contains (numbers calls) n → IsTrue (test n) → Contains (numbers (chosen calls)) n
  among_chosen [] n h passes = absurd (omega (arith, h.1))
  among_chosen (c ∷ calls) n h passes = by_test (λ there. among_chosen calls n there passes) (test c.0) refl h
    where
      by_test : (Contains (numbers calls) n → Contains (numbers (chosen calls)) n) → (b : Bool) → test c.0 ≡ b
          → Contains (numbers (c ∷ calls)) n → Contains (numbers (cond b (c ∷ chosen calls) (chosen calls))) n
      by_test more true e (zero, h, is) = (zero, omega arith, is)
      by_test more true e (suc k, h, is) = later c.0 n (numbers (chosen calls)) (more (k, omega (arith, h), is))
      by_test more false e (zero, h, is) = let same : c.0 ≡ n = is in let bad : test n ≡ false = sym (ap test same) ∙ e in absurd (search (rules, bad))
      by_test more false e (suc k, h, is) = more (k, omega (arith, h), is)

  chosen_rising : (calls : List CallNo) → IsRising (numbers calls) → IsRising (numbers (chosen calls))
  chosen_rising [] h = tt
  chosen_rising (c ∷ calls) h = by_test (chosen_rising calls h.1) (test c.0)
    where
      by_test : IsRising (numbers (chosen calls)) → (b : Bool) → IsRising (numbers (cond b (c ∷ chosen calls) (chosen calls)))
      by_test more true = (λ y there. h.0 y (chosen_among calls y there).0, more)
      by_test more false = more

taken_open : (e : Option (Option OpenCall)) → IsTrue (is_some (open_entry e)) → IsTrue (is_some e)
taken_open None h = absurd (search rules)
taken_open (Some entry) h = search rules

pub lists_open : (entries : List (ℕ × Option OpenCall)) (calls : List CallNo) → Lists (is_taken_in entries) (numbers calls)
    → Lists (λ n. is_some (call_in entries n)) (numbers (filter (λ (c : CallNo). is_some (call_in entries c.0)) calls))
lists_open entries calls lists = record {
  rising = chosen_rising (λ n. is_some (call_in entries n)) calls lists.rising;
  exactly = λ n. (
    λ h. (chosen_among (λ m. is_some (call_in entries m)) calls n h).1,
    λ h. among_chosen (λ m. is_some (call_in entries m)) calls n ((lists.exactly n).1 (taken_open (call_entry entries n) h)) h,
  );
}
