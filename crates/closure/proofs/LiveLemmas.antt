-- The tests of the names of a configuration: together they say that each stands for what exists.
use Rattle.std.proofs.Common.{◌≡◌, ℕ, ◌≤◌, true, not, [], ◌∷◌, refl}
use Rattle.std.specs.List.{list_all}
use Rattle.mg_names.specs.declared.context_values.ContextValue.{ContextValue}
use Rattle.mg_names.specs.declared.context_values.ContextValue.TheVariants.{Free, Live, Stale}
use Rattle.mg_model.specs.declared.components.Remote.{Remote}
use Rattle.mg_model.specs.declared.components.Remote.TheVariants.{Unset, Gone, To}
use Rattle.mg_model.specs.Configuration.{Configuration}
use Rattle.mg_model.specs.Obligations.{IsLive}
use Rattle.configuration.proofs.WellFormedLemmas.{at_slot, at_all_slots, slot_cases}
use Rattle.closure.specs.Tests.{is_stale, is_gone, context_stands, remote_stands}

not_stale : (v : ContextValue) → not (is_stale v) ≡ true → v ≡ Stale → ⊥
not_stale Stale h e = absurd cc
not_stale Free h e = absurd cc
not_stale Live h e = absurd cc

stands : (v : ContextValue) → (v ≡ Stale → ⊥) → not (is_stale v) ≡ true
stands Stale h = absurd (h refl)
stands Free h = refl
stands Live h = refl

not_gone : (r : Remote) → not (is_gone r) ≡ true → r ≡ Gone → ⊥
not_gone Gone h e = absurd cc
not_gone Unset h e = absurd cc
not_gone (To k) h e = absurd cc

leads : (r : Remote) → (r ≡ Gone → ⊥) → not (is_gone r) ≡ true
leads Gone h = absurd (h refl)
leads Unset h = refl
leads (To k) h = refl

free_is_not_stale : (v : ContextValue) → v ≡ Free → v ≡ Stale → ⊥
free_is_not_stale v free stale = not_stale v (rw free refl) stale

unset_is_not_gone : (r : Remote) → r ≡ Unset → r ≡ Gone → ⊥
unset_is_not_gone r unset gone = not_gone r (rw unset refl) gone

pub tests_live : (c : Configuration) → ((j : ℕ) → 4 ≤ j → c.context j ≡ Free) → ((k : ℕ) → 4 ≤ k → c.remote k ≡ Unset)
    → list_all (context_stands c) (0 ∷ 1 ∷ 2 ∷ 3 ∷ []) ≡ true → list_all (remote_stands c) (0 ∷ 1 ∷ 2 ∷ 3 ∷ []) ≡ true → IsLive c
tests_live c free unset contexts remotes = record {
  contexts = λ j. slot_cases j
      (λ l. not_stale (c.context j) (at_slot (context_stands c) contexts j l)) (λ l. free_is_not_stale (c.context j) (free j l));
  remotes = λ k. slot_cases k
      (λ l. not_gone (c.remote k) (at_slot (remote_stands c) remotes k l)) (λ l. unset_is_not_gone (c.remote k) (unset k l));
}

pub live_contexts : (c : Configuration) → IsLive c → list_all (context_stands c) (0 ∷ 1 ∷ 2 ∷ 3 ∷ []) ≡ true
live_contexts c live = at_all_slots (context_stands c) (λ j. stands (c.context j) (live.contexts j))

pub live_remotes : (c : Configuration) → IsLive c → list_all (remote_stands c) (0 ∷ 1 ∷ 2 ∷ 3 ∷ []) ≡ true
live_remotes c live = at_all_slots (remote_stands c) (λ k. leads (c.remote k) (live.remotes k))
