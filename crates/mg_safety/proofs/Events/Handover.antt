-- What a call that begins on the lines of another changes: who holds the lines, whose agents and links there are, and which RequestIDs count as
-- there before it. A call with the number of neither is as it was.
use Rattle.mg_safety.proofs.Words.{◌≡◌, ◌∙◌, ℕ, Option, Some, None, refl, sym, ap, arith, inl, inr, zero, suc, ◌<◌, ◌≤◌, ◌⊎◌, ◌==◌, if◌then◌else◌, eqb-true}
use Rattle.mg_safety.proofs.Words.{eqb-false, TermId, Line, Eph, Agent, begun, Gateway, CallLink, handed_over, last_executed, number_of, Reply, Script, World}
use Rattle.mg_safety.proofs.Words.{none_is_some, the_some, some_is_none, at_one, at_another, different, cases_eq, by_test, where_true, eq-eqb, not_both, subst}
use Rattle.mg_safety.proofs.Words.{true, false}
use Rattle.mg_model.specs.Gateway as gateway
use Rattle.mg_safety.proofs.InvariantWords.{is_call, owned_in, IsReached, IsKnown}

-- ---- who holds a line

pub handed_own : (old new : ℕ) (o : Option ℕ) → o ≡ Some old → handed_over old new o ≡ Some new
handed_own old new o is = ap (handed_over old new) is ∙ ap (λ (n : ℕ). Some n) (at_one old new old)

pub handed_other : (old new one : ℕ) (o : Option ℕ) → o ≡ Some one → (one ≡ old → ⊥) → handed_over old new o ≡ Some one
handed_other old new one o is apart = ap (handed_over old new) is ∙ ap (λ (n : ℕ). Some n) (at_another old one new one apart)

-- a line is the new call's, and was the old one's; or it is whose it was
pub handed_from : (old new : ℕ) (o : Option ℕ) (call : ℕ) → handed_over old new o ≡ Some call
    → ((o ≡ Some old) × (call ≡ new)) ⊎ ((o ≡ Some call) × (call ≡ old → ⊥))
handed_from old new None call is = absurd (none_is_some call is)
handed_from old new (Some one) call is =
    by_test (λ n. n ≡ call → ((Some one ≡ Some old) × (call ≡ new)) ⊎ ((Some one ≡ Some call) × (call ≡ old → ⊥))) new one (one == old)
    (λ e same. inl (ap (λ (n : ℕ). Some n) (eqb-true one old e), sym same))
    (λ e same. inr (ap (λ (n : ℕ). Some n) same, λ is_old. eqb-false one old e (same ∙ is_old))) (the_some (if one == old then new else one) call is)

pub handed_none : (old new : ℕ) (o : Option ℕ) → handed_over old new o ≡ None → o ≡ None
handed_none old new None is = refl
handed_none old new (Some one) is = absurd (some_is_none (if one == old then new else one) is)

-- another call owns what it owned
pub still_holds : (old new other : ℕ) (o : Option ℕ) → (other ≡ old → ⊥) → (other ≡ new → ⊥) → is_call (handed_over old new o) other ≡ is_call o other
still_holds old new other None not_old not_new = refl
still_holds old new other (Some one) not_old not_new = by_test (λ n. (n == other) ≡ (one == other)) new one (one == old)
    (λ e. different new other (λ is. not_new (sym is)) ∙ sym (different one other (λ is. not_old (sym is ∙ eqb-true one old e)))) (λ e. refl)

pub still_owns : (g : Gateway) (old new other : ℕ) → (other ≡ old → ⊥) → (other ≡ new → ⊥) → (t : TermId)
    → owned_in (gateway.begun g old new) other t ≡ owned_in g other t
still_owns g old new other not_old not_new (Line l) = still_holds old new other (g.holder l.0) not_old not_new
still_owns g old new other not_old not_new (Eph x) = refl

-- ---- links

abbrev nothing_kept : CallLink
nothing_kept = record { last = None; notes = 0 }

pub link_other : (g : Gateway) (old new other : ℕ) → (other ≡ old → ⊥) → (other ≡ new → ⊥) → (gateway.begun g old new).link other ≡ g.link other
link_other g old new other not_old not_new =
    at_another old other nothing_kept (if other == new then nothing_kept else g.link other) not_old ∙ at_another new other nothing_kept (g.link other) not_new

pub link_new : (g : Gateway) (old new : ℕ) → (new ≡ old → ⊥) → (gateway.begun g old new).link new ≡ nothing_kept
link_new g old new differ =
    at_another old new nothing_kept (if new == new then nothing_kept else g.link new) differ ∙ at_one new nothing_kept (g.link new)

pub link_old : (g : Gateway) (old new : ℕ) → (gateway.begun g old new).link old ≡ nothing_kept
link_old g old new = at_one old nothing_kept (if old == new then nothing_kept else g.link old)

pub none_executed : (g : Gateway) (old new : ℕ) → (new ≡ old → ⊥) → last_executed (gateway.begun g old new) new ≡ 0
none_executed g old new differ = ap (λ (link : CallLink). number_of link.last) (link_new g old new differ)

pub executed_other : (g : Gateway) (old new other : ℕ) → (other ≡ old → ⊥) → (other ≡ new → ⊥)
    → last_executed (gateway.begun g old new) other ≡ last_executed g other
executed_other g old new other not_old not_new = ap (λ (link : CallLink). number_of link.last) (link_other g old new other not_old not_new)

-- a reply that is kept after is one that was kept, of a call that is neither
pub kept_from : (g : Gateway) (old new call : ℕ) (answer : Reply) → (new ≡ old → ⊥) → ((gateway.begun g old new).link call).last ≡ Some answer
    → (g.link call).last ≡ Some answer
kept_from g old new call answer differ is = elim (cases_eq call old) [
  | inl e ↦ none (ap (gateway.begun g old new).link e ∙ link_old g old new)
  | inr not_old ↦ elim (cases_eq call new) [
    | inl e ↦ none (ap (gateway.begun g old new).link e ∙ link_new g old new differ)
    | inr not_new ↦ sym (ap (λ (link : CallLink). link.last) (link_other g old new call not_old not_new)) ∙ is
  ]
]
  where
    none : {P : Type 0} → (gateway.begun g old new).link call ≡ nothing_kept → P
    none e = absurd (none_is_some answer (sym (ap (λ (link : CallLink). link.last) e) ∙ is))

-- ---- agents

abbrev pub world_begun : Script → World → (new old : ℕ) → Agent → World
world_begun script w new old a = record w {
  gateway = gateway.begun w.gateway old new;
  agent = λ c. if c == new then Some (begun script new a) else if c == old then None else w.agent c;
}

pub agent_new : (script : Script) (w : World) (new old : ℕ) (a : Agent) → (world_begun script w new old a).agent new ≡ Some (begun script new a)
agent_new script w new old a = at_one new (Some (begun script new a)) (if new == old then None else w.agent new)

pub agent_other : (script : Script) (w : World) (new old other : ℕ) (a : Agent) → (other ≡ old → ⊥) → (other ≡ new → ⊥)
    → (world_begun script w new old a).agent other ≡ w.agent other
agent_other script w new old other a not_old not_new =
    at_another new other (Some (begun script new a)) (if other == old then None else w.agent other) not_new ∙ at_another old other None (w.agent other) not_old

-- an agent after is the new call's, or one that was there, of another call
pub agent_from : (script : Script) (w : World) (new old call : ℕ) (a one : Agent) → (world_begun script w new old a).agent call ≡ Some one
    → ((call ≡ new) × (begun script new a ≡ one)) ⊎ ((call ≡ new → ⊥) × (call ≡ old → ⊥) × (w.agent call ≡ Some one))
agent_from script w new old call a one is = elim (cases_eq call new) [
  | inl e ↦ inl (e, the_some (begun script new a) one (sym (ap (world_begun script w new old a).agent e ∙ agent_new script w new old a) ∙ is))
  | inr not_new ↦ elim (cases_eq call old) [
    | inl e ↦ absurd (none_is_some one (sym (where_true (call == old) None (w.agent call) (eq-eqb call old e))
        ∙ sym (at_another new call (Some (begun script new a)) (if call == old then None else w.agent call) not_new) ∙ is))
    | inr not_old ↦ inr (not_new, not_old, sym (agent_other script w new old call a not_old not_new) ∙ is)
  ]
]

-- the number of the new call is neither the old one's nor known
pub other_number : (w : World) (new old : ℕ) (a : Agent) → w.agent old ≡ Some a → w.agent new ≡ None → new ≡ old → ⊥
other_number w new old a there unused is = some_is_none a (sym there ∙ ap w.agent (sym is) ∙ unused)

pub not_known : (w : World) (new : ℕ) → w.agent new ≡ None → w.gateway.retired new ≡ false → IsKnown w new → ⊥
not_known w new unused not_retired (inl there) = some_is_none there.0 (sym there.1 ∙ unused)
not_known w new unused not_retired (inr gone) = not_both gone not_retired

pub still_known : (script : Script) (w : World) (new old : ℕ) (a : Agent) → w.agent new ≡ None → (call : ℕ) → IsKnown w call
    → IsKnown (world_begun script w new old a) call
still_known script w new old a unused call known = elim (cases_eq call old) [
  | inl is ↦ inr (subst (λ n. (gateway.begun w.gateway old new).retired n ≡ true) (sym is) (at_one old true (w.gateway.retired old)))
  | inr not_old ↦ elim known [
    | inl there ↦ inl (
      there.0,
      agent_other script w new old call a not_old
          (λ is. some_is_none there.0 (sym there.1 ∙ ap w.agent is ∙ unused)) ∙ there.1,
    )
    | inr gone ↦ inr (at_another old call true (w.gateway.retired call) not_old ∙ gone)
  ]
]

-- ---- RequestIDs that were there before a call began

abbrev pub before_next : ℕ → ℕ
before_next zero = zero
before_next (suc n) = n

pub below_next : (n : ℕ) → 0 < n → before_next n < n
below_next zero above = absurd (omega (arith, above))
below_next (suc n) above = let one_less : n < suc n = omega arith in one_less

pub at_most : (n q : ℕ) → q < n → q ≤ before_next n
at_most zero q below = absurd (omega (arith, below))
at_most (suc n) q below = let small : q < suc n = below in let it : q ≤ n = omega (arith, small) in it

abbrev pub floor_begun : (ℕ → ℕ) → (new : ℕ) → Agent → ℕ → ℕ
floor_begun floor new a = λ c. if c == new then before_next a.next else floor c

pub floor_new : (floor : ℕ → ℕ) (new : ℕ) (a : Agent) → floor_begun floor new a new ≡ before_next a.next
floor_new floor new a = at_one new (before_next a.next) (floor new)

pub floor_other : (floor : ℕ → ℕ) (new other : ℕ) (a : Agent) → (other ≡ new → ⊥) → floor_begun floor new a other ≡ floor other
floor_other floor new other a not_new = at_another new other (before_next a.next) (floor other) not_new

pub reached_other : (floor : ℕ → ℕ) (g : Gateway) (old new other q : ℕ) (a : Agent) → (other ≡ old → ⊥) → (other ≡ new → ⊥) → IsReached floor g other q
    → IsReached (floor_begun floor new a) (gateway.begun g old new) other q
reached_other floor g old new other q a not_old not_new (inl before) =
    let same = floor_other floor new other a not_new in inl (omega (arith, same, before))
reached_other floor g old new other q a not_old not_new (inr executed) =
    let same = executed_other g old new other not_old not_new in inr (omega (arith, same, executed))
