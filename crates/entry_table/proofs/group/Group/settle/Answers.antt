-- One sieve more is settled or kept; at the end, all are.
use Rattle.std.proofs.Common.{◌≡◌, ◌∙◌, ◌&&◌, ◌<◌, ◌≤◌, List, Bool, true, false, drop, length, refl, ap, subst}
use Rattle.std.specs.List.{slice_index_or}
use Rattle.std.proofs.lemmas.List.{drop_all}
use Rattle.entry_table.specs.Sieves.{Group, Sieve, is_like, passes, passes_sieves}
use Rattle.entry_table.proofs.SieveLemmas.{all_of_it, one_more_asked}
use Rattle.entry_table.proofs.group.Group.settle.Goals as goal

begun : (a b : Bool) → ((a && true) && b) ≡ (a && b)
begun true b = refl
begun false b = refl

pub loop-sieve-init : goal.loop-sieve-init
loop-sieve-init c member w below has_member =
    let like = is_like c.self.inside.alike w in
    let all = passes_sieves c.args.self.now.sieves member w in
    ap (λ (xs : List Sieve). (like && passes_sieves xs member w) && all) c.new-kept.ensures.items ∙ begun like all
    ∙ ap (λ (g : Group). is_like g.alike w && all) c.self.view_is

pub loop-sieve-preserved : goal.loop-sieve-preserved
loop-sieve-preserved c member w below has_member =
    let sieves = c.args.self.now.sieves in
    let i = c.loop-sieve.sieve-index in
    let same : c.deref-sieve-items.result.now ≡ sieves = c.deref-sieve-items.ensures.value ∙ ap (λ (g : Group). g.sieves) c.self.view_is in
    one_more_asked (λ s. passes s member w) sieves i c.sieve-item.result
    (is_like c.loop-sieve.alike w && passes_sieves c.loop-sieve.kept.items member w)
    (is_like c.settle_or_keep.new.alike w && passes_sieves c.settle_or_keep.new.kept.items member w)
    (subst (λ (xs : List Sieve). i < length xs) same c.loop-sieve-test.true)
    (c.sieve-item.is ∙ ap (λ (xs : List Sieve). slice_index_or xs i c.sieve-item.result) same)
    (c.in_ok-settle_or_keep.ensures member w below has_member)
    ∙ c.loop-sieve.invariant member w below has_member

pub returns : goal.returns
returns c = record {
  same = λ member w below has_member.
      let sieves = c.args.self.now.sieves in
      let i = c.loop-sieve.sieve-index in
      let same : c.deref-sieve-items.result.now ≡ sieves = c.deref-sieve-items.ensures.value ∙ ap (λ (g : Group). g.sieves) c.self.view_is in
      all_of_it (is_like c.loop-sieve.alike w && passes_sieves c.loop-sieve.kept.items member w) (passes_sieves (drop i sieves) member w)
      (ap (λ (xs : List Sieve). passes_sieves xs member w) (drop_all i sieves (subst (λ (xs : List Sieve). length xs ≤ i) same c.loop-sieve-test.false)))
      ∙ c.loop-sieve.invariant member w below has_member;
}
