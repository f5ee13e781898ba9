-- A sieve more is asked; at the end, all were.
use Rattle.std.proofs.Common.{◌≡◌, ◌∙◌, ◌&&◌, ◌+◌, ◌<◌, ◌≤◌, List, length, drop, subst, ap, sym}
use Rattle.std.specs.List.{slice_index_or}
use Rattle.std.proofs.lemmas.List.{drop_all}
use Rattle.configuration.specs.Bits.{has}
use Rattle.configuration.proofs.BitLemmas.{has_none}
use Rattle.entry_table.specs.Sieves.{Group, Sieve, passes_sieves}
use Rattle.entry_table.proofs.SieveLemmas.{all_of_it, nothing, sifted}
use Rattle.entry_table.proofs.group.Group.left_by_sieves.Goals as goal

pub loop-sieve-preserved : goal.loop-sieve-preserved
loop-sieve-preserved c member below =
    let sieves = c.args.self.now.sieves in
    let i = c.loop-sieve.sieve-index in
    let same : c.deref-sieve-items.result.now ≡ sieves = c.deref-sieve-items.ensures.value ∙ ap (λ (g : Group). g.sieves) c.self.view_is in
    sifted sieves i c.sieve-item.result c.loop-sieve.left c.row-left.result member c.args.config.now
    (subst (λ (xs : List Sieve). i < length xs) same c.loop-sieve-test.true)
    (c.sieve-item.is ∙ ap (λ (xs : List Sieve). slice_index_or xs i c.sieve-item.result) same) (c.row-left.ensures member c.args.config.now c.words_of-words.ensures.words below)
    ∙ c.loop-sieve.invariant member below

pub returns-then-left-eq0 : goal.returns-then-left-eq0
returns-then-left-eq0 c member below =
    let sieves = c.args.self.now.sieves in
    let i = c.loop-sieve.sieve-index in
    let rest = passes_sieves (drop (i + 1) sieves) member c.args.config.now in
    let same : c.deref-sieve-items.result.now ≡ sieves = c.deref-sieve-items.ensures.value ∙ ap (λ (g : Group). g.sieves) c.self.view_is in
    nothing (has 0 member) rest (has_none member) ∙ ap (λ row. has row member && rest) (sym c.if-left-eq0.true)
    ∙ sifted sieves i c.sieve-item.result c.loop-sieve.left c.row-left.result member c.args.config.now
    (subst (λ (xs : List Sieve). i < length xs) same c.loop-sieve-test.true)
    (c.sieve-item.is ∙ ap (λ (xs : List Sieve). slice_index_or xs i c.sieve-item.result) same) (c.row-left.ensures member c.args.config.now c.words_of-words.ensures.words below)
    ∙ c.loop-sieve.invariant member below

pub returns : goal.returns
returns c member below =
    let sieves = c.args.self.now.sieves in
    let i = c.loop-sieve.sieve-index in
    let same : c.deref-sieve-items.result.now ≡ sieves = c.deref-sieve-items.ensures.value ∙ ap (λ (g : Group). g.sieves) c.self.view_is in
    let none = drop_all i sieves (subst (λ (xs : List Sieve). length xs ≤ i) same c.loop-sieve-test.false) in
    all_of_it (has c.loop-sieve.left member) (passes_sieves (drop i sieves) member c.args.config.now)
    (ap (λ (xs : List Sieve). passes_sieves xs member c.args.config.now) none)
    ∙ c.loop-sieve.invariant member below
