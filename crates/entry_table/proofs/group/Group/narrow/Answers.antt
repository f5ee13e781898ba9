-- One sieve is narrowed.
use Rattle.std.proofs.Common.{◌∙◌, ◌<◌, ◌==◌, ◌&&◌, ◌||◌, not, length, subst, ap, sym}
use Rattle.configuration.specs.Regions.{is_in}
use Rattle.entry_table.specs.Sieves.{Group, Sieve, is_like, passes, passes_all, passes_sieves}
use Rattle.entry_table.proofs.SieveLemmas.{all_with_narrowed, regrouped}
use Rattle.entry_table.proofs.group.Group.narrow.Goals as goal

pub returns-clause-within : goal.returns-clause-within
returns-clause-within c other w below =
    let more = not (other == c.args.member) || is_in c.args.set.now w in
    let place = c.in_ok-place.place in
    let sieves = c.self.inside.sieves.items in
    let like = is_like c.self.inside.alike w in
    ap (λ b. like && b)
    (all_with_narrowed (λ s. passes s other w) sieves place c.narrow.new.self c.index_mut-sieve.result.now more
    (subst (λ (g : Group). place < length g.sieves) (sym c.self.view_is) c.in_ok-place.ensures.place.0)
    (c.narrow.ensures other w below ∙ ap (λ (s : Sieve). passes s other w && more) c.index_mut-sieve.ensures.value))
    ∙ regrouped like (passes_sieves sieves other w) more
    ∙ ap (λ b. b && more) (ap (λ (g : Group). passes_all g other w) c.self.view_is ∙ c.in_ok-place.ensures.same other w below)
