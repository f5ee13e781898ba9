-- One member of one group is narrowed.
use Rattle.std.proofs.Common.{◌≡◌, ◌∙◌, ◌/◌, ◌%◌, ◌<◌, ◌==◌, ◌&&◌, ◌||◌, not, length, refl, ap, arith}
use Rattle.std.specs.List.{slice_index_or}
use Rattle.std.proofs.lemmas.List.{get_or_default}
use Rattle.configuration.specs.Regions.{is_in}
use Rattle.entry_table.specs.Sieves.{Group, Sieves, bare, passes_all, is_left}
use Rattle.entry_table.proofs.LeftLemmas.{narrowed_here, narrowed_others}
use Rattle.entry_table.proofs.sieves.Sieves.narrow.Goals as goal

pub returns-clause-here : goal.returns-clause-here
returns-clause-here c w =
    let items = c.self.inside.groups.items in
    let k = c.args.number / 64 in
    let allowed = is_in c.args.set.now w in
    let count = ap (λ (s : Sieves). s.count) c.self.view_is in
    let inside : k < length items = omega (arith, count, c.self.invariant.0, c.requires) in
    let group : c.index_mut-group.result.now ≡ slice_index_or items k bare =
    c.index_mut-group.ensures.value ∙ get_or_default items k c.index_mut-group.result.now bare inside in
    narrowed_here c.self.inside.count items k c.narrow.new.self w (c.args.number % 64) allowed inside
    (λ m small. c.in_ok-narrow.ensures.within m w small
    ∙ ap (λ (g : Group). passes_all g m w && (not (m == c.args.number % 64) || allowed)) group) c.args.number refl refl
    ∙ ap (λ (s : Sieves). is_left s c.args.number w && allowed) c.self.view_is

pub returns-clause-others : goal.returns-clause-others
returns-clause-others c other w apart =
    let items = c.self.inside.groups.items in
    let k = c.args.number / 64 in
    let allowed = is_in c.args.set.now w in
    let count = ap (λ (s : Sieves). s.count) c.self.view_is in
    let inside : k < length items = omega (arith, count, c.self.invariant.0, c.requires) in
    let group : c.index_mut-group.result.now ≡ slice_index_or items k bare =
    c.index_mut-group.ensures.value ∙ get_or_default items k c.index_mut-group.result.now bare inside in
    narrowed_others c.self.inside.count items k c.narrow.new.self w (c.args.number % 64) allowed inside
    (λ m small. c.in_ok-narrow.ensures.within m w small
    ∙ ap (λ (g : Group). passes_all g m w && (not (m == c.args.number % 64) || allowed)) group) c.args.number other refl refl apart
    ∙ ap (λ (s : Sieves). is_left s other w) c.self.view_is
