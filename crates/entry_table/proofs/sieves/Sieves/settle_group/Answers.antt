-- One group asks the same of its lists.
use Rattle.std.proofs.Common.{◌≡◌, ◌∙◌, ◌<◌, length, ap, arith}
use Rattle.std.specs.List.{slice_index_or}
use Rattle.std.proofs.lemmas.List.{get_or_default}
use Rattle.entry_table.specs.Sieves.{Group, Sieves, bare, passes_all, is_left}
use Rattle.entry_table.proofs.LeftLemmas.{settled}
use Rattle.entry_table.proofs.sieves.Sieves.settle_group.Goals as goal

pub returns-in_err-settle-clause-left : goal.returns-in_err-settle-clause-left
returns-in_err-settle-clause-left c number w =
    let items = c.self.inside.groups.items in
    let k = c.args.place in
    let inside : k < length items = omega (arith, c.requires, ap (λ (s : Sieves). length s.groups) c.self.view_is) in
    let group : c.index_mut-group.result.now ≡ slice_index_or items k bare =
    c.index_mut-group.ensures.value ∙ get_or_default items k c.index_mut-group.result.now bare inside in
    settled c.self.inside.count items k c.settle.new.self w c.first_members-members.result inside c.first_members-members.ensures
    (λ m below has_m. c.settle.ensures.same m w below has_m ∙ ap (λ (g : Group). passes_all g m w) group) number
    ∙ ap (λ (s : Sieves). is_left s number w) c.self.view_is

pub returns-clause-left : goal.returns-clause-left
returns-clause-left c number w =
    let items = c.self.inside.groups.items in
    let k = c.args.place in
    let inside : k < length items = omega (arith, c.requires, ap (λ (s : Sieves). length s.groups) c.self.view_is) in
    let group : c.index_mut-group.result.now ≡ slice_index_or items k bare =
    c.index_mut-group.ensures.value ∙ get_or_default items k c.index_mut-group.result.now bare inside in
    settled c.self.inside.count items k c.settle.new.self w c.first_members-members.result inside c.first_members-members.ensures
    (λ m below has_m. c.settle.ensures.same m w below has_m ∙ ap (λ (g : Group). passes_all g m w) group) number
    ∙ ap (λ (s : Sieves). is_left s number w) c.self.view_is
