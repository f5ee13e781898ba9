-- The lists of one group more are asked; at the end, all were.
use Rattle.std.proofs.Common.{◌≡◌, ◌∙◌, ◌*◌, ◌-◌, ◌<◌, ◌&&◌, List, length, nat_lt, ap, subst, arith}
use Rattle.std.specs.List.{list_all, slice_index_or}
use Rattle.std.proofs.lemmas.List.{get_or_default}
use Rattle.entry_table.specs.Sieves.{Group, Sieves, bare, passes_all}
use Rattle.entry_table.proofs.LeftLemmas.{AreLeft, first_found, none_more, none_at_all}
use Rattle.entry_table.proofs.sieves.Sieves.first_left_of_all.Goals as goal

pub returns-then-left-ne0-clause-first : goal.returns-then-left-ne0-clause-first
returns-then-left-ne0-clause-first c =
    let ws = c.args.configs.now in
    let i = c.loop-place.place in
    let items = c.self.inside.groups.items in
    let same : c.deref-group-items.result.now ≡ items = c.deref-group-items.ensures.value in
    let group : c.group-item.result ≡ slice_index_or items i bare =
    c.group-item.is ∙ ap (λ (xs : List Group). slice_index_or xs i c.group-item.result) same
    ∙ get_or_default items i c.group-item.result bare (subst (λ (xs : List Group). i < length xs) same c.loop-place-test.true) in
    first_found c.args.self.now ws i c.left_of_each-left.result c.if-left-ne0.true c.left_of_each-left.type_inv
    (subst (λ (s : Sieves). AreLeft s ws i c.left_of_each-left.result) c.self.view_is
    (λ b below. c.left_of_each-left.ensures b below ∙ ap (λ t. t && list_all (passes_all c.group-item.result b) ws) (c.first_members.ensures b below)
    ∙ ap (λ (g : Group). nat_lt b (c.self.inside.count - 64 * i) && list_all (passes_all g b) ws) group)) c.loop-place.invariant

pub loop-place-preserved : goal.loop-place-preserved
loop-place-preserved c =
    let ws = c.args.configs.now in
    let i = c.loop-place.place in
    let items = c.self.inside.groups.items in
    let same : c.deref-group-items.result.now ≡ items = c.deref-group-items.ensures.value in
    let group : c.group-item.result ≡ slice_index_or items i bare =
    c.group-item.is ∙ ap (λ (xs : List Group). slice_index_or xs i c.group-item.result) same
    ∙ get_or_default items i c.group-item.result bare (subst (λ (xs : List Group). i < length xs) same c.loop-place-test.true) in
    none_more c.args.self.now ws i c.left_of_each-left.result c.if-left-ne0.false
    (subst (λ (s : Sieves). AreLeft s ws i c.left_of_each-left.result) c.self.view_is
    (λ b below. c.left_of_each-left.ensures b below ∙ ap (λ t. t && list_all (passes_all c.group-item.result b) ws) (c.first_members.ensures b below)
    ∙ ap (λ (g : Group). nat_lt b (c.self.inside.count - 64 * i) && list_all (passes_all g b) ws) group)) c.loop-place.invariant

pub returns-clause-none : goal.returns-clause-none
returns-clause-none c =
    let count = ap (λ (s : Sieves). s.count) c.self.view_is in
    let long = ap (λ (xs : List Group). length xs) c.deref-group-items.ensures.value in
    none_at_all c.args.self.now c.args.configs.now c.loop-place.place (omega (arith, count, long, c.self.invariant.0, c.loop-place-test.false))
    c.loop-place.invariant
