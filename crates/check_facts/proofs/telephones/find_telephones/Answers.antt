-- One line more.
use Rattle.std.proofs.Common.{◌≡◌, ◌∙◌, ◌<◌, ℕ, arith, subst, sym}
use Rattle.call_ends.specs.RestingTelephones.{AreRestingTelephones}
use Rattle.check_facts.proofs.Forgotten.{is_slot, one_line}
use Rattle.check_facts.proofs.telephones.find_telephones.Goals as goal

pub loop-place-preserved : goal.loop-place-preserved
loop-place-preserved c =
    let place : ℕ = c.loop-place.place in
    let below : place < 4 = omega (arith, c.loop-place-test.true, c.lines-place-end.ensures.few) in
    let searched : c.index-slots-place.result ≡ place =
    is_slot c.all-slots.result place c.index-slots-place.result c.all-slots.ensures below c.index-slots-place.is in
    let kept : c.index-slots-place-in-loop-place.result ≡ place =
    is_slot c.all-slots.result place c.index-slots-place-in-loop-place.result c.all-slots.ensures below c.index-slots-place-in-loop-place.is in
    one_line c.args.script.now c.args.cert.now c.loop-place.list.items c.push.new.self.items place _ c.loop-place.invariant c.in_ok-push.ensures.items
    (sym c.index-slots-place-in-loop-place.is ∙ kept)
    (subst (λ (i : ℕ). AreRestingTelephones c.args.script.now c.args.cert.now i c.in-Some.states.items)
    (sym c.index-slots-place.is ∙ searched)
    (rw c.in-Some.is at c.in_ok-states.ensures.some))
