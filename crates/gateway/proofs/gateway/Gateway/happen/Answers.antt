use Rattle.std.proofs.Common.{◌≡◌, ◌∙◌, ◌+◌, ◌≤◌, true, Some, None, Ok, refl, sym, ap, subst, arith}
use Rattle.mg_model.specs.Numbers.{last_number}
use Rattle.mg_model.specs.Gateway.{outcome_of}
use Rattle.line_events.specs.Raising.{is_raised}
use Rattle.mg_names.specs.declared.identifiers.TermId.TheVariants.{Eph}
use Rattle.mg_model.specs.Board.{Board, exists}
use Rattle.requests.specs.Connected.{board_in, line_in, has_line}
use Rattle.gateway.specs.Answers.{CannotOccur, IsSame, IsHappened}
use Rattle.gateway.specs.Calls.{call_in, counting, link_of}
use Rattle.gateway.specs.GatewayValue.{GatewayValue}
use Rattle.gateway.specs.Holders.{IsHolder}
use Rattle.gateway.proofs.HappenLemmas.{cannot_answered, raised_answered, silent_event, noted_event}
use Rattle.gateway.proofs.HolderLemmas.{link_last}
use Rattle.gateway.proofs.TieLemmas.{open_still, tied_still}
use Rattle.gateway.proofs.gateway.Gateway.happen.Goals as goal

pub returns-in_default : goal.returns-in_default
returns-in_default c = (c.in_default.ensures, (refl, λ call. refl))

pub returns-in_default-happen : goal.returns-in_default-happen
returns-in_default-happen c =
    let v : GatewayValue = record { association = c.self.inside.association.0; connected = c.self.inside.connections; holders = c.self.inside.holders.entries; calls = c.self.inside.calls.entries; creators = c.self.inside.creators.entries } in
    let holder : IsHolder v c.args.line.0 c.args.event c.in-Some.holder = subst (λ (w : GatewayValue). IsHolder w c.args.line.0 c.args.event c.in-Some.holder) (sym c.self.view_is) c.in-Some.ensures in
    subst (λ (w : GatewayValue). CannotOccur w c.args.line.0 c.args.event
    × IsSame w (record { association = v.association; connected = c.happen.new.self; holders = v.holders; calls = v.calls; creators = v.creators })) c.self.view_is
    (cannot_answered v c.happen.new.self c.args.line.0 c.args.event c.in-Some.holder.call c.in_default-happen.field-0 c.self.invariant (sym holder.holds)
    c.in_default-happen.ensures.answer c.happen.ensures.board c.happen.ensures.lines)

pub returns-in_default-note : goal.returns-in_default-note
returns-in_default-note c =
    let v : GatewayValue = record { association = c.self.inside.association.0; connected = c.self.inside.connections; holders = c.self.inside.holders.entries; calls = c.self.inside.calls.entries; creators = c.self.inside.creators.entries } in
    let holder : IsHolder v c.args.line.0 c.args.event c.in-Some.holder = subst (λ (w : GatewayValue). IsHolder w c.args.line.0 c.args.event c.in-Some.holder) (sym c.self.view_is) c.in-Some.ensures in
    let last : (link_of (call_in v.calls c.in-Some.holder.call)).notes ≡ c.in-Some.holder.last = link_last v c.args.line.0 c.args.event c.in-Some.holder holder in
    let most : c.in-Some.holder.last ≤ last_number = holder.most in
    let few : (link_of (call_in v.calls c.in-Some.holder.call)).notes ≤ last_number = omega (arith, last, most) in
    let new : GatewayValue = record { association = v.association; connected = c.happen.new.self; holders = v.holders; calls = v.calls; creators = v.creators } in
    subst (λ (w : GatewayValue). IsHappened w c.args.line.0 c.args.event new (Ok None)) c.self.view_is
    (silent_event v c.happen.new.self c.args.line.0 c.args.event c.in-Some.holder.call c.in-Ok.note c.in_default-note.is (sym holder.holds)
    c.in-Ok.ensures.answer c.happen.ensures.board c.happen.ensures.lines few)

pub returns : goal.returns
returns c =
    let v : GatewayValue = record { association = c.self.inside.association.0; connected = c.self.inside.connections; holders = c.self.inside.holders.entries; calls = c.self.inside.calls.entries; creators = c.self.inside.creators.entries } in
    let holder : IsHolder v c.args.line.0 c.args.event c.in-Some.holder = subst (λ (w : GatewayValue). IsHolder w c.args.line.0 c.args.event c.in-Some.holder) (sym c.self.view_is) c.in-Some.ensures in
    let raised : is_raised (outcome_of (line_in v.connected c.args.line.0) c.args.event) ≡ true =
    raised_answered _ _ c.in-Ok.note c.in-Some-note.note c.in-Some-note.is c.in-Ok.ensures.answer in
    let new : GatewayValue = record { association = v.association; connected = c.happen.new.self; holders = v.holders; calls = c.count.new.calls.entries; creators = v.creators } in
    subst (λ (w : GatewayValue). IsHappened w c.args.line.0 c.args.event new (Ok (Some c.new.result))) c.self.view_is (
      noted_event v c.happen.new.self c.count.new.calls.entries c.args.line.0 c.args.event c.in-Some.holder.call holder.state c.in-Some.holder.last
          c.in-Ok.note c.in-Some-note.note c.new.result c.in-Some-note.is (sym holder.holds) c.in-Ok.ensures.answer c.happen.ensures.board c.happen.ensures.lines
          holder.is_state holder.last_is (holder.room raised) c.new.ensures c.count.ensures,
      open_still v new c.in-Some.holder.call (counting (c.in-Some.holder.last + 1)) c.count.ensures,
    )

pub invariant_of-self-2 : goal.invariant_of-self-2
invariant_of-self-2 c =
    let v : GatewayValue = record { association = c.self.inside.association.0; connected = c.self.inside.connections; holders = c.self.inside.holders.entries; calls = c.self.inside.calls.entries; creators = c.self.inside.creators.entries } in
    let board : board_in c.happen.new.self ≡ board_in v.connected = c.happen.ensures.board in
    tied_still v _ c.in-Some.holder.call (counting (c.in-Some.holder.last + 1)) refl refl refl (λ s. refl) (λ s. refl) (λ s. refl)
    (λ l. ap (λ (b : Board). has_line b l) board) c.count.ensures
    (λ k. ap (λ (b : Board). b.used_ephemeral k) board ∙ c.self.invariant.settled k ∙ ap (λ (b : Board). exists b (Eph k)) (sym board)) c.self.invariant
