use Rattle.std.proofs.Common.{◌≡◌, ◌∙◌, sym, subst}
use Rattle.requests.specs.Connected.{Connected}
use Rattle.gateway.specs.Standby.{HasEnd}
use Rattle.gateway.proofs.StandbyLemmas.{can_follow, followed}
use Rattle.gateway.proofs.active_and_standby.ActiveAndStandby.change_places.Goals as goal

pub follow-requires : goal.follow-requires
follow-requires c =
    let start : c.args.self.now ≡ c.replace-before.result = sym (c.replace-before.ensures.value ∙ c.self.view_is) in
    can_follow c.replace-before.result c.args.ended c.args.request.now c.args.chosen c.args.results.now
    (subst (λ (s : Connected). HasEnd s c.args.request.now c.args.chosen c.args.ended c.args.results.now) start c.requires)

pub invariant_of-self : goal.invariant_of-self
invariant_of-self c =
    let start : c.args.self.now ≡ c.replace-before.result = sym (c.replace-before.ensures.value ∙ c.self.view_is) in
    followed c.replace-before.result c.args.ended c.replace-before.new.dest c.args.request.now c.args.chosen c.args.results.now c.follow.result
    (subst (λ (s : Connected). HasEnd s c.args.request.now c.args.chosen c.args.ended c.args.results.now) start c.requires) c.replace-before.ensures.after c.follow.ensures
