-- It exists in all, in none, or in some; or its name is bound in none.
use Rattle.std.proofs.Common.{◌≡◌, true, false, map, rules}
use Rattle.mg_names.specs.declared.context_values.ContextValue.TheVariants.{Free, Live}
use Rattle.mg_model.specs.Configuration.{Configuration, stands_in}
use Rattle.configuration.specs.Config.{configuration_of}
use Rattle.closure.proofs.HullLemmas.{each_passed}
use Rattle.closure.proofs.HullPlaces.{all_valued, either_in_hull, free_stays, none_stands, not_bound, one_more}
use Rattle.closure.proofs.hull_contexts.settled_each.Goals as goal

pub returns-then-does_one_stand : goal.returns-then-does_one_stand
returns-then-does_one_stand c =
    all_valued (map configuration_of c.args.hull) c.args.context true (c.does_one_stand.ensures c.if-does_one_stand.true) c.valued_each.result c.valued_each.ensures

pub returns-then-all : goal.returns-then-all
returns-then-all c =
    all_valued (map configuration_of c.args.hull) c.args.context false
    (λ d inside. none_stands (map configuration_of c.args.hull) c.args.context d inside
    (each_passed _ _ true (λ (e : Configuration). stands_in e.spot c.args.context ≡ false) c.args.hull (c.all.ensures c.if-all.true) (λ x e. search rules)))
    c.valued_each-then-all.result c.valued_each-then-all.ensures

pub returns-in_default : goal.returns-in_default
returns-in_default c d inside =
    free_stays (map configuration_of c.args.hull) c.args.context d inside
    (each_passed _ _ false (λ (e : Configuration). e.context c.args.context ≡ Free) c.args.hull c.in_default.ensures.none (λ x e. not_bound _ (search rules)))

-- in some it stands for what exists, and in some for what doesn't
pub returns : goal.returns
returns c d inside =
    let some = map configuration_of c.args.hull in
    let more = map configuration_of c.add_context.new.hull in
    let made = map configuration_of c.add_context-2.new.hull in
    either_in_hull some made (λ e has. c.in_ok-add_context-2.ensures.kept e (c.in_ok-add_context.ensures.kept e has)) c.args.context
    (one_more more made c.in_ok-add_context-2.ensures.kept (λ (e : Configuration). e.context c.args.context) Live c.in_ok-add_context.ensures.there)
    c.in_ok-add_context-2.ensures.there d inside
