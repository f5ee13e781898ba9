-- At first nothing has become of any; one configuration more; at the end none is left.
use Rattle.std.proofs.Common.{◌≡◌, ◌∙◌, ◌+◌, ◌||◌, ◌∷◌, [], ℕ, Bool, true, false, List, drop, refl, sym, ap}
use Rattle.std.proofs.lemmas.List.{drop_all}
use Rattle.mg_model.specs.Script.{Script}
use Rattle.configuration.specs.Packed.{Words}
use Rattle.configuration.specs.Config.{configuration_of}
use Rattle.configuration.proofs.NumberLemmas.{at}
use Rattle.call_ways.specs.declared.fate_sets.FateSet.{FateSet}
use Rattle.call_ways.specs.Crossed.{is_among, is_at, values_of}
use Rattle.call_ways.specs.Fates.{fates_in, has, set_at}
use Rattle.call_ways.proofs.FateSets.{none_has, one_among}
use Rattle.call_ways.proofs.fate_sets.fates_among.Goals as goal

or_false : (a : Bool) → (a || false) ≡ a
or_false true = refl
or_false false = refl

pub loop-config-init : goal.loop-config-init
loop-config-init c = λ place it.
    let all : Bool = is_among c.args.script.now (values_of c.args.configs.now) place it in
    ap (λ (sets : List FateSet). has (set_at sets place) it || all) c.new-sets.ensures.items ∙ ap (λ (b : Bool). b || all) (none_has it)

pub loop-config-preserved : goal.loop-config-preserved
loop-config-preserved c = λ place it.
    let script : Script = c.args.script.now in
    let configs : List Words = c.args.configs.now in
    let i : ℕ = c.loop-config.config-index in
    let config : Words = c.config-item.result in
    let old : Bool = has (set_at c.loop-config.sets.items place) it in
    let here : Bool = is_at (fates_in script (configuration_of config)) place it in
    let rest : Bool = is_among script (values_of (drop (i + 1) configs)) place it in
    let all : Bool = is_among script (values_of configs) place it in
    let next : drop i configs ≡ config ∷ drop (i + 1) configs = at configs i config c.loop-config-test.true c.config-item.is in
    let so_far : (old || (here || rest)) ≡ all =
    ap (λ (left : List Words). old || is_among script (values_of left) place it) (sym next) ∙ c.loop-config.invariant place it in
    let new_is : has (set_at c.in_ok-more.more.items place) it ≡ (old || here) =
    c.in_ok-more.ensures place it ∙ ap (λ (sets : List FateSet). has (set_at sets place) it || here) c.as_slice.ensures.value in
    one_among old (has (set_at c.in_ok-more.more.items place) it) here rest all new_is so_far

pub returns : goal.returns
returns c = λ place it.
    let script : Script = c.args.script.now in
    let configs : List Words = c.args.configs.now in
    let sets : List FateSet = c.loop-config.sets.items in
    let none : drop c.loop-config.config-index configs ≡ [] = drop_all c.loop-config.config-index configs c.loop-config-test.false in
    sym (or_false (has (set_at sets place) it))
    ∙ ap (λ (left : List Words). has (set_at sets place) it || is_among script (values_of left) place it) (sym none)
    ∙ c.loop-config.invariant place it
