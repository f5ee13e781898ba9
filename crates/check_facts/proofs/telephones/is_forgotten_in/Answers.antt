-- Past the last there is none.
use Rattle.std.proofs.Common.{◌≡◌, Some, length, refl}
use Rattle.std.specs.List.{slice_get}
use Rattle.std.proofs.lemmas.Option.{slice_get_read}
use Rattle.check_facts.proofs.Forgotten.{past_states, state_says}
use Rattle.check_facts.proofs.telephones.is_forgotten_in.Goals as goal

pub returns-in_default : goal.returns-in_default
returns-in_default c = past_states c.args.script.now c.args.states.now c.args.state c.in_default.ensures.lookup.3

pub returns : goal.returns
returns c =
    let there : slice_get c.args.states.now c.args.state ≡ Some c.in-Some.one.now =
    slice_get_read c.args.states.now (length c.args.states.now) c.args.state c.in-Some.one.now refl c.in-Some.ensures.lookup.3.0 c.in-Some.ensures.lookup.1 in
    state_says c.args.script.now c.args.states.now c.args.state c.in-Some.one.now c.is_forgotten.result there c.is_forgotten.ensures
