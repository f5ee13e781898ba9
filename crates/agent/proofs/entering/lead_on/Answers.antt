-- The target of the state is entered.
use Rattle.agent.proofs.entering.lead_on.Goals as goal

pub returns-in-None : goal.returns-in-None
returns-in-None c = rw (c.in-None.is, ← c.ok_of.ensures) c.enter_or_rest.ensures

pub returns-in-Some : goal.returns-in-Some
returns-in-Some c = rw (c.in-Some.is, ← c.fault_of.ensures) c.enter_if.ensures
