-- That the gateway's side of the definitions and the checker's agree on what each wrote down by itself: which modes let media in and
-- out, and which way a Topology descriptor cuts.
use Rattle.mg_safety.proofs.Words.{◌≡◌, refl, not, Mode, Inactive, Topology, cuts_forward, cuts_backward, second_receives, first_receives, receives, sends}
use Rattle.mg_safety.proofs.Words.{passes_in, passes_out}
use Rattle.mg_names.specs.declared.topologies.Topology.TheVariants.{Isolate}
use Rattle.mg_safety.specs.Laws.{SidesAgree}

pub receives_is : (mode : Mode) → receives mode ≡ passes_in mode
receives_is Inactive = refl
receives_is mode = refl

pub sends_is : (mode : Mode) → sends mode ≡ passes_out mode
sends_is Inactive = refl
sends_is mode = refl

pub forward_is : (topology : Topology) → not (second_receives topology) ≡ cuts_forward topology
forward_is Isolate = refl
forward_is topology = refl

pub backward_is : (topology : Topology) → not (first_receives topology) ≡ cuts_backward topology
backward_is Isolate = refl
backward_is topology = refl

pub sides_agree : SidesAgree
sides_agree = record { receives = receives_is; sends = sends_is; forward = forward_is; backward = backward_is }
