-- Scripts of two lines and one context with three states: in `idle` nothing is asked for; `talk` puts both lines in a new context,
-- SendReceive; where the gateway refuses that, a call is in `stopped` and does nothing more. Which pairs of lines `talk` marks as talking,
-- where `idle` leads and which state is the restart state is left open.
use Rattle.std.specs.Prelude.{ℕ, true, false, List, [], ◌∷◌, Some, None, codes}
use Rattle.mg_names.specs.declared.kinds.Kind.TheVariants.{Of}
use Rattle.mg_names.specs.declared.modes.Mode.TheVariants.{SendReceive}
use Rattle.mg_model.specs.declared.commands.Command.TheVariants.{AddLine}
use Rattle.mg_model.specs.declared.transitions.Pair.{Pair}
use Rattle.mg_model.specs.declared.transitions.Transition.{Transition}
use Rattle.mg_model.specs.Script.{Script, State}

abbrev pub idle : List Transition → State
idle on = record {
  name = codes "idle";
  commands = [];
  talk = [];
  is_end = false;
  ok = None;
  fault = None;
  timer = None;
  on = on;
}

abbrev pub talk : List Pair → State
talk marks = record {
  name = codes "talk";
  commands =
      AddLine true 0 0 record { mode = Some SendReceive; events = None; signals = None }
      ∷ AddLine false 0 1 record { mode = Some SendReceive; events = None; signals = None } ∷ [];
  talk = marks;
  is_end = false;
  ok = None;
  fault = Some 2;
  timer = None;
  on = [];
}

abbrev pub stopped : State
stopped = record (idle []) { name = codes "stopped" }

-- an end state, which other scripts have beside these
abbrev pub done : State
done = record (idle []) { name = codes "done"; is_end = true }

-- a call starts in `idle`
abbrev pub two_lines : List Pair → List Transition → ℕ → Script
two_lines marks on restart = record {
  lines = codes "a" ∷ codes "b" ∷ [];
  contexts = codes "c" ∷ [];
  ephemerals = [];
  lists = [];
  signals = [];
  maps = [];
  states = idle on ∷ talk marks ∷ stopped ∷ [];
  start = 0;
  restart = restart;
}

-- line a goes off hook in `idle`, and the call enters `talk`
abbrev pub to_talk_off_hook : List Transition
to_talk_off_hook = record { line = 0; kind = Of; target = 1 } ∷ []

-- the script in which it does; after a restart a call is in `idle`
abbrev pub calling : List Pair → Script
calling marks = two_lines marks to_talk_off_hook 0

-- the script in which nothing leads to `talk` but a restart, and no pair is marked
abbrev pub recovering : Script
recovering = two_lines [] [] 1
