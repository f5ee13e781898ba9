-- The script of the examples: line a goes off hook and is put into a context with line b; it goes on hook, and the call ends. Which pairs
-- of lines its state `talk` marks is left open.
use Rattle.std.specs.Prelude.{true, false, List, [], ◌∷◌, Some, None, codes}
use Rattle.mg_names.specs.declared.kinds.Kind.TheVariants.{On, Of}
use Rattle.mg_names.specs.declared.modes.Mode.TheVariants.{SendReceive}
use Rattle.mg_names.specs.declared.strictness.Strict.TheVariants.{State as StateOfHook}
use Rattle.mg_model.specs.declared.commands.Command.TheVariants.{AddLine, ModifyLine, SubtractAll}
use Rattle.mg_model.specs.declared.commands.EventsName.TheVariants.{Armed, Own}
use Rattle.mg_model.specs.declared.commands.SignalsName.TheVariants.{Silent}
use Rattle.mg_model.specs.declared.commands.Place.TheVariants.{NullContext}
use Rattle.mg_model.specs.declared.transitions.EventItem.TheVariants as item
use Rattle.mg_model.specs.declared.transitions.Pair.{Pair}
use Rattle.mg_model.specs.declared.transitions.EventItem.TheVariants.{OnHook}
use Rattle.mg_model.specs.Script.{Script, State}

abbrev pub idle : State
idle = record {
  name = codes "idle";
  commands = [];
  talk = [];
  is_end = false;
  ok = None;
  fault = None;
  timer = None;
  on = record { line = 0; kind = Of; target = 1 } ∷ [];
}

-- which pairs of lines it marks as talking is left open
abbrev pub talk : List Pair → State
talk marks = record {
  name = codes "talk";
  commands =
      AddLine true 0 0 record { mode = Some SendReceive; events = Some (Own 0); signals = None }
      ∷ AddLine false 0 1 record { mode = Some SendReceive; events = None; signals = None } ∷ [];
  talk = marks;
  is_end = false;
  ok = None;
  fault = Some 2;
  timer = None;
  on = record { line = 0; kind = On; target = 2 } ∷ [];
}

abbrev pub part : State
part = record {
  name = codes "part";
  commands = SubtractAll 0 ∷ [];
  talk = record { first = 0; second = 1 } ∷ [];
  is_end = false;
  ok = Some 4;
  fault = Some 2;
  timer = None;
  on = [];
}

abbrev pub done : State
done = record {
  name = codes "done";
  commands = [];
  talk = [];
  is_end = true;
  ok = None;
  fault = None;
  timer = None;
  on = [];
}

abbrev pub rearm : State
rearm = record {
  name = codes "rearm";
  commands =
      ModifyLine NullContext 0 record { mode = None; events = Some Armed; signals = Some Silent }
      ∷ ModifyLine NullContext 1 record { mode = None; events = Some Armed; signals = Some Silent } ∷ [];
  talk = [];
  is_end = false;
  ok = Some 3;
  fault = Some 4;
  timer = None;
  on = [];
}

abbrev pub basic : List Pair → Script
basic marks = record {
  lines = codes "a" ∷ codes "b" ∷ [];
  contexts = codes "c" ∷ [];
  ephemerals = [];
  lists = record { name = codes "hang"; items = item.OnHook StateOfHook ∷ [] } ∷ [];
  signals = [];
  maps = [];
  states = idle ∷ talk marks ∷ part ∷ done ∷ rearm ∷ [];
  start = 0;
  restart = 4;
}
