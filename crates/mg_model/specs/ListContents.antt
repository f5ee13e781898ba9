-- What the lists of a script hold, as the descriptors of a request have it: an item with its digit map, and a list of signals as the set
-- of those that it names. This profile's own. A reader should check that a list keeps its items in their order, and that a signal is in
-- the set exactly where the list names it.
use Rattle.std.specs.Prelude.{ℕ, Bool, true, false, List, [], map, slice_get, unwrap_or, option_map}
use Rattle.std.specs.List.{list_any}
use Rattle.mg_names.specs.declared.signals.Signal.{Signal}
use Rattle.mg_names.specs.declared.signals.Signal.TheVariants.{Ring, DialTone, RingingTone, BusyTone, CongestionTone}
use Rattle.mg_model.specs.declared.commands.EventsName.{EventsName}
use Rattle.mg_model.specs.declared.commands.SignalsName.{SignalsName}
use Rattle.mg_model.specs.declared.line_events.SignalSet.{SignalSet}
use Rattle.mg_model.specs.declared.transitions.EventItem.{EventItem}
use Rattle.mg_model.specs.declared.transitions.EventItem.TheVariants as item
use Rattle.mg_model.specs.LineEvents.{ListItem}
use Rattle.mg_model.specs.Script.{Script, NamedMap, DigitMap}
use Rattle.mg_model.specs.Tables.{items_of, signals_of}

abbrev pub map_of : Script → ℕ → DigitMap
map_of script m = unwrap_or (option_map (λ (named : NamedMap). named.map) (slice_get script.maps m)) []

-- an item with its digit map
abbrev pub list_item : Script → EventItem ℕ → ListItem
list_item script (item.OnHook strict) = item.OnHook strict
list_item script (item.OffHook strict) = item.OffHook strict
list_item script item.Flash = item.Flash
list_item script (item.Digits m) = item.Digits (map_of script m)

abbrev pub list_of : Script → EventsName → List ListItem
list_of script name = map (list_item script) (items_of script name)

abbrev pub same_signal : Signal → Signal → Bool
same_signal Ring Ring = true
same_signal DialTone DialTone = true
same_signal RingingTone RingingTone = true
same_signal BusyTone BusyTone = true
same_signal CongestionTone CongestionTone = true
same_signal a b = false

abbrev pub names_signal : List Signal → Signal → Bool
names_signal signals s = list_any (same_signal s) signals

abbrev pub set_of : Script → SignalsName → SignalSet
set_of script name = record {
  ring = names_signal (signals_of script name) Ring;
  dial_tone = names_signal (signals_of script name) DialTone;
  ringing_tone = names_signal (signals_of script name) RingingTone;
  busy_tone = names_signal (signals_of script name) BusyTone;
  congestion_tone = names_signal (signals_of script name) CongestionTone;
}
