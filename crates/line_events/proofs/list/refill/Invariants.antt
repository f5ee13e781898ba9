-- The items so far are there, there is room for all, and none that is left has a digit map.
use Rattle.std.proofs.Common.{◌≡◌, ◌≤◌, None, length, drop, take, vec_capacity, vec_len}
use Rattle.mg_model.specs.LineEvents.{map_in}
use Rattle.line_events.proofs.list.refill.Given as goal

abbrev pub invariant-loop-item : goal.invariant-loop-item
invariant-loop-item l = record {
  put : l.found.items ≡ take l.item-index l.items;
  count : vec_len l.found ≡ l.item-index;
  room : length l.items ≤ vec_capacity l.found;
  plain : map_in (drop l.item-index l.items) ≡ None;
}
