-- What holds of a document within the limits.
use Rattle.std.proofs.Common.{◌≡◌, ◌≤◌, ℕ, List, length, false, nat_lt}
use Rattle.std.specs.List.{list_any}
use Rattle.std.proofs.lemmas.Bool.{ltb-false}
use Rattle.scriptreader.specs.Written.{State, Document}
use Rattle.scriptreader.specs.Limits.{is_too_large}
use Rattle.scriptreader.proofs.BooleanTests.{or_left, or_right}

pub at_most : {A : Type 0} (limit : ℕ) (xs : List A) → nat_lt limit (length xs) ≡ false → length xs ≤ limit
at_most limit xs e = ltb-false limit (length xs) e

-- a document within the limits
pub record IsSmall (d : Document) : Type 0 where
  pub lines : length d.lines ≤ 4
  pub contexts : length d.contexts ≤ 4
  pub ephemerals : length d.ephemerals ≤ 4
  pub states : length d.states ≤ 64
  pub events : length d.events ≤ 16
  pub signals : length d.signals ≤ 16
  pub maps : length d.maps ≤ 16
  pub commands : list_any (λ (s : State). nat_lt 16 (length s.commands)) d.states ≡ false

pub small : (d : Document) → is_too_large d ≡ false → IsSmall d
small d e =
    let e2 = or_right _ _ e in
    let e3 = or_right _ _ e2 in
    let e4 = or_right _ _ e3 in
    let e5 = or_right _ _ e4 in
    let e6 = or_right _ _ e5 in
    let e7 = or_right _ _ e6 in
    record {
      lines = at_most 4 d.lines (or_left _ _ e);
      contexts = at_most 4 d.contexts (or_left _ _ e2);
      ephemerals = at_most 4 d.ephemerals (or_left _ _ e3);
      states = at_most 64 d.states (or_left _ _ e4);
      events = at_most 16 d.events (or_left _ _ e5);
      signals = at_most 16 d.signals (or_left _ _ e6);
      maps = at_most 16 d.maps (or_left _ _ e7);
      commands = or_right _ _ e7;
    }
