-- The names that a document declares, of each kind, and names that come twice.
use Rattle.std.specs.Prelude.{ℕ, List, [], map, Bool, false, ◌≡◌}
use Rattle.mg_names.specs.Words.{event_name_text}
use Rattle.mg_names.specs.declared.events.EventName.TheVariants as event
use Rattle.scriptreader.specs.declared.syntax.WrittenItem.{WrittenItem}
use Rattle.scriptreader.specs.declared.syntax.WrittenItem.TheVariants.{OnHook, OffHook, Flash, Digits}
use Rattle.scriptreader.specs.Written.{Document}
use Rattle.typed_values.specs.Names.{repeats_after}

-- an item's event: two items of one event repeat it, even where their parameters differ
abbrev pub event_text : WrittenItem → List ℕ
event_text (OnHook strict) = event_name_text event.OnHook
event_text (OffHook strict) = event_name_text event.OffHook
event_text Flash = event_name_text event.Flash
event_text (Digits map) = event_name_text event.DigitMapCompletion

abbrev pub repeats : List (List ℕ) → Bool
repeats names = repeats_after [] names

-- the names of each kind
pub record Scope : Type 0 where
  pub lines : List (List ℕ)
  pub contexts : List (List ℕ)
  pub ephemerals : List (List ℕ)
  pub events : List (List ℕ)
  pub signals : List (List ℕ)
  pub maps : List (List ℕ)
  pub states : List (List ℕ)

abbrev pub scope_of : Document → Scope
scope_of d = record {
  lines = d.lines;
  contexts = d.contexts;
  ephemerals = d.ephemerals;
  events = map (λ e. e.name) d.events;
  signals = map (λ s. s.name) d.signals;
  maps = map (λ m. m.name) d.maps;
  states = map (λ s. s.name) d.states;
}

abbrev pub no_names : Scope
no_names = record { lines = []; contexts = []; ephemerals = []; events = []; signals = []; maps = []; states = [] }

-- of each kind whose names don't repeat, the scope has these names
pub record IsScopeOf (d : Document) (k : Scope) : Type 0 where
  pub lines : repeats (map (λ n. n) d.lines) ≡ false → k.lines ≡ map (λ n. n) d.lines
  pub contexts : repeats (map (λ n. n) d.contexts) ≡ false → k.contexts ≡ map (λ n. n) d.contexts
  pub ephemerals : repeats (map (λ n. n) d.ephemerals) ≡ false → k.ephemerals ≡ map (λ n. n) d.ephemerals
  pub events : repeats (map (λ e. e.name) d.events) ≡ false → k.events ≡ map (λ e. e.name) d.events
  pub signals : repeats (map (λ s. s.name) d.signals) ≡ false → k.signals ≡ map (λ s. s.name) d.signals
  pub maps : repeats (map (λ m. m.name) d.maps) ≡ false → k.maps ≡ map (λ m. m.name) d.maps
  pub states : repeats (map (λ s. s.name) d.states) ≡ false → k.states ≡ map (λ s. s.name) d.states
