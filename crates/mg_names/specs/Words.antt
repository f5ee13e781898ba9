-- The words of scripts, certificates and output, and what each stands for. A reader should check each table
-- against the packages of H.248.1 Annex E, and that each `named` is the same table read the other way.
use Rattle.std.specs.Prelude.{ℕ, List, Option, Some, None, codes, if◌then◌else◌}
use Rattle.std.specs.Str.{bytes_eq}
use Rattle.mg_names.specs.declared.modes.Mode.{Mode}
use Rattle.mg_names.specs.declared.modes.Mode.TheVariants.{Inactive, SendOnly, ReceiveOnly, SendReceive}
use Rattle.mg_names.specs.declared.signals.Signal.{Signal}
use Rattle.mg_names.specs.declared.signals.Signal.TheVariants.{Ring, DialTone, RingingTone, BusyTone, CongestionTone}
use Rattle.mg_names.specs.declared.events.EventName.{EventName}
use Rattle.mg_names.specs.declared.events.EventName.TheVariants.{OnHook, OffHook, Flash, DigitMapCompletion}
use Rattle.mg_names.specs.declared.strictness.Strict.{Strict}
use Rattle.mg_names.specs.declared.strictness.Strict.TheVariants.{Exact, State}
use Rattle.mg_names.specs.declared.kinds.Kind.{Kind}
use Rattle.mg_names.specs.declared.kinds.Kind.TheVariants.{On, Of, Fl, Full, Part}
use Rattle.mg_names.specs.declared.topologies.Topology.{Topology}
use Rattle.mg_names.specs.declared.topologies.Topology.TheVariants.{Isolate, Oneway, Bothway}
use Rattle.mg_names.specs.declared.phases.LinkPhase.{LinkPhase}
use Rattle.mg_names.specs.declared.phases.LinkPhase.TheVariants.{Sent, Answered, Failed, Resting}
use Rattle.mg_names.specs.declared.context_values.ContextValue.{ContextValue}
use Rattle.mg_names.specs.declared.context_values.ContextValue.TheVariants.{Free, Live, Stale}
use Rattle.mg_names.specs.declared.symbols.Symbol.{Symbol}
use Rattle.mg_names.specs.declared.symbols.Symbol.TheVariants.{Zero, One, Two, Three, Four, Five, Six, Seven, Eight, Nine, E, F}

-- the word of a mode
abbrev pub mode_text : Mode → List ℕ
mode_text Inactive = codes "Inactive"
mode_text SendOnly = codes "SendOnly"
mode_text ReceiveOnly = codes "ReceiveOnly"
mode_text SendReceive = codes "SendReceive"

-- what a text names
abbrev pub mode_named : List ℕ → Option Mode
mode_named word =
    if bytes_eq word (codes "Inactive") then Some Inactive else
    if bytes_eq word (codes "SendOnly") then Some SendOnly else
    if bytes_eq word (codes "ReceiveOnly") then Some ReceiveOnly else
    if bytes_eq word (codes "SendReceive") then Some SendReceive else
    None

-- the word of a signal
abbrev pub signal_text : Signal → List ℕ
signal_text Ring = codes "al/ri"
signal_text DialTone = codes "cg/dt"
signal_text RingingTone = codes "cg/rt"
signal_text BusyTone = codes "cg/bt"
signal_text CongestionTone = codes "cg/ct"

-- what a text names
abbrev pub signal_named : List ℕ → Option Signal
signal_named word =
    if bytes_eq word (codes "al/ri") then Some Ring else
    if bytes_eq word (codes "cg/dt") then Some DialTone else
    if bytes_eq word (codes "cg/rt") then Some RingingTone else
    if bytes_eq word (codes "cg/bt") then Some BusyTone else
    if bytes_eq word (codes "cg/ct") then Some CongestionTone else
    None

-- the word of a event name
abbrev pub event_name_text : EventName → List ℕ
event_name_text OnHook = codes "al/on"
event_name_text OffHook = codes "al/of"
event_name_text Flash = codes "al/fl"
event_name_text DigitMapCompletion = codes "dd/ce"

-- what a text names
abbrev pub event_name_named : List ℕ → Option EventName
event_name_named word =
    if bytes_eq word (codes "al/on") then Some OnHook else
    if bytes_eq word (codes "al/of") then Some OffHook else
    if bytes_eq word (codes "al/fl") then Some Flash else
    if bytes_eq word (codes "dd/ce") then Some DigitMapCompletion else
    None

-- the word of a strict
abbrev pub strict_text : Strict → List ℕ
strict_text Exact = codes "exact"
strict_text State = codes "state"

-- what a text names
abbrev pub strict_named : List ℕ → Option Strict
strict_named word =
    if bytes_eq word (codes "exact") then Some Exact else
    if bytes_eq word (codes "state") then Some State else
    None

-- the word of a kind
abbrev pub kind_text : Kind → List ℕ
kind_text On = codes "on"
kind_text Of = codes "of"
kind_text Fl = codes "fl"
kind_text Full = codes "full"
kind_text Part = codes "part"

-- what a text names
abbrev pub kind_named : List ℕ → Option Kind
kind_named word =
    if bytes_eq word (codes "on") then Some On else
    if bytes_eq word (codes "of") then Some Of else
    if bytes_eq word (codes "fl") then Some Fl else
    if bytes_eq word (codes "full") then Some Full else
    if bytes_eq word (codes "part") then Some Part else
    None

-- the word of a topology
abbrev pub topology_text : Topology → List ℕ
topology_text Isolate = codes "isolate"
topology_text Oneway = codes "oneway"
topology_text Bothway = codes "bothway"

-- what a text names
abbrev pub topology_named : List ℕ → Option Topology
topology_named word =
    if bytes_eq word (codes "isolate") then Some Isolate else
    if bytes_eq word (codes "oneway") then Some Oneway else
    if bytes_eq word (codes "bothway") then Some Bothway else
    None

-- the word of a link
abbrev pub link_text : LinkPhase → List ℕ
link_text Sent = codes "sent"
link_text Answered = codes "ok"
link_text Failed = codes "fault"
link_text Resting = codes "rest"

-- what a text names
abbrev pub link_named : List ℕ → Option LinkPhase
link_named word =
    if bytes_eq word (codes "sent") then Some Sent else
    if bytes_eq word (codes "ok") then Some Answered else
    if bytes_eq word (codes "fault") then Some Failed else
    if bytes_eq word (codes "rest") then Some Resting else
    None

-- the word of a context value
abbrev pub context_value_text : ContextValue → List ℕ
context_value_text Free = codes "free"
context_value_text Live = codes "live"
context_value_text Stale = codes "stale"

-- what a text names
abbrev pub context_value_named : List ℕ → Option ContextValue
context_value_named word =
    if bytes_eq word (codes "free") then Some Free else
    if bytes_eq word (codes "live") then Some Live else
    if bytes_eq word (codes "stale") then Some Stale else
    None

-- the word of a symbol
abbrev pub symbol_text : Symbol → List ℕ
symbol_text Zero = codes "0"
symbol_text One = codes "1"
symbol_text Two = codes "2"
symbol_text Three = codes "3"
symbol_text Four = codes "4"
symbol_text Five = codes "5"
symbol_text Six = codes "6"
symbol_text Seven = codes "7"
symbol_text Eight = codes "8"
symbol_text Nine = codes "9"
symbol_text E = codes "E"
symbol_text F = codes "F"

-- what a text names
abbrev pub symbol_named : List ℕ → Option Symbol
symbol_named word =
    if bytes_eq word (codes "0") then Some Zero else
    if bytes_eq word (codes "1") then Some One else
    if bytes_eq word (codes "2") then Some Two else
    if bytes_eq word (codes "3") then Some Three else
    if bytes_eq word (codes "4") then Some Four else
    if bytes_eq word (codes "5") then Some Five else
    if bytes_eq word (codes "6") then Some Six else
    if bytes_eq word (codes "7") then Some Seven else
    if bytes_eq word (codes "8") then Some Eight else
    if bytes_eq word (codes "9") then Some Nine else
    if bytes_eq word (codes "E") then Some E else
    if bytes_eq word (codes "F") then Some F else
    None
