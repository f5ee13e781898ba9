-- What is left of signals where one of them alone is told: of a set, of a list and of a script's lists. A script with its lists cut down so names the sets cut
-- down so, and the end of another signal changes nothing.
use Rattle.std.proofs.Common.{Bool, List, None, Option, Some, [], ap, false, if◌then◌else◌, inl, inr, map, refl, true, ◌∙◌, ◌∷◌, ◌≡◌, ◌⊎◌}
use Rattle.std.proofs.lemmas.Option.{slice_get-map}
use Rattle.std.specs.Prelude.{option_map, slice_get, unwrap_or}
use Rattle.mg_names.specs.declared.signals.Signal.{Signal}
use Rattle.mg_names.specs.declared.signals.Signal.TheVariants.{BusyTone, CongestionTone, DialTone, Ring, RingingTone}
use Rattle.mg_model.specs.declared.commands.SignalsName.{SignalsName}
use Rattle.mg_model.specs.declared.commands.SignalsName.TheVariants.{OwnSignals, Silent}
use Rattle.mg_model.specs.declared.line_events.SignalSet.{SignalSet}
use Rattle.mg_model.specs.LineEvents.{plays, silent, without_signal}
use Rattle.mg_model.specs.ListContents.{names_signal, set_of}
use Rattle.mg_model.specs.Script.{Script, SignalsList}
use Rattle.mg_model.specs.Tables.{signals_of}

-- ---- sets

-- of a set this one signal is left
abbrev pub alone : Signal → SignalSet → SignalSet
alone Ring set = record silent { ring = set.ring }
alone DialTone set = record silent { dial_tone = set.dial_tone }
alone RingingTone set = record silent { ringing_tone = set.ringing_tone }
alone BusyTone set = record silent { busy_tone = set.busy_tone }
alone CongestionTone set = record silent { congestion_tone = set.congestion_tone }

pub alone_silent : (g : Signal) → alone g silent ≡ silent
alone_silent Ring = refl
alone_silent g = refl

pub plays_alone : (g : Signal) (set : SignalSet) → plays (alone g set) g ≡ plays set g
plays_alone Ring set = refl
plays_alone g set = refl

-- a signal that ends is the one that is told, or nothing of it is left
pub ended_alone : (g s : Signal) (set : SignalSet)
    → ((plays (alone g set) s ≡ plays set s) × (without_signal (alone g set) s ≡ alone g (without_signal set s)))
    ⊎ (alone g (without_signal set s) ≡ alone g set)
ended_alone Ring Ring set = inl (refl, refl)
ended_alone DialTone DialTone set = inl (refl, refl)
ended_alone RingingTone RingingTone set = inl (refl, refl)
ended_alone BusyTone BusyTone set = inl (refl, refl)
ended_alone CongestionTone CongestionTone set = inl (refl, refl)
ended_alone g s set = inr refl

-- ---- lists

-- of a list this one signal is left, once
abbrev pub list_alone : Signal → List Signal → List Signal
list_alone g signals = if names_signal signals g then g ∷ [] else []

-- the set that a list names
abbrev pub named : List Signal → SignalSet
named signals = record {
  ring = names_signal signals Ring;
  dial_tone = names_signal signals DialTone;
  ringing_tone = names_signal signals RingingTone;
  busy_tone = names_signal signals BusyTone;
  congestion_tone = names_signal signals CongestionTone;
}

-- all or nothing, of which one signal is taken
each : Bool → SignalSet
each b = record { ring = b; dial_tone = b; ringing_tone = b; busy_tone = b; congestion_tone = b }

named_alone : (g : Signal) (signals : List Signal) → named (list_alone g signals) ≡ alone g (named signals)
unfolding each
named_alone g signals = one g (names_signal signals g) ∙ both g
  where
    one : (s : Signal) (b : Bool) → named (if b then s ∷ [] else []) ≡ alone s (each b)
    one Ring true = refl
    one Ring false = refl
    one DialTone true = refl
    one DialTone false = refl
    one RingingTone true = refl
    one RingingTone false = refl
    one BusyTone true = refl
    one BusyTone false = refl
    one CongestionTone true = refl
    one CongestionTone false = refl

    both : (s : Signal) → alone s (each (names_signal signals s)) ≡ alone s (named signals)
    both Ring = refl
    both s = refl

-- ---- scripts

abbrev signals_list_alone : Signal → SignalsList → SignalsList
signals_list_alone g list = record list { items = list_alone g list.items }

abbrev pub script_alone : Signal → Script → Script
script_alone g script = record script { signals = map (signals_list_alone g) script.signals }

pub signals_alone : (g : Signal) (script : Script) (name : SignalsName) → signals_of (script_alone g script) name ≡ list_alone g (signals_of script name)
signals_alone g script Silent = refl
signals_alone g script (OwnSignals k) = rw slice_get-map (at (slice_get script.signals k))
  where
    at : (o : Option SignalsList)
        → unwrap_or (option_map (λ (list : SignalsList). list.items) (option_map (signals_list_alone g) o)) []
        ≡ list_alone g (unwrap_or (option_map (λ (list : SignalsList). list.items) o) [])
    at None = refl
    at (Some list) = refl

pub set_alone : (g : Signal) (script : Script) (name : SignalsName) → set_of (script_alone g script) name ≡ alone g (set_of script name)
set_alone g script name = ap named (signals_alone g script name) ∙ named_alone g (signals_of script name)
