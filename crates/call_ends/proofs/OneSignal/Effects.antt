-- What commands make of a configuration of a script of which one signal alone is told: what they make of the configuration that differs in what plays, and a
-- line may play exactly where it was given the signal last.
use Rattle.std.proofs.Common.{Bool, List, None, Option, Some, [], ap, false, if◌then◌else◌, not, refl, sym, true, ℕ, ◌==◌, ◌∙◌, ◌∷◌, ◌≡◌}
use Rattle.std.proofs.lemmas.Bool.{eqb-true}
use Rattle.mg_names.specs.declared.signals.Signal.{Signal}
use Rattle.mg_names.specs.declared.signals.Signal.TheVariants.{Ring}
use Rattle.mg_model.specs.declared.commands.Command.{Command}
use Rattle.mg_model.specs.declared.commands.Command.TheVariants.{AddLine, ModifyLine, MoveLine, Subtract, SubtractAll}
use Rattle.mg_model.specs.declared.commands.SignalsName.{SignalsName}
use Rattle.mg_model.specs.declared.commands.Termination.TheVariants as termination
use Rattle.mg_model.specs.declared.line_events.SignalSet.{SignalSet}
use Rattle.mg_model.specs.Configuration.{Configuration, is_in, is_same}
use Rattle.mg_model.specs.Effects.{effect, is_legal, plays_after}
use Rattle.mg_model.specs.LineEvents.{plays, silent}
use Rattle.mg_model.specs.ListContents.{names_signal, set_of}
use Rattle.mg_model.specs.Script.{Script}
use Rattle.mg_model.specs.Tables.{is_empty, signals_of}
use Rattle.mg_model.specs.Updates.{with_at}
use Rattle.mg_model.proofs.Cases.{same_turned}
use Rattle.call_ends.proofs.OneSignal.Sets.{list_alone, script_alone, signals_alone}
use Rattle.call_ends.specs.Telephones.{given, told_by}

-- the configuration with what may play where the signal alone is told
abbrev pub with_plays : Configuration → (ℕ → Bool) → Configuration
with_plays c left = record c { plays = left }

-- what may play where the signal alone is told: line i exactly where it was given the signal last, and no line that may not play anyhow
pub record IsHeard (g : Signal) (i : ℕ) (plain left : ℕ → Bool) (was : SignalSet) : Type 0 where
  pub told : left i ≡ plays was g
  pub less : (j : ℕ) → left j ≡ true → plain j ≡ true

pub plays_silent : (g : Signal) → false ≡ plays silent g
plays_silent Ring = refl
plays_silent g = refl

-- ---- a Signals descriptor

module _ (g : Signal) (script : Script) where
  -- the script of which the signal alone is told
  abbrev lone : Script
  lone = script_alone g script

  -- a list of which the signal alone is told is empty exactly where it doesn't name it
  plays_named : (name : SignalsName) → not (is_empty (signals_of lone name)) ≡ plays (set_of script name) g
  plays_named name =
      ap (λ (signals : List Signal). not (is_empty signals)) (signals_alone g script name)
      ∙ by (names_signal (signals_of script name) g) ∙ of_set g
    where
      by : (b : Bool) → not (is_empty (if b then g ∷ [] else [])) ≡ b
      by true = refl
      by false = refl

      of_set : (s : Signal) → names_signal (signals_of script name) s ≡ plays (set_of script name) s
      of_set Ring = refl
      of_set s = refl

  plays_less : (name : SignalsName) → not (is_empty (signals_of lone name)) ≡ true → not (is_empty (signals_of script name)) ≡ true
  plays_less name is = by (signals_of script name) (sym (ap (λ (signals : List Signal). not (is_empty signals)) (signals_alone g script name)) ∙ is)
    where
      by : (signals : List Signal) → not (is_empty (list_alone g signals)) ≡ true → not (is_empty signals) ≡ true
      by [] e = e
      by (x ∷ xs) e = refl

  told_signals : (o : Option SignalsName) (left : Bool) (was : SignalSet) → left ≡ plays was g → plays_after lone o left ≡ plays (given script was o) g
  told_signals None left was is = is
  told_signals (Some name) left was is = plays_named name

  less_signals : (o : Option SignalsName) (plain left : Bool) → (left ≡ true → plain ≡ true) → plays_after lone o left ≡ true
      → plays_after script o plain ≡ true
  less_signals None plain left less = less
  less_signals (Some name) plain left less = plays_less name

  module _ (i : ℕ) (plain left : ℕ → Bool) (was : SignalSet) (heard : IsHeard g i plain left was) where
    -- line k is given signals
    given_heard : (k : ℕ) (o : Option SignalsName)
        → IsHeard g i (with_at plain k (plays_after script o (plain k))) (with_at left k (plays_after lone o (left k)))
        (if k == i then given script was o else was)
    given_heard k o = record {
      told = told (i == k) refl ∙ ap (λ (b : Bool). plays (if b then given script was o else was) g) (same_turned i k);
      less = λ j. less j (j == k);
    }
      where
        told : (b : Bool) → (i == k) ≡ b
            → (if b then plays_after lone o (left k) else left i) ≡ plays (if b then given script was o else was) g
        told true e = told_signals o (left k) was (ap left (sym (eqb-true i k e)) ∙ heard.told)
        told false e = heard.told

        less : (j : ℕ) (b : Bool) → (if b then plays_after lone o (left k) else left j) ≡ true
            → (if b then plays_after script o (plain k) else plain j) ≡ true
        less j true = less_signals o (plain k) (left k) (heard.less k)
        less j false = heard.less j

    -- lines leave their context, and are silent
    leaving_heard : (leaves : ℕ → Bool)
        → IsHeard g i (λ j. if leaves j then false else plain j) (λ j. if leaves j then false else left j) (if leaves i then silent else was)
    leaving_heard leaves = record { told = told (leaves i); less = λ j. less j (leaves j) }
      where
        told : (b : Bool) → (if b then false else left i) ≡ plays (if b then silent else was) g
        told true = plays_silent g
        told false = heard.told

        less : (j : ℕ) (b : Bool) → (if b then false else left j) ≡ true → (if b then false else plain j) ≡ true
        less j true e = e
        less j false e = heard.less j e

  -- ---- commands

  pub legal_too : (c : Configuration) (left : ℕ → Bool) (command : Command) → is_legal (with_plays c left) command ≡ is_legal c command
  legal_too c left (AddLine create j k o) = refl
  legal_too c left command = refl

  -- what may play after a command
  abbrev pub left_after : Configuration → (ℕ → Bool) → Command → ℕ → Bool
  left_after c left command = (effect lone (with_plays c left) command).plays

  pub effect_too : (c : Configuration) (left : ℕ → Bool) (command : Command)
      → effect lone (with_plays c left) command ≡ with_plays (effect script c command) (left_after c left command)
  effect_too c left (AddLine create j k o) = refl
  effect_too c left command = refl

  pub effect_heard : (i : ℕ) (c : Configuration) (left : ℕ → Bool) (was : SignalSet) (command : Command) → IsHeard g i c.plays left was
      → IsHeard g i (effect script c command).plays (left_after c left command) (told_by script i c was command)
  effect_heard i c left was (AddLine create j k o) heard = given_heard i c.plays left was heard k o.signals
  effect_heard i c left was (ModifyLine place k o) heard = given_heard i c.plays left was heard k o.signals
  effect_heard i c left was (MoveLine j k o) heard = given_heard i c.plays left was heard k o.signals
  effect_heard i c left was (Subtract j t) heard = leaving_heard i c.plays left was heard (λ n. is_same t (termination.Line n))
  effect_heard i c left was (SubtractAll j) heard = leaving_heard i c.plays left was heard (λ n. is_in (c.spot (termination.Line n)) j)
  effect_heard i c left was command heard = heard
