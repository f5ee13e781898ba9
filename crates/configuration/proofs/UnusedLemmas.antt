-- Words of zeros, and the configuration that no call has used.
use Rattle.std.proofs.Common.{◌≡◌, ℕ, ◌+◌, ◌*◌, ◌^◌, ◌%◌, ◌≤◌, ◌<◌, ◌==◌, suc, zero, nat_lt, ◌&&◌, Bool, true, false, refl, ap, ap₂, sym, ◌∙◌, arith}
use Rattle.std.specs.Prelude.{if◌then◌else◌}
use Rattle.std.proofs.lemmas.Grind.{common_steps}
use Rattle.std.proofs.Math.Nat.{zero-mod, zero-div}
use Rattle.mg_names.specs.declared.modes.Mode.TheVariants.{Inactive}
use Rattle.mg_names.specs.declared.context_values.ContextValue.TheVariants.{Free}
use Rattle.mg_names.specs.declared.phases.LinkPhase.{LinkPhase}
use Rattle.mg_names.specs.declared.phases.LinkPhase.TheVariants.{Sent}
use Rattle.mg_model.specs.declared.commands.EventsName.{EventsName}
use Rattle.mg_model.specs.declared.commands.EventsName.TheVariants.{Empty}
use Rattle.mg_model.specs.declared.commands.Termination.{Termination}
use Rattle.mg_model.specs.declared.commands.Termination.TheVariants.{Line, Ephemeral}
use Rattle.mg_model.specs.declared.components.Spot.TheVariants.{Null, Absent}
use Rattle.mg_model.specs.declared.components.Remote.TheVariants.{Unset}
use Rattle.mg_model.specs.Configuration.{Configuration}
use Rattle.mg_model.specs.Steps.{unused}
use Rattle.mg_model.proofs.ConfigurationLemmas.{same_configurations}
use Rattle.configuration.specs.Places.{index_of}
use Rattle.configuration.specs.Fields.{field_of}
use Rattle.configuration.specs.Codes.{link_at, mode_at, context_at, flag_at, events_at, line_spot_at, ephemeral_spot_at, remote_at}
use Rattle.configuration.specs.Packed.{Words, IsPacked, pair_place}
use Rattle.configuration.specs.Config.{configuration_of, spot_in, mode_in}
use Rattle.configuration.specs.Unused.{with_unused_line}

pub zero_field : (at bits : ℕ) → field_of 0 at bits ≡ 0
unfolding field_of
zero_field at bits = ap (λ x. x % 2 ^ bits) (zero-div (2 ^ at)) ∙ zero-mod (2 ^ bits)

abbrev pub zeros : Words
zeros = record { lines = 0; ephemerals = 0; cuts = 0 }

pub zero_packed : IsPacked zeros
zero_packed = record {
  lines = record {
    spots = λ i h. rw (zero_field (8 + 11 * i) 3) (omega arith);
    events = λ i h. rw (zero_field (8 + 11 * i + 5) 5) (omega arith);
    contexts = λ j h. rw (zero_field (52 + 2 * j) 2) (omega arith);
    beside = zero_field 62 2;
  };
  ephemerals = record {
    spots = λ k h. rw (zero_field (8 * k) 3) (omega arith);
    remotes = λ k h. rw (zero_field (8 * k + 5) 3) (omega arith);
    beside = zero_field 32 32;
  };
}

-- what is read of a zero is the value of zero
pub of_zero : {A : Type 0} (decode : ℕ → A) (at bits : ℕ) (v : A) → decode 0 ≡ v → decode (field_of 0 at bits) ≡ v
of_zero decode at bits v e = ap decode (zero_field at bits) ∙ e

pub of_zeros : {A : Type 0} (decode : ℕ → A) (i at bits : ℕ) (v : A) → decode 0 ≡ v →
    (if nat_lt i 4 then decode (field_of 0 at bits) else v) ≡ v
of_zeros decode i at bits v e = by_test (nat_lt i 4)
  where
    by_test : (b : Bool) → (if b then decode (field_of 0 at bits) else v) ≡ v
    by_test true = of_zero decode at bits v e
    by_test false = refl

all_empty : (b : Bool) → (if b then Empty else Empty) ≡ Empty
all_empty true = refl
all_empty false = refl

pub zero_unused : configuration_of zeros ≡ unused 4 0 Sent Empty
unfolding configuration_of
zero_unused = same_configurations _ _ record {
  state = ap₂ (λ a b. a + 64 * b) (zero_field 0 6) (zero_field 60 2);
  link = of_zero link_at 6 2 Sent refl;
  spot = spots;
  mode = modes;
  events = λ i. of_zeros events_at i (8 + 11 * i + 5) 5 Empty refl ∙ sym (all_empty (nat_lt i 4));
  plays = λ i. of_zeros flag_at i (8 + 11 * i + 10) 1 false refl;
  context = λ j. of_zeros context_at j (52 + 2 * j) 2 Free refl;
  remote = λ k. of_zeros remote_at k (8 * k + 5) 3 Unset refl;
  cut = λ t u. cuts (nat_lt (index_of t) 8) (nat_lt (index_of u) 8) (pair_place (index_of t) (index_of u));
}
  where
    null_lines : (i : ℕ) (b : Bool) → (if b then line_spot_at (field_of 0 (8 + 11 * i) 3) else Absent) ≡ (if b then Null else Absent)
    null_lines i true = of_zero line_spot_at (8 + 11 * i) 3 Null refl
    null_lines i false = refl

    spots : (t : Termination) → spot_in zeros t ≡ (unused 4 0 Sent Empty).spot t
    spots (Line i) = null_lines i (nat_lt i 4)
    spots (Ephemeral k) = of_zeros ephemeral_spot_at k (8 * k) 3 Absent refl

    modes : (t : Termination) → mode_in zeros t ≡ Inactive
    modes (Line i) = of_zeros mode_at i (8 + 11 * i + 3) 2 Inactive refl
    modes (Ephemeral k) = of_zeros mode_at k (8 * k + 3) 2 Inactive refl

    cuts : (a b : Bool) (place : ℕ) → (a && b && flag_at (field_of 0 place 1)) ≡ false
    cuts true true place = of_zero flag_at place 1 false refl
    cuts true false place = refl
    cuts false b place = refl

-- past the fourth there is no line
not_slot : (i k : ℕ) → k < 4 → (suc (suc (suc (suc i))) == k) ≡ false
not_slot i k h = grind (arith, common_steps)

not_line : (i : ℕ) → nat_lt (suc (suc (suc (suc i)))) 4 ≡ false
not_line i = grind (arith, common_steps)

-- what four lines of so many are made
abbrev pub with_unused_lines : ℕ → EventsName → Configuration → Configuration
with_unused_lines lines events c =
    with_unused_line lines events 3 (with_unused_line lines events 2 (with_unused_line lines events 1 (with_unused_line lines events 0 c)))

pub lines_unused : (lines state : ℕ) (link : LinkPhase) (events : EventsName) → lines ≤ 4 →
    with_unused_lines lines events (record (record (unused 4 0 Sent Empty) { state = state }) { link = link })
    ≡ unused lines state link events
lines_unused lines state link events h = same_configurations _ _ record {
  state = refl;
  link = refl;
  spot = spots;
  mode = λ t. refl;
  events = lists;
  plays = λ i. refl;
  context = λ j. refl;
  remote = λ k. refl;
  cut = λ t u. refl;
}
  where
    spots : (t : Termination) →
        (with_unused_lines lines events (record (record (unused 4 0 Sent Empty) { state = state }) { link = link })).spot t
        ≡ (unused lines state link events).spot t
    spots (Line zero) = refl
    spots (Line (suc zero)) = refl
    spots (Line (suc (suc zero))) = refl
    spots (Line (suc (suc (suc zero)))) = refl
    spots (Line (suc (suc (suc (suc i))))) =
        let past : nat_lt (suc (suc (suc (suc i)))) lines ≡ false = grind (arith, common_steps) in
        rw (past, not_slot i 0 (omega arith), not_slot i 1 (omega arith), not_slot i 2 (omega arith), not_slot i 3 (omega arith), not_line i) refl
    spots (Ephemeral k) = refl

    lists : (i : ℕ) →
        (with_unused_lines lines events (record (record (unused 4 0 Sent Empty) { state = state }) { link = link })).events i
        ≡ (if nat_lt i lines then events else Empty)
    lists zero = refl
    lists (suc zero) = refl
    lists (suc (suc zero)) = refl
    lists (suc (suc (suc zero))) = refl
    lists (suc (suc (suc (suc i)))) =
        let past : nat_lt (suc (suc (suc (suc i)))) lines ≡ false = grind (arith, common_steps) in
        rw (past, not_slot i 0 (omega arith), not_slot i 1 (omega arith), not_slot i 2 (omega arith), not_slot i 3 (omega arith), all_empty (nat_lt (suc (suc (suc (suc i)))) 4)) refl

-- the same by the equations of the steps
pub made_unused : (c₀ c₁ c₂ c₃ c₄ c₅ c₆ : Configuration) (lines state : ℕ) (link : LinkPhase) (events : EventsName) → lines ≤ 4 →
    c₀ ≡ unused 4 0 Sent Empty → c₁ ≡ record c₀ { state = state } → c₂ ≡ record c₁ { link = link } →
    c₃ ≡ with_unused_line lines events 0 c₂ → c₄ ≡ with_unused_line lines events 1 c₃ →
    c₅ ≡ with_unused_line lines events 2 c₄ → c₆ ≡ with_unused_line lines events 3 c₅ → c₆ ≡ unused lines state link events
made_unused c₀ c₁ c₂ c₃ c₄ c₅ c₆ lines state link events h e₀ e₁ e₂ e₃ e₄ e₅ e₆ =
    let after₁ = e₁ ∙ ap (λ (c : Configuration). record c { state = state }) e₀ in
    let after₂ = e₂ ∙ ap (λ (c : Configuration). record c { link = link }) after₁ in
    let after₃ = e₃ ∙ ap (with_unused_line lines events 0) after₂ in
    let after₄ = e₄ ∙ ap (with_unused_line lines events 1) after₃ in
    let after₅ = e₅ ∙ ap (with_unused_line lines events 2) after₄ in
    e₆ ∙ ap (with_unused_line lines events 3) after₅ ∙ lines_unused lines state link events h
