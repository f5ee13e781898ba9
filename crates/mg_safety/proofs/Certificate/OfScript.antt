-- A command that is declared and legal changes nothing that the script doesn't declare.
use Rattle.mg_safety.proofs.Words.{◌≡◌, ◌∙◌, ◌<◌, ◌≤◌, ℕ, Bool, true, false, length, refl, sym, ap, subst, arith, true≢false, ◌==◌, ◌&&◌, ◌||◌, not}
use Rattle.mg_safety.proofs.Words.{if◌then◌else◌, unwrap_or, eqb-true, and_parts, false_from_ne_true, common_steps, ContextValue, Free, Live, Inactive}
use Rattle.mg_safety.proofs.Words.{Topology, Command, AddLine, AddEphemeral, ModifyLine, ModifyEphemeral, MoveLine, MoveEphemeral, Subtract, SubtractAll}
use Rattle.mg_safety.proofs.Words.{SetTopology, EphemeralOptions, Empty, LineOptions, Termination, In, with_at, Configuration, is_same, is_in, is_live, with_of}
use Rattle.mg_safety.proofs.Words.{value_of, stands_in, settled, is_legal, effect, put_in, with_line_options, with_ephemeral_options, without_cuts_of}
use Rattle.mg_safety.proofs.Words.{without_terminations, spot_after, remote_after, with_pair, cuts_forward, cuts_backward, plays_after, remote_set, Script}
use Rattle.mg_safety.proofs.Words.{IsSlot, IsContext, IsCommandOf, where_false, is_same_is, is_same_self}
use Rattle.mg_model.specs.declared.commands.Termination.TheVariants.{Line, Ephemeral}
use Rattle.mg_safety.proofs.InvariantWords.{IsOfScript}
use Rattle.mg_safety.proofs.Certificate.Declared.{AreSlots}

-- ---- values that are changed elsewhere

module _ {A : Type 0} where
  if_either : (test : Bool) (x y v : A) → x ≡ v → y ≡ v → (if test then x else y) ≡ v
  if_either true x y v first second = first
  if_either false x y v first second = second

other_number : (n i k : ℕ) → i < n → n ≤ k → (k == i) ≡ false
other_number n i k below past = false_from_ne_true (k == i) (λ e. let same = eqb-true k i e in omega (arith, below, past, same))

module _ (script : Script) where
  other_termination : (t u : Termination) → IsSlot script t → (IsSlot script u → ⊥) → is_same u t ≡ false
  other_termination t u slot undeclared = false_from_ne_true (is_same u t) (λ e. undeclared (subst (IsSlot script) (sym (is_same_is u t e)) slot))

  -- ---- parts of commands

  module _ (c : Configuration) (o : IsOfScript script c) where
    of_settled : IsOfScript script (settled c)
    of_settled =
        let context = λ (j : ℕ) (past : length script.contexts ≤ j). ap (λ (v : ContextValue). value_of v (stands_in c.spot j)) (o.context j past) in
        record { spot = o.spot; mode = o.mode; events = o.events; plays = o.plays; context = context; remote = o.remote; cut = o.cut }

    of_context : (j : ℕ) (value : ContextValue) → IsContext script j → IsOfScript script (record c { context = with_at c.context j value })
    of_context j value declared =
        let context = λ (i : ℕ) (past : length script.contexts ≤ i).
        where_false (i == j) value (c.context i) (other_number (length script.contexts) j i declared past) ∙ o.context i past in
        record { spot = o.spot; mode = o.mode; events = o.events; plays = o.plays; context = context; remote = o.remote; cut = o.cut }

    of_spot : (t : Termination) (j : ℕ) → IsSlot script t → IsOfScript script (record c { spot = with_of c.spot t (In j) })
    of_spot t j declared =
        let spot = λ (u : Termination) (undeclared : IsSlot script u → ⊥).
        where_false (is_same u t) (In j) (c.spot u) (other_termination t u declared undeclared) ∙ o.spot u undeclared in
        record { spot = spot; mode = o.mode; events = o.events; plays = o.plays; context = o.context; remote = o.remote; cut = o.cut }

    of_line_options : (i : ℕ) (options : LineOptions) → i < length script.lines → IsOfScript script (with_line_options script c i options)
    of_line_options i options below = record {
      spot = o.spot;
      mode = λ u undeclared. where_false (is_same u (Line i)) (unwrap_or options.mode (c.mode (Line i))) (c.mode u)
          (other_termination (Line i) u below undeclared) ∙ o.mode u undeclared;
      events = λ n past. where_false (n == i) (unwrap_or options.events (c.events i)) (c.events n)
          (other_number (length script.lines) i n below past) ∙ o.events n past;
      plays = λ n past. where_false (n == i) (plays_after script options.signals (c.plays i)) (c.plays n)
          (other_number (length script.lines) i n below past) ∙ o.plays n past;
      context = o.context;
      remote = o.remote;
      cut = o.cut;
    }

    of_ephemeral_options : (k : ℕ) (options : EphemeralOptions) → k < length script.ephemerals → IsOfScript script (with_ephemeral_options c k options)
    of_ephemeral_options k options below =
        let mode = λ (u : Termination) (undeclared : IsSlot script u → ⊥). where_false (is_same u (Ephemeral k))
        (unwrap_or options.mode (c.mode (Ephemeral k))) (c.mode u) (other_termination (Ephemeral k) u below undeclared) ∙ o.mode u undeclared in
        let remote = λ (n : ℕ) (past : length script.ephemerals ≤ n). where_false (n == k) (remote_set options.remote (c.remote k)) (c.remote n)
        (other_number (length script.ephemerals) k n below past) ∙ o.remote n past in
        record { spot = o.spot; mode = mode; events = o.events; plays = o.plays; context = o.context; remote = remote; cut = o.cut }

    -- cuts that are fewer, or of what the script declares
    of_cuts : (cuts : Termination → Termination → Bool) → ((t u : Termination) → (AreSlots script t u → ⊥) → cuts t u ≡ false)
        → IsOfScript script (record c { cut = cuts })
    of_cuts cuts none = record { spot = o.spot; mode = o.mode; events = o.events; plays = o.plays; context = o.context; remote = o.remote; cut = none }

    of_fewer_cuts : (leaves : Termination → Bool) → IsOfScript script (record c { cut = without_cuts_of leaves c.cut })
    of_fewer_cuts leaves = of_cuts (without_cuts_of leaves c.cut)
        (λ t u undeclared. if_either (leaves t || leaves u) false (c.cut t u) false refl (o.cut t u undeclared))

    -- terminations that the script declares are subtracted
    of_without : (leaves : Termination → Bool) → ((t : Termination) → (IsSlot script t → ⊥) → leaves t ≡ false)
        → IsOfScript script (without_terminations c leaves)
    of_without leaves stays = record {
      spot = λ t undeclared. where_false (leaves t) (spot_after t) (c.spot t) (stays t undeclared) ∙ o.spot t undeclared;
      mode = λ t undeclared. if_either (leaves t) Inactive (c.mode t) Inactive refl (o.mode t undeclared);
      events = λ i past. if_either (leaves (Line i)) Empty (c.events i) Empty refl (o.events i past);
      plays = λ i past. if_either (leaves (Line i)) false (c.plays i) false refl (o.plays i past);
      context = o.context;
      remote = λ k past. ap (remote_after leaves k) (o.remote k past);
      cut = λ t u undeclared. if_either (leaves t || leaves u) false (c.cut t u) false refl (o.cut t u undeclared);
    }

    of_cut : (t u : Termination) (value : Bool) → AreSlots script t u → IsOfScript script (record c { cut = with_pair c.cut t u value })
    of_cut t u value slots = of_cuts (with_pair c.cut t u value) (λ x y undeclared. where_false (is_same x t && is_same y u) value (c.cut x y)
        (false_from_ne_true (is_same x t && is_same y u) (λ e. undeclared (they_are x y e))) ∙ o.cut x y undeclared)
      where
        they_are : (x y : Termination) → (is_same x t && is_same y u) ≡ true → AreSlots script x y
        they_are x y e =
            let both = and_parts (is_same x t) (is_same y u) e in
            subst (λ z. AreSlots script z y) (sym (is_same_is x t both.0))
            (subst (λ z. AreSlots script t z) (sym (is_same_is y u both.1)) slots)

-- ---- commands

of_put : (script : Script) (c : Configuration) → IsOfScript script c → (t : Termination) (j : ℕ) → IsSlot script t → IsContext script j
    → IsOfScript script (put_in c t j)
of_put script c o t j slot context =
    let moved = record c { spot = with_of c.spot t (In j) } in
    of_settled script (record moved { context = with_at c.context j Live })
    (of_context script moved (of_spot script c o t j slot) j Live context)

two_terminations : (live first second same : Bool) → (live && first && second && not same) ≡ true → same ≡ false
two_terminations live first second same e = grind (arith, common_steps)

unlike_back : (t u : Termination) → is_same t u ≡ false → is_same u t ≡ false
unlike_back t u e =
    false_from_ne_true (is_same u t) (λ same. true≢false (sym (ap (is_same t) (is_same_is u t same) ∙ is_same_self t) ∙ e))

of_topology : (script : Script) (c : Configuration) → IsOfScript script c → (t u : Termination) (topology : Topology) → IsSlot script t → IsSlot script u
    → is_same t u ≡ false
    → IsOfScript script (record c { cut = with_pair (with_pair c.cut t u (cuts_forward topology)) u t (cuts_backward topology) })
of_topology script c o t u topology first second unlike =
    of_cut script (record c { cut = with_pair c.cut t u (cuts_forward topology) })
    (of_cut script c o t u (cuts_forward topology) (first, second, unlike)) u t (cuts_backward topology) (second, first, unlike_back t u unlike)

pub of_effect : (script : Script) (c : Configuration) (command : Command) → IsOfScript script c → IsCommandOf script command
    → is_legal c command ≡ true → IsOfScript script (effect script c command)
of_effect script c (AddLine create j i options) o declared legal =
    of_line_options script (put_in c (Line i) j) (of_put script c o (Line i) j declared.1 declared.0) i options declared.1
of_effect script c (AddEphemeral create j k options) o declared legal =
    of_ephemeral_options script (put_in c (Ephemeral k) j) (of_put script c o (Ephemeral k) j declared.1 declared.0) k options declared.1
of_effect script c (ModifyLine place i options) o declared legal = of_line_options script c o i options declared.1
of_effect script c (ModifyEphemeral place k options) o declared legal = of_ephemeral_options script c o k options declared.1
of_effect script c (MoveLine j i options) o declared legal =
    let uncut = record c { cut = without_cuts_of (is_same (Line i)) c.cut } in
    of_line_options script (put_in uncut (Line i) j)
    (of_put script uncut (of_fewer_cuts script c o (is_same (Line i))) (Line i) j declared.1 declared.0) i options declared.1
of_effect script c (MoveEphemeral j k options) o declared legal =
    let uncut = record c { cut = without_cuts_of (is_same (Ephemeral k)) c.cut } in
    of_ephemeral_options script (put_in uncut (Ephemeral k) j)
    (of_put script uncut (of_fewer_cuts script c o (is_same (Ephemeral k))) (Ephemeral k) j declared.1 declared.0) k options declared.1
of_effect script c (Subtract j t) o declared legal =
    of_settled script (without_terminations c (is_same t))
    (of_without script c o (is_same t) (λ u undeclared. unlike_back u t (other_termination script t u declared.1 undeclared)))
of_effect script c (SubtractAll j) o declared legal =
    let left = without_terminations c (λ t. is_in (c.spot t) j) in
    of_settled script (record left { context = with_at c.context j Free })
    (of_context script left (of_without script c o (λ t. is_in (c.spot t) j) (λ t undeclared. ap (λ s. is_in s j) (o.spot t undeclared)))
    j Free declared)
of_effect script c (SetTopology j t u topology) o declared legal =
    of_topology script c o t u topology declared.1 declared.2
    (two_terminations (is_live (c.context j)) (is_in (c.spot t) j) (is_in (c.spot u) j) (is_same t u) legal)
