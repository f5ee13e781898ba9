-- A call that is alone never runs out of identifiers: at most eight contexts and four ephemerals are in use, each by a name of the call.
use Rattle.std.proofs.Common.{◌≡◌, ◌∙◌, ◌+◌, ◌%◌, ◌<◌, ◌≤◌, ◌++◌, ℕ, zero, suc, Bool, true, List, [], ◌∷◌, length, length-append, Option, Some, None, is_some}
use Rattle.std.proofs.Common.{refl, sym, ap, subst, arith, inl, inr, ◌⊎◌, Contains, unwrap_or}
use Rattle.std.proofs.Math.Nat.{add-mod_right, mod-eq_of_lt}
use Rattle.mg_merge.proofs.Words.{Agent, AreLeft, Board, Contains-append_left, Contains-append_right, Entry, Eph, HasIdentifiersLeft, IsContextLeft}
use Rattle.mg_merge.proofs.Words.{IsEphemeralLeft, IsScript, IsSettled, Line, Row, Script, TermId, Termination, World, cases_lt, choose, eq-eqb, exists}
use Rattle.mg_merge.proofs.Words.{false_from_ne_true, first_in, first_or_later, is_context_number, is_ephemeral_number, later_in, none_in, place_in, place_of}
use Rattle.mg_merge.proofs.Words.{the_line, the_some}
use Rattle.mg_alike.proofs.Words.{CallsAloneNeverRunOut, ClassesGiveEnough, HasEnoughNumbers, most_in_use, most_shards}
use Rattle.mg_model.specs.Accepted.{most_commands}
use Rattle.mg_model.specs.Entries.{IsCovered}
use Rattle.mg_model.specs.declared.commands.Termination.TheVariants as termination
use Rattle.mg_merge.proofs.Commands.IdentifiersLeft.{one_taken, passed_on}
use Rattle.mg_merge.proofs.Identifiers.Candidates.{class_has_more}
use Rattle.mg_safety.proofs.Agents.EffectiveAgent.{same_lines}
use Rattle.mg_safety.proofs.Events.Others.{created_only}
use Rattle.mg_safety.proofs.GoodWorlds.Beginning.{reached}
use Rattle.mg_safety.proofs.Invariant.Shown.{naming, eph_of, row_on, term_of}
use Rattle.mg_safety.proofs.Invariant.Sound.{is_call, owned_in, IsCurrent, IsLost, IsSound}
use Rattle.mg_alike.proofs.Alone.OneCall.{IsLone, opening_lone, runs_lone}
use Rattle.mg_alike.proofs.Events.Settled.{opening_settled, runs_settled}

-- ---- lists

abbrev tabulated : (ℕ → ℕ) → ℕ → List ℕ
tabulated f zero = []
tabulated f (suc n) = f n ∷ tabulated f n

long : (f : ℕ → ℕ) (n : ℕ) → length (tabulated f n) ≡ n
long f zero = refl
long f (suc n) = ap (λ (k : ℕ). suc k) (long f n)

listed : (f : ℕ → ℕ) (n i : ℕ) → i < n → Contains (tabulated f n) (f i)
listed f zero i within = absurd (let less : i < 0 = within in omega (arith, less))
listed f (suc n) i within = go (cases_lt i n) (listed f n i)
  where
    go : (i < n) ⊎ (n ≤ i) → (i < n → Contains (tabulated f n) (f i)) → Contains (f n ∷ tabulated f n) (f i)
    go (inl below) on = later_in (f n) (tabulated f n) (f i) (on below)
    go (inr above) on =
        let less : i < suc n = within in
        let one : n ≡ i = omega (arith, less, above) in
        subst (λ (k : ℕ). Contains (f n ∷ tabulated f n) (f k)) one (first_in (f n) (tabulated f n))

-- ---- numbers that are left

fewer : (passes : ℕ → Type 0) (wanted more : ℕ) → wanted ≤ more → AreLeft passes more → AreLeft passes wanted
fewer passes wanted more less left = record {
  numbers = left.numbers;
  rising = left.rising;
  enough = (let enough = left.enough in omega (arith, less, enough));
  each = left.each;
}

-- but for these
without_these : (xs : List ℕ) (passes : ℕ → Type 0) (wanted : ℕ) → AreLeft passes (length xs + wanted) → AreLeft (λ n. passes n × (Contains xs n → ⊥)) wanted
without_these [] passes wanted left =
    passed_on passes (λ n. passes n × (Contains [] n → ⊥)) wanted (λ n it. (it, λ there. none_in n there)) (fewer passes wanted (0 + wanted) (omega arith) left)
without_these (x ∷ xs) passes wanted left =
    passed_on (λ n. (passes n × (n ≡ x → ⊥)) × (Contains xs n → ⊥)) (λ n. passes n × (Contains (x ∷ xs) n → ⊥)) wanted
    (λ n it. (
      it.0.0,
      λ there. elim (first_or_later x xs n there) [
        | inl is ↦ it.0.1 (sym is)
        | inr later ↦ it.1 later
      ],
    ))
    (without_these xs (λ n. passes n × (n ≡ x → ⊥)) wanted
    (one_taken passes (λ n. passes n × (n ≡ x → ⊥)) x (length xs + wanted) (λ n it differ. (it, differ))
    (fewer passes (suc (length xs + wanted)) (suc (length xs) + wanted) (omega arith) left)))

-- ---- what is in use

-- these are all the contexts and all the ephemerals in use
record AreInUse (b : Board) : Type 0 where
  contexts : List ℕ
  ephemerals : List ℕ
  few_contexts : length contexts ≤ most_in_use
  few_ephemerals : length ephemerals ≤ most_in_use
  each_context : (c : ℕ) → b.used_context c ≡ true → Contains contexts c
  each_ephemeral : (k : ℕ) → b.used_ephemeral k ≡ true → Contains ephemerals k

module _ (script : Script) (entries : List Entry) (is_script : IsScript script) (class : ℕ → Bool) (w : World) (sound : IsSound script (IsCovered entries) w)
    (settled : IsSettled w.gateway.board w.gateway.board) (lone : IsLone class w) where
  its_own : (l call : ℕ) → w.gateway.holder l ≡ Some call → call ≡ lone.call
  its_own l call held = let it = sound.gateway.held l call held in lone.only call it.0 it.2

  real : (c : ℕ) (t : TermId) → place_of w.gateway.board t ≡ c → (c ≡ 0 → ⊥) → (row : Row) × (w.gateway.board.row t ≡ Some row) × (row.place.0 ≡ c)
  real c t at real_one = go (w.gateway.board.row t) refl at
    where
      go : (o : Option Row) → w.gateway.board.row t ≡ o → place_in (w.gateway.board.row t) ≡ c → (row : Row) × (w.gateway.board.row t ≡ Some row) × (row.place.0 ≡ c)
      go None is at = absurd (real_one (sym at ∙ ap place_in is))
      go (Some row) is at = (row, is, sym (ap place_in is) ∙ at)

  -- a line that stands in a context is the call's
  line_held : (c : ℕ) (l : ℕ) → place_of w.gateway.board (Line (the_line l)) ≡ c → (c ≡ 0 → ⊥) → w.gateway.holder l ≡ Some lone.call
  line_held c l at real_one = go (w.gateway.holder l) refl
    where
      row : (row : Row) × (w.gateway.board.row (Line (the_line l)) ≡ Some row) × (row.place.0 ≡ c)
      row = real c (Line (the_line l)) at real_one

      go : (o : Option ℕ) → w.gateway.holder l ≡ o → w.gateway.holder l ≡ Some lone.call
      go None is = absurd (real_one (sym row.2 ∙ sound.gateway.unheld l row.0 is row.1))
      go (Some call) is = is ∙ ap (λ (n : ℕ). Some n) (its_own l call is)

  created_here : (x : ℕ) → exists w.gateway.board (Eph x) ≡ true → w.gateway.creator x ≡ Some lone.call
  created_here x there =
      let it = sound.gateway.created x there in it.2 ∙ ap (λ (n : ℕ). Some n) (lone.only it.0 it.1 it.3)

  -- ---- of a call of the present association

  module _ (k : IsCurrent script (IsCovered entries) w.gateway lone.agent) (numbered : lone.agent.call ≡ lone.call) where
    place_at : Termination → ℕ
    place_at t = place_in (row_on w.gateway.board (term_of (naming k.e) t))

    used_places : List ℕ
    used_places = tabulated (λ i. place_in (row_on w.gateway.board (term_of (naming k.e) (termination.Line i)))) (length script.lines)
        ++ tabulated (λ i. place_in (row_on w.gateway.board (term_of (naming k.e) (termination.Ephemeral i)))) (length script.ephemerals)

    used_names : List ℕ
    used_names = tabulated (λ i. unwrap_or (k.e.ephemerals i) 0) (length script.ephemerals)

    owned_now : (x : ℕ) → exists w.gateway.board (Eph x) ≡ true → owned_in w.gateway lone.agent.call (Eph x) ≡ true
    owned_now x there =
        created_only (is_call (w.gateway.creator x) lone.agent.call) (w.gateway.board.used_ephemeral x)
        ∙ ap (λ (o : Option ℕ). is_call o lone.agent.call) (created_here x there ∙ ap (λ (n : ℕ). Some n) (sym numbered)) ∙ eq-eqb lone.agent.call lone.agent.call refl

    place_listed : (c : ℕ) (t : TermId) → place_of w.gateway.board t ≡ c → (c ≡ 0 → ⊥) → Contains used_places c
    unfolding used_places
    place_listed c (Line l) at real_one =
        let it = sound.gateway.held l.0 lone.call (line_held c l.0 at real_one) in
        let same : it.0 ≡ lone.agent = the_some it.0 lone.agent (sym it.2 ∙ lone.open_call) in
        let line : (naming k.e).lines it.1 ≡ l.0 =
        ap (λ (of : ℕ → ℕ). of it.1) (same_lines script w.gateway lone.agent k.e k.c.link k.at) ∙ ap (λ (x : Agent). x.lines it.1) (sym same) ∙ it.4 in
        let here : place_in (row_on w.gateway.board (term_of (naming k.e) (termination.Line it.1))) ≡ c =
        ap (λ (n : ℕ). place_of w.gateway.board (Line (the_line n))) line ∙ at in
        subst (Contains _) here (Contains-append_left _ _ _ (listed (λ i. place_in (row_on w.gateway.board (term_of (naming k.e) (termination.Line i)))) (length script.lines) it.1 it.3))
    place_listed c (Eph x) at real_one =
        let row = real c (Eph x) at real_one in
        let name = k.shown.ephemeral_named x (owned_now x (ap is_some row.1)) (ap is_some row.1) in
        let here : place_in (row_on w.gateway.board (term_of (naming k.e) (termination.Ephemeral name.0))) ≡ c =
        ap (λ (o : Option ℕ). place_in (row_on w.gateway.board (eph_of o))) name.1 ∙ at in
        subst (Contains _) here (Contains-append_right _ _ _
        (listed (λ i. place_in (row_on w.gateway.board (term_of (naming k.e) (termination.Ephemeral i)))) (length script.ephemerals) name.0 (k.shown.ephemeral_slot name.0 x name.1)))

    in_use_now : AreInUse w.gateway.board
    unfolding used_places used_names
    in_use_now = record {
      contexts = used_places;
      ephemerals = used_names;
      few_contexts = (
          let count = length-append (tabulated (λ i. place_in (row_on w.gateway.board (term_of (naming k.e) (termination.Line i)))) (length script.lines))
          (tabulated (λ i. place_in (row_on w.gateway.board (term_of (naming k.e) (termination.Ephemeral i)))) (length script.ephemerals)) in
          let first = long (λ i. place_in (row_on w.gateway.board (term_of (naming k.e) (termination.Line i)))) (length script.lines) in
          let second = long (λ i. place_in (row_on w.gateway.board (term_of (naming k.e) (termination.Ephemeral i)))) (length script.ephemerals) in
          let lines = is_script.lines in let ephemerals = is_script.ephemerals in omega (arith, count, first, second, lines, ephemerals)
          );
      few_ephemerals = (
          let first = long (λ i. unwrap_or (k.e.ephemerals i) 0) (length script.ephemerals) in
          let ephemerals = is_script.ephemerals in omega (arith, first, ephemerals)
          );
      each_context = λ c used.
          let there = (settled.contexts c).0 used in place_listed c there.1.0 there.1.1 there.0;
      each_ephemeral = λ x used.
          let there : exists w.gateway.board (Eph x) ≡ true = sym (settled.ephemerals x) ∙ used in
          let name = k.shown.ephemeral_named x (owned_now x there) there in
          subst (Contains _) (ap (λ (o : Option ℕ). unwrap_or o 0) name.1)
          (listed (λ i. unwrap_or (k.e.ephemerals i) 0) (length script.ephemerals) name.0 (k.shown.ephemeral_slot name.0 x name.1));
    }

  -- ---- of a call of an older association

  nothing_in_use : IsLost script w.gateway lone.agent → lone.agent.call ≡ lone.call → AreInUse w.gateway.board
  nothing_in_use lost numbered = record {
    contexts = [];
    ephemerals = [];
    few_contexts = omega arith;
    few_ephemerals = omega arith;
    each_context = λ c used. let there = (settled.contexts c).0 used in absurd (nobody c there.1.0 there.1.1 there.0);
    each_ephemeral = λ x used. absurd (no_ephemeral x (sym (settled.ephemerals x) ∙ used));
  }
    where
      no_ephemeral : (x : ℕ) → exists w.gateway.board (Eph x) ≡ true → ⊥
      no_ephemeral x there = lost.no_ephemeral x (created_here x there ∙ ap (λ (n : ℕ). Some n) (sym numbered))

      nobody : (c : ℕ) (t : TermId) → place_of w.gateway.board t ≡ c → (c ≡ 0 → ⊥) → ⊥
      nobody c (Line l) at real_one =
          let it = sound.gateway.held l.0 lone.call (line_held c l.0 at real_one) in
          let same : it.0 ≡ lone.agent = the_some it.0 lone.agent (sym it.2 ∙ lone.open_call) in
          let line : lone.agent.lines it.1 ≡ l.0 = ap (λ (x : Agent). x.lines it.1) (sym same) ∙ it.4 in
          real_one (sym at ∙ ap (λ (n : ℕ). place_of w.gateway.board (Line (the_line n))) (sym line) ∙ ap place_in (lost.rows it.1 it.3))
      nobody c (Eph x) at real_one = let row = real c (Eph x) at real_one in no_ephemeral x (ap is_some row.1)

  in_use : AreInUse w.gateway.board
  in_use = by_part (sound.calls lone.call lone.agent lone.open_call).part
    where
      by_part : IsCurrent script (IsCovered entries) w.gateway lone.agent ⊎ IsLost script w.gateway lone.agent → AreInUse w.gateway.board
      by_part (inl k) = in_use_now k (sound.calls lone.call lone.agent lone.open_call).numbered
      by_part (inr lost) = nothing_in_use lost (sound.calls lone.call lone.agent lone.open_call).numbered

  left : HasEnoughNumbers class → HasIdentifiersLeft w
  left enough = record {
    contexts = λ request there.
        let short = lone.short request there in
        let few = in_use.few_contexts in
        passed_on (λ n. (is_context_number n × (class n ≡ true)) × (Contains in_use.contexts n → ⊥)) (IsContextLeft w.gateway.board) (length request.commands)
        (λ n it. (it.0.0, (lone.class_is n ∙ it.0.1, false_from_ne_true (w.gateway.board.used_context n) (λ used. it.1 (in_use.each_context n used)))))
        (without_these in_use.contexts (λ n. is_context_number n × (class n ≡ true)) (length request.commands)
        (fewer (λ n. is_context_number n × (class n ≡ true)) (length in_use.contexts + length request.commands) (most_commands + most_in_use) (omega (arith, short, few)) enough.contexts));
    ephemerals = λ request there.
        let short = lone.short request there in
        let few = in_use.few_ephemerals in
        passed_on (λ n. (is_ephemeral_number n × (class n ≡ true)) × (Contains in_use.ephemerals n → ⊥)) (IsEphemeralLeft w.gateway.board) (length request.commands)
        (λ n it. (it.0.0, (lone.class_is n ∙ it.0.1, false_from_ne_true (w.gateway.board.used_ephemeral n) (λ used. it.1 (in_use.each_ephemeral n used)))))
        (without_these in_use.ephemerals (λ n. is_ephemeral_number n × (class n ≡ true)) (length request.commands)
        (fewer (λ n. is_ephemeral_number n × (class n ≡ true)) (length in_use.ephemerals + length request.commands) (most_commands + most_in_use) (omega (arith, short, few)) enough.ephemerals));
  }

pub never_run_out : CallsAloneNeverRunOut
never_run_out script entries is_script listed none_broken few one lone opens enough history v runs =
    left script entries is_script lone.gateway.board.class v (reached script entries is_script listed none_broken (one ∷ []) history lone v opens runs)
    (runs_settled script history lone v (opening_settled script (one ∷ []) lone opens) runs)
    (runs_lone script few lone.gateway.board.class history lone v (opening_lone script one lone opens) runs) enough

-- ---- a class of numbers

module _ (class : ℕ → Bool) (first stride : ℕ) (below : first < stride) (small : stride ≤ most_shards) (gives : (n : ℕ) → n % stride ≡ first → class n ≡ true) where
  class_left : (passes : ℕ → Type 0) → ((n : ℕ) → 0 < n → n < choose → class n ≡ true → passes n) → AreLeft passes (most_commands + most_in_use)
  class_left passes each =
      class_has_more passes [] stride (first + stride) 0 (most_commands + most_in_use) (omega (arith, below)) small (omega arith)
      (λ n from to same free. each n (omega (arith, from, below)) (omega (arith, to, below, small)) (gives n (same ∙ add-mod_right first stride ∙ mod-eq_of_lt below)))

pub classes_enough : ClassesGiveEnough
classes_enough class first stride below small gives = record {
  contexts = class_left class first stride below small gives (λ n. is_context_number n × (class n ≡ true)) (λ n real less own. ((real, less), own));
  ephemerals = class_left class first stride below small gives (λ n. is_ephemeral_number n × (class n ≡ true)) (λ n real less own. ((real, omega (arith, less)), own));
}
