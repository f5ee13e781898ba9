-- Sound worlds are good: a path between two lines is one of a configuration of the certificate, which marks joined lines, and what a
-- configuration of an ended call says is read back on the gateway.
use Rattle.mg_safety.proofs.Invariant.Sound.{Listed}
use Rattle.mg_safety.proofs.Words.{◌≡◌, ◌∙◌, ℕ, true, false, List, [], ◌∷◌, length, Option, Some, None, is_some, refl, sym, ap, subst, arith, true≢false, ◌<◌}
use Rattle.mg_safety.proofs.Words.{◌⊎◌, inl, inr, map, not, ◌&&◌, ◌||◌, IsTrue, eq-eqb, false_from_ne_true, TermId, Line, Eph, Exact, Termination, Row}
use Rattle.mg_safety.proofs.Words.{EventItem, Agent, list_item, exists, place_in, Configuration, is_present, OffHook, silent, Script, state_of, items_of}
use Rattle.mg_safety.proofs.Words.{is_armed_list, is_marked, World, IsMarkedPair, HasEnded, IsReleased, none_is_some, the_some, false_not_true, some_of}
use Rattle.mg_model.specs.declared.commands.Termination.TheVariants as termination
use Rattle.mg_model.specs.declared.transitions.EventItem.TheVariants as item
use Rattle.mg_model.specs.Media as media
use Rattle.mg_model.specs.Obligations as obligations
use Rattle.mg_model.specs.Paths as paths
use Rattle.mg_safety.proofs.InvariantWords.{Naming, naming, eph_of, row_on, number_at, Stands, IsCurrent, IsLost, IsSound, owned_in, is_call, IsClosed}
use Rattle.mg_safety.proofs.InvariantWords.{SoundIsGood}
use Rattle.mg_safety.proofs.Agents.AgentSound.{at_rest}
use Rattle.mg_safety.proofs.Agents.EffectiveAgent.{same_lines}
use Rattle.mg_safety.proofs.GoodWorlds.GoodPaths.{IsNamed, NoStranger, path_shown, path_starts_outside}
use Rattle.mg_safety.proofs.Events.Others.{is_call_of, created_only}

at_null : (row : Option Row) → ((r : Row) → row ≡ Some r → r.place.0 ≡ 0) → place_in row ≡ 0
at_null None all = refl
at_null (Some r) all = all r refl

-- ---- a line that is named

record IsLineOf (script : Script) (n : Naming) (u : Termination) (l : ℕ) : Type 0 where
  i : ℕ
  slot_is : u ≡ termination.Line i
  within : i < length script.lines
  line_is : n.lines i ≡ l

abbrev line_in : Option TermId → Option ℕ
line_in None = None
line_in (Some (Line l)) = Some l.0
line_in (Some (Eph x)) = None

no_line : (o : Option ℕ) → line_in (eph_of o) ≡ None
no_line None = refl
no_line (Some x) = refl

line_of : (script : Script) (n : Naming) (u : Termination) (l : ℕ) → IsNamed script n u (Line (record { 0 = l })) → IsLineOf script n u l
line_of script n (termination.Line i) l named =
    record { i = i; slot_is = refl; within = named.slot; line_is = the_some (n.lines i) l (ap line_in named.is) }
line_of script n (termination.Ephemeral k) l named =
    absurd (none_is_some l (sym (no_line (n.ephemerals k)) ∙ ap line_in named.is))

-- ---- a list that is armed for off-hook alone

armed_is : (script : Script) (items : List (EventItem ℕ)) → IsTrue (is_armed_list items) → map (list_item script) items ≡ OffHook Exact ∷ []
armed_is script (item.OffHook Exact ∷ []) e = refl
armed_is script items e = absurd (false_not_true e)

module _ (script : Script) (Among : Listed) (closed : IsClosed script Among) (w : World) (sound : IsSound script Among w) where
  -- ---- joined lines

  -- a path between two lines is one between lines of a call, in a configuration that stands
  record IsPathOf (l m : ℕ) : Type 0 where
    call : ℕ
    agent : Agent
    i : ℕ
    j : ℕ
    c : Configuration
    there : w.agent call ≡ Some agent
    first : (i < length script.lines) × (agent.lines i ≡ l)
    second : (j < length script.lines) × (agent.lines j ≡ m)
    stands : Stands script Among c
    state : c.state ≡ agent.state
    now : agent.association ≡ w.gateway.association
    path : paths.HasPath c i j

  abbrev row_at : ℕ → Option Row
  row_at l = w.gateway.board.row (Line (record { 0 = l }))

  owner_is : (call x : ℕ) → owned_in w.gateway call (Eph x) ≡ true → w.gateway.creator x ≡ Some call
  owner_is call x its = is_call_of (w.gateway.creator x) call (sym (created_only (is_call (w.gateway.creator x) call) (w.gateway.board.used_ephemeral x)) ∙ its)

  no_stranger : (call : ℕ) → NoStranger (owned_in w.gateway call) w.gateway.board
  no_stranger call x i its there other_there not_its out back =
      let other = sound.gateway.created i other_there in
      sound.gateway.apart x i call other.0 (owner_is call x its) other.2 (λ same. not_its (
      created_only (is_call (w.gateway.creator i) call) (w.gateway.board.used_ephemeral i) ∙ ap (λ (o : Option ℕ). is_call o call) other.2
      ∙ eq-eqb other.0 call (sym same))) out back

  -- a path from a line of a call leads to another line of it, and is one in the configuration that shows the call
  record IsPathTo (a : Agent) (c : Configuration) (i m : ℕ) : Type 0 where
    j : ℕ
    within : j < length script.lines
    line_is : a.lines j ≡ m
    path : paths.HasPath c i j

  path_to : (a : Agent) (current : IsCurrent script Among w.gateway a) (i m : ℕ) → i < length script.lines → media.HasPath w.gateway.board (a.lines i) m
      → IsPathTo a current.c i m
  path_to a current i m within path =
      let same = same_lines script w.gateway a current.e current.c.link current.at in
      let start : IsNamed script (naming current.e) (termination.Line i) (Line (record { 0 = a.lines i })) =
      record { slot = within; is = ap (λ (lines : ℕ → ℕ). Some (Line (record { 0 = lines i }))) same } in
      let found = path_shown script (owned_in w.gateway a.call) (naming current.e) w.gateway.board current.c current.shown (no_stranger a.call) (termination.Line i)
      (Line (record { 0 = a.lines i })) (Line (record { 0 = m })) path.crossings start path.goes in
      let last = line_of script (naming current.e) found.to m found.named in
      let own : a.lines last.i ≡ m = ap (λ (lines : ℕ → ℕ). lines last.i) (sym same) ∙ last.line_is in
      record {
        j = last.i;
        within = last.within;
        line_is = own;
        path = record {
          another = λ e. path.another (ap a.lines e ∙ own);
          crossings = found.crossings;
          goes = subst (λ v. IsTrue (paths.goes_over current.c (termination.Line i) found.crossings v)) last.slot_is found.path;
        };
      }

  -- between two lines of it
  pub path_between : (call : ℕ) (a : Agent) → w.agent call ≡ Some a → (current : IsCurrent script Among w.gateway a) (i j : ℕ) → i < length script.lines
      → j < length script.lines → media.HasPath w.gateway.board (a.lines i) (a.lines j) → paths.HasPath current.c i j
  path_between call a there current i j first second path =
      let found = path_to a current i (a.lines j) first path in
      subst (λ (k : ℕ). paths.HasPath current.c i k) ((sound.calls call a there).once found.j j found.within second found.line_is) found.path

  path_of : (l m : ℕ) → media.HasPath w.gateway.board l m → IsPathOf l m
  path_of l m path = held_by (w.gateway.holder l) refl
    where
      outside : place_in (row_at l) ≡ 0 → ⊥
      outside = path_starts_outside w.gateway.board (Line (record { 0 = l })) (Line (record { 0 = m })) path.crossings path.goes

      by_part : (call : ℕ) (a : Agent) (i : ℕ) → w.agent call ≡ Some a → i < length script.lines → a.lines i ≡ l
          → IsCurrent script Among w.gateway a ⊎ IsLost script w.gateway a → IsPathOf l m
      by_part call a i there within is (inl current) =
          let found = path_to a current i m within (subst (λ (n : ℕ). media.HasPath w.gateway.board n m) (sym is) path) in
          record {
            call = call;
            agent = a;
            i = i;
            j = found.j;
            c = current.c;
            there = there;
            first = (within, is);
            second = (found.within, found.line_is);
            stands = current.stands;
            state = current.state;
            now = current.association;
            path = found.path;
          }
      by_part call a i there within is (inr lost) = absurd (outside (ap (λ n. place_in (row_at n)) (sym is) ∙ ap place_in (lost.rows i within)))

      held_by : (holder : Option ℕ) → w.gateway.holder l ≡ holder → IsPathOf l m
      held_by None e = absurd (outside (at_null (row_at l) (λ r stands. sound.gateway.unheld l r e stands)))
      held_by (Some call) e =
          let h = sound.gateway.held l call e in
          by_part call h.0 h.1 h.2 h.3 h.4 (sound.calls call h.0 h.2).part

  joined : (l m : ℕ) → media.AreJoined w.gateway.board l m → IsMarkedPair script w l m
  joined l m (inl path) =
      let p = path_of l m path in
      record {
        call = p.call;
        agent = p.agent;
        i = p.i;
        j = p.j;
        open_call = p.there;
        first = p.first;
        second = p.second;
        marked = subst (λ state. IsTrue (is_marked (state_of script state).talk p.i p.j)) p.state
            (closed.marked p.c p.stands p.i p.j p.first.0 p.second.0 (inl p.path));
        current = p.now;
      }
  joined l m (inr path) =
      let p = path_of m l path in
      record {
        call = p.call;
        agent = p.agent;
        i = p.j;
        j = p.i;
        open_call = p.there;
        first = p.second;
        second = p.first;
        marked = subst (λ state. IsTrue (is_marked (state_of script state).talk p.j p.i)) p.state
            (closed.marked p.c p.stands p.j p.i p.second.0 p.first.0 (inr p.path));
        current = p.now;
      }

  -- ---- calls that have ended

  module _ (call : ℕ) (a : Agent) (numbered : a.call ≡ call) (current : IsCurrent script Among w.gateway a)
      (cleared : obligations.IsCleared script current.c) where
    abbrev names : Naming
    names = naming current.e

    same_line : (i : ℕ) → current.e.lines i ≡ a.lines i
    same_line i = ap (λ (lines : ℕ → ℕ). lines i) (same_lines script w.gateway a current.e current.c.link current.at)

    no_ephemeral : (k : ℕ) → w.gateway.creator k ≡ Some call → exists w.gateway.board (Eph k) ≡ false
    no_ephemeral k created = false_from_ne_true (exists w.gateway.board (Eph k)) stands_not
      where
        mine : owned_in w.gateway a.call (Eph k) ≡ true
        mine = ap (λ o. is_call o a.call || (w.gateway.board.used_ephemeral k && not (w.gateway.board.used_ephemeral k))) created
            ∙ ap (λ test. test || (w.gateway.board.used_ephemeral k && not (w.gateway.board.used_ephemeral k))) (eq-eqb call a.call (sym numbered))

        stands_not : exists w.gateway.board (Eph k) ≡ true → ⊥
        stands_not stands =
            let named = current.shown.ephemeral_named k mine stands in
            let absent : is_some (row_on w.gateway.board (eph_of (current.e.ephemerals named.0))) ≡ false =
            current.shown.stands (termination.Ephemeral named.0) (current.shown.ephemeral_slot named.0 k named.1)
            ∙ ap is_present (cleared.no_ephemeral named.0) in
            true≢false (sym stands ∙ ap (λ o. is_some (row_on w.gateway.board (eph_of o))) (sym named.1) ∙ absent)

    in_null : (i : ℕ) → i < length script.lines → (row : Row) × (row_at (a.lines i) ≡ Some row) × (row.place.0 ≡ 0)
    in_null i within =
        let stands : is_some (row_at (a.lines i)) ≡ true = ap (λ l. is_some (row_at l)) (sym (same_line i)) ∙ current.shown.line_stands i within in
        let found = some_of (row_at (a.lines i)) stands in
        let placed : place_in (row_at (a.lines i)) ≡ 0 =
        ap (λ l. place_in (row_at l)) (sym (same_line i)) ∙ current.shown.place (termination.Line i) within ∙ ap (number_at names) (cleared.in_null i within) in
        (found.0, found.1, ap place_in (sym found.1) ∙ placed)

    is_silent : (i : ℕ) → i < length script.lines → (w.gateway.line (a.lines i)).playing ≡ silent
    is_silent i within = ap (λ l. (w.gateway.line l).playing) (sym (same_line i)) ∙ current.lines_shown.silent i within (cleared.silent i within)

    is_armed : (i : ℕ) → i < length script.lines → (w.gateway.line (a.lines i)).list ≡ OffHook Exact ∷ []
    is_armed i within =
        ap (λ l. (w.gateway.line l).list) (sym (same_line i)) ∙ current.lines_shown.events i within
        ∙ armed_is script (items_of script (current.c.events i)) (cleared.armed i within)

    call_released : IsReleased script w call a
    call_released = record { no_ephemeral = no_ephemeral; in_null = in_null; is_silent = is_silent; is_armed = is_armed }

  ended : (call : ℕ) (a : Agent) → w.agent call ≡ Some a → HasEnded script w a → IsReleased script w call a
  ended call a there has_ended = by_part (sound.calls call a there).part
    where
      by_part : IsCurrent script Among w.gateway a ⊎ IsLost script w.gateway a → IsReleased script w call a
      by_part (inl current) =
          let rests = at_rest script w.gateway a current.e current.c.link has_ended.at_rest current.at in
          call_released call a (sound.calls call a there).numbered current
          (closed.cleared current.c current.stands rests.link_is (subst (λ state. IsTrue (state_of script state).is_end) (sym current.state) has_ended.is_end))
      by_part (inr lost) =
          let before : a.association < w.gateway.association = lost.association in
          let now : a.association ≡ w.gateway.association = has_ended.current in
          absurd (omega (arith, before, now))

pub sound_good : SoundIsGood
sound_good script Among is_script closed w sound = record { joined = joined script Among closed w sound; ended = ended script Among closed w sound }
