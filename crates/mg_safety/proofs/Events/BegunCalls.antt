-- Where a call begins on the lines of one that has ended, the new call is shown the opening configuration, and each other call what it was shown.
use Rattle.mg_safety.proofs.Invariant.Sound.{Listed}
use Rattle.mg_safety.proofs.Words.{[], ◌≡◌, ◌∙◌, ℕ, false, Option, Some, None, length, refl, sym, ap, subst, arith, inl, inr, true≢false, ◌<◌, ◌⊎◌, IsTrue}
use Rattle.mg_safety.proofs.Words.{false_from_ne_true, TermId, Line, Spot, Null, Agent, begun, is_in, Gateway, CallLink, MayBegin, list_of, Script}
use Rattle.mg_safety.proofs.Words.{opening, state_of, World, HasEnded, the_some, same_itself}
use Rattle.mg_model.specs.declared.commands.Termination.TheVariants as termination
use Rattle.mg_model.specs.Gateway as gateway
use Rattle.mg_safety.proofs.InvariantWords.{naming, LinesShown, IsCurrent, IsLost, IsKnown, CallIsSound, IsSound, is_call, owned_in, IsClosed}
use Rattle.mg_safety.proofs.Agents.AgentSound.{at_rest}
use Rattle.mg_safety.proofs.Agents.Entering.{not_resting}
use Rattle.mg_safety.proofs.Events.Others.{is_call_of, created_only}
use Rattle.mg_safety.proofs.Events.Handover.{handed_own, handed_other, still_owns, link_other, none_executed, world_begun, other_number, not_known}
use Rattle.mg_safety.proofs.Invariant.OpeningShown.{AreCleared, events_armed, opening_shown}
use Rattle.mg_safety.proofs.Events.StillSound.{current_still, call_still}
use Rattle.mg_safety.proofs.Shared.ShownParts.{seen_with}

-- no termination stands in a context where it stands in the null context
not_in : (spot : Spot) (j : ℕ) → spot ≡ Null → IsTrue (is_in spot j) → ⊥
not_in spot j null there = true≢false (sym there ∙ ap (λ (s : Spot). is_in s j) null)

module _ (script : Script) (Among : Listed) (closed : IsClosed script Among) (w : World) (sound : IsSound script Among w) (new old : ℕ) (a : Agent)
    (open_call : w.agent old ≡ Some a) (ended : HasEnded script w a) (may : MayBegin w.gateway old)
    (unused : w.agent new ≡ None) (not_retired : w.gateway.retired new ≡ false) where
  abbrev g : Gateway
  g = w.gateway

  abbrev later : Gateway
  later = gateway.begun w.gateway old new

  abbrev after : World
  after = world_begun script w new old a

  was : CallIsSound script Among w old a
  was = sound.calls old a open_call

  current : IsCurrent script Among g a
  current = elim was.part [
    | inl k ↦ k
    | inr lost ↦ (let older = lost.association in let present = ended.current in absurd (omega (arith, older, present)))
  ]

  -- ---- the new call

  -- the old call is cleared: its lines stand in the null context, where nothing is cut
  no_cut : (i j : ℕ) → i < length script.lines → j < length script.lines
      → g.board.cut (Line (record { 0 = a.lines i })) (Line (record { 0 = a.lines j })) ≡ false
  no_cut i j first second =
      let k = current in
      let rest = at_rest script g a k.e k.c.link ended.at_rest k.at in
      let names : (naming k.e).lines ≡ a.lines = ap (λ (e : Agent). e.lines) rest.effective in
      let cleared = closed.cleared k.c k.stands rest.link_is (subst (λ n. IsTrue (state_of script n).is_end) (sym k.state) ended.is_end) in
      let none : k.c.cut (termination.Line i) (termination.Line j) ≡ false = false_from_ne_true (k.c.cut (termination.Line i) (termination.Line j))
      (λ is_cut. let within = k.stands.formed.cut_within (termination.Line i) (termination.Line j) is_cut in
      not_in (k.c.spot (termination.Line i)) within.0 (cleared.in_null i first) within.1.0) in
      subst (λ (lines : ℕ → ℕ). g.board.cut (Line (record { 0 = lines i })) (Line (record { 0 = lines j })) ≡ false) names
      (sym (k.shown.cut (termination.Line i) (termination.Line j) first second) ∙ none)

  cleared : AreCleared script (owned_in later new) g.board a.lines
  cleared = record {
    rows = λ i within. may.rows (a.lines i) (was.held i within);
    no_cut = no_cut;
    own = λ i within. ap (λ (o : Option ℕ). is_call o new) (handed_own old new (g.holder (a.lines i)) (was.held i within)) ∙ same_itself new;
    once = was.once;
    no_ephemeral = λ x is standing.
        let made = sound.gateway.created x standing in
        let mine : g.creator x ≡ Some new = is_call_of (g.creator x) new (sym (created_only (is_call (g.creator x) new) (g.board.used_ephemeral x)) ∙ is) in
        not_known w new unused not_retired (subst (IsKnown w) (the_some made.0 new (sym made.2 ∙ mine)) (inl (made.1, made.3)));
  }

  lines_shown : LinesShown script (begun script new a) later.line (opening script)
  lines_shown = record {
    events = λ i within. may.list (a.lines i) (was.held i within) ∙ sym (ap (list_of script) (events_armed script i within));
    silent = λ i within still. may.playing (a.lines i) (was.held i within);
    expected = λ i within.
        let k = current in
        let rest = at_rest script g a k.e k.c.link ended.at_rest k.at in
        subst (λ (e : Agent). (g.line (e.lines i)).request ≡ e.expected i) rest.effective (k.lines_shown.expected i within);
    unnamed = λ i within.
        let k = current in
        let rest = at_rest script g a k.e k.c.link ended.at_rest k.at in
        subst (λ (e : Agent). (g.line (e.lines i)).request ≡ None → (g.line (e.lines i)).list ≡ []) rest.effective (k.lines_shown.unnamed i within);
  }

  pub new_sound : CallIsSound script Among after new (begun script new a)
  new_sound =
      let none = none_executed g old new (other_number w new old a open_call unused) in
      let above = was.first in
      record {
        numbered = refl;
        first = above;
        next = omega (arith, none, above);
        held = λ i within. handed_own old new (g.holder (a.lines i)) (was.held i within);
        once = was.once;
        requests = λ request among of. absurd (not_known w new unused not_retired (subst (IsKnown w) of (sound.gateway.requests request among)));
        outstanding = λ request awaiting. absurd (not_resting request awaiting);
        part = inl (record {
          association = ended.current;
          c = opening script;
          e = begun script new a;
          stands = closed.opening;
          state = refl;
          at = inr (inr (inr (record { phase = refl; effective = refl; link_is = refl })));
          shown = opening_shown script (owned_in later new) g.board a.lines cleared;
          lines_shown = lines_shown;
        });
      }

  -- ---- another call

  module _ (other : ℕ) (one : Agent) (there : w.agent other ≡ Some one) (not_old : other ≡ old → ⊥) (not_new : other ≡ new → ⊥) where
    its : CallIsSound script Among w other one
    its = sound.calls other one there

    last : (later.link one.call).last ≡ (g.link one.call).last
    last = subst (λ n. (later.link n).last ≡ (g.link n).last) (sym its.numbered)
        (ap (λ (l : CallLink). l.last) (link_other g old new other not_old not_new))

    owns : (t : TermId) → owned_in later one.call t ≡ owned_in g one.call t
    owns = subst (λ n. (t : TermId) → owned_in later n t ≡ owned_in g n t) (sym its.numbered) (still_owns g old new other not_old not_new)

    part_still : IsCurrent script Among g one ⊎ IsLost script g one → IsCurrent script Among later one ⊎ IsLost script later one
    part_still (inl k) = inl ((current_still script Among w after one refl last k
        (seen_with script (owned_in g one.call) (owned_in later one.call) (naming k.e) g.board k.c owns g.board.cut k.c.state k.c.link k.c.context k.c.cut
        (λ j. refl) k.shown.cut k.shown) k.lines_shown).current)
    part_still (inr lost) = inr (record {
      association = lost.association;
      rows = lost.rows;
      list = lost.list;
      playing = lost.playing;
      request = lost.request;
      no_ephemeral = lost.no_ephemeral;
      no_reply = last ∙ lost.no_reply;
      no_cut = lost.no_cut;
    })

    pub other_sound : CallIsSound script Among after other one
    other_sound = call_still script Among w after one refl last other its
        (λ i within. handed_other old new other (g.holder (one.lines i)) (its.held i within) not_old) (λ request among. among) (part_still its.part)
