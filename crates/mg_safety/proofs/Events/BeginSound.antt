-- A call that begins on the lines of one that has ended keeps the world sound.
use Rattle.mg_safety.proofs.Invariant.Sound.{Listed}
use Rattle.mg_safety.proofs.Words.{◌≡◌, ◌∙◌, ℕ, true, false, Some, None, length, sym, ap, subst, arith, inl, inr, ◌<◌, ◌≤◌, Agent, begun, Gateway}
use Rattle.mg_safety.proofs.Words.{CallLink, last_executed, Reply, SentNote, Script, World, Begins, HasEnded, MayBegin, the_some, at_another}
use Rattle.mg_model.specs.Gateway as gateway
use Rattle.mg_safety.proofs.InvariantWords.{IsKnown, IsOpen, IsReached, IsReplySound, IsNoteSound, IsAboveFloor, CallIsSound, GatewayIsSound, IsSound, IsClosed}
use Rattle.mg_safety.proofs.InvariantWords.{KeepsSound}
use Rattle.mg_safety.proofs.Events.Handover.{handed_from, handed_none, handed_other, link_other, kept_from, executed_other, world_begun, agent_new, agent_other}
use Rattle.mg_safety.proofs.Events.Handover.{agent_from, below_next, at_most, floor_begun, floor_new, floor_other, reached_other, other_number, not_known}
use Rattle.mg_safety.proofs.Events.Handover.{still_known}
use Rattle.mg_safety.proofs.Events.BegunCalls.{new_sound, other_sound}

module _ (script : Script) (Among : Listed) (closed : IsClosed script Among) (w : World) (sound : IsSound script Among w) (new old : ℕ) (a : Agent)
    (open_call : w.agent old ≡ Some a) (ended : HasEnded script w a) (may : MayBegin w.gateway old)
    (unused : w.agent new ≡ None) (not_retired : w.gateway.retired new ≡ false) where
  abbrev g : Gateway
  g = w.gateway

  abbrev later : Gateway
  later = gateway.begun w.gateway old new

  abbrev after : World
  after = world_begun script w new old a

  abbrev floor : ℕ → ℕ
  floor = floor_begun sound.floor new a

  apart : new ≡ old → ⊥
  apart = other_number w new old a open_call unused

  none_known : IsKnown w new → ⊥
  none_known = not_known w new unused not_retired

  -- a call that was open, and is neither, is not the new one
  not_new : (other : ℕ) (one : Agent) → w.agent other ≡ Some one → other ≡ new → ⊥
  not_new other one there is = none_known (inl (one, ap w.agent (sym is) ∙ there))

  -- ---- which calls are known, and which are open

  known_after : (call : ℕ) → IsKnown w call → IsKnown after call
  known_after = still_known script w new old a unused

  -- what was sent by a call that is open after and was known before is of one that is neither
  record IsNeither (call : ℕ) : Type 0 where
    not_old : call ≡ old → ⊥
    not_new : call ≡ new → ⊥
    was_open : IsOpen w call

  neither : (call : ℕ) → IsKnown w call → IsOpen after call → IsNeither call
  neither call known (one, there) = elim (agent_from script w new old call a one there) [
    | inl is ↦ absurd (none_known (subst (IsKnown w) is.0 known))
    | inr is ↦ record { not_old = is.1; not_new = is.0; was_open = (one, is.2) }
  ]

  -- ---- the gateway

  created : (call : ℕ) (one : Agent) (x : ℕ) → g.creator x ≡ Some call → w.agent call ≡ Some one → after.agent call ≡ Some one
  created call one x is there =
      agent_other script w new old call a (λ is_old. may.no_ephemeral x (is ∙ ap (λ (n : ℕ). Some n) is_old)) (not_new call one there) ∙ there

  held : (l call : ℕ) → later.holder l ≡ Some call
      → (one : Agent) × (i : ℕ) × (after.agent call ≡ Some one) × (i < length script.lines) × (one.lines i ≡ l)
  held l call is = elim (handed_from old new (g.holder l) call is) [
    | inl own ↦ (let was = sound.gateway.held l old own.0 in
        let same : was.0 ≡ a = the_some was.0 a (sym was.2 ∙ open_call) in (
          begun script new a,
          was.1,
          ap after.agent own.1 ∙ agent_new script w new old a,
          was.3,
          ap (λ (one : Agent). one.lines was.1) (sym same) ∙ was.4,
        ))
    | inr still ↦ (let was = sound.gateway.held l call still.0 in
        (was.0, was.1, agent_other script w new old call a still.1 (not_new call was.0 was.2) ∙ was.2, was.3, was.4))
  ]

  -- what the lines of the old call have is below the number that it would have used next
  before_the_next : (q : ℕ) → IsReached sound.floor g old q → q < a.next
  before_the_next q (inl before) = let above = (sound.floors old a open_call).next in omega (arith, before, above)
  before_the_next q (inr executed) = let above = (sound.calls old a open_call).next in omega (arith, executed, above)

  request_ids : (l call q : ℕ) → later.holder l ≡ Some call → (g.line l).request ≡ Some q → IsReached floor later call q
  request_ids l call q is stands = elim (handed_from old new (g.holder l) call is) [
    | inl own ↦ inl (subst (λ n. q ≤ floor n) (sym own.1)
        (let of_new = floor_new sound.floor new a in
        let most = at_most a.next q (before_the_next q (sound.gateway.request_ids l old q own.0 stands)) in omega (arith, of_new, most)))
    | inr still ↦ (let was = sound.gateway.held l call still.0 in
        reached_other sound.floor g old new call q a still.1 (not_new call was.0 was.2) (sound.gateway.request_ids l call q still.0 stands))
  ]

  retired : (call : ℕ) (one : Agent) → after.agent call ≡ Some one → later.retired call ≡ false
  retired call one there = elim (agent_from script w new old call a one there) [
    | inl is ↦ subst (λ n. later.retired n ≡ false) (sym is.0) (at_another old new true (g.retired new) apart ∙ not_retired)
    | inr is ↦ at_another old call true (g.retired call) is.1 ∙ sound.gateway.retired call one is.2
  ]

  reply_after : (answer : Reply) → IsNeither answer.call → IsReplySound g answer → IsReplySound later answer
  reply_after answer n was = record {
    association = was.association;
    kept = λ present. elim (was.kept present) [
      | inl last ↦ inl (ap (λ (link : CallLink). link.last) (link_other g old new answer.call n.not_old n.not_new) ∙ last)
      | inr older ↦ (let below : answer.number < last_executed g answer.call = older in
          let same = executed_other g old new answer.call n.not_old n.not_new in inr (omega (arith, below, same)))
    ];
  }

  note_after : (sent : SentNote) → IsNeither sent.call → IsNoteSound sound.floor g sent → IsNoteSound floor later sent
  note_after sent n was = record {
    association = was.association;
    standing = λ present. let old_one = was.standing present in record {
      held = handed_other old new sent.call (g.holder sent.line) old_one.held n.not_old;
      number = reached_other sound.floor g old new sent.call sent.note.request a n.not_old n.not_new old_one.number;
      raised = old_one.raised;
    };
  }

  gateway_sound : GatewayIsSound script floor after
  gateway_sound = let old_gateway = sound.gateway in record {
    accounted = old_gateway.accounted;
    creator_stands = old_gateway.creator_stands;
    created = λ x standing. let was = old_gateway.created x standing in (was.0, was.1, was.2, created was.0 was.1 x was.2 was.3);
    apart = old_gateway.apart;
    unheld = λ l row free stands. old_gateway.unheld l row (handed_none old new (g.holder l) free) stands;
    held = held;
    kept = λ call answer is. old_gateway.kept call answer (kept_from g old new call answer apart is);
    request_ids = request_ids;
    retired = retired;
    requests = λ request among. known_after request.call (old_gateway.requests request among);
    replies = λ answer among. let was = old_gateway.replies answer among in
        (known_after answer.call was.0, λ is_open. let n = neither answer.call was.0 is_open in reply_after answer n (was.1 n.was_open));
    notes = λ sent among. let was = old_gateway.notes sent among in
        (known_after sent.call was.0, λ is_open. let n = neither sent.call was.0 is_open in note_after sent n (was.1 n.was_open));
  }

  -- ---- the calls

  new_floor : IsAboveFloor (floor new) after new (begun script new a)
  new_floor = let above = (sound.calls old a open_call).first in record {
    next = let of_new = floor_new sound.floor new a in let below = below_next a.next above in omega (arith, of_new, below);
    requests = λ request among of. absurd (none_known (subst (IsKnown w) of (sound.gateway.requests request among)));
  }

  floors : (call : ℕ) (one : Agent) → after.agent call ≡ Some one → IsAboveFloor (floor call) after call one
  floors call one there = elim (agent_from script w new old call a one there) [
    | inl is ↦ subst (λ n. IsAboveFloor (floor n) after n one) (sym is.0) (subst (IsAboveFloor (floor new) after new) is.1 new_floor)
    | inr is ↦ (let was = sound.floors call one is.2 in
        let same = floor_other sound.floor new call a is.0 in
        record {
          next = let below = was.next in omega (arith, below, same);
          requests = λ request among of. let below = was.requests request among of in omega (arith, below, same);
        })
  ]

  calls : (call : ℕ) (one : Agent) → after.agent call ≡ Some one → CallIsSound script Among after call one
  calls call one there = elim (agent_from script w new old call a one there) [
    | inl is ↦ subst (λ n. CallIsSound script Among after n one) (sym is.0) (subst (CallIsSound script Among after new) is.1
        (new_sound script Among closed w sound new old a open_call ended may unused not_retired))
    | inr is ↦ other_sound script Among closed w sound new old a open_call ended may unused not_retired call one is.2 is.1 is.0
  ]

  pub begun_sound : IsSound script Among after
  begun_sound = record { floor = floor; gateway = gateway_sound; floors = floors; calls = calls }

pub begin_sound : (new old : ℕ) → KeepsSound (λ script w after. Begins script w new old after)
begin_sound new old script Among is_script closed w next sound x = subst (IsSound script Among) (sym x.after_is)
    (begun_sound script Among closed w sound new old x.before x.open_call x.ended x.may x.unused x.not_retired)
