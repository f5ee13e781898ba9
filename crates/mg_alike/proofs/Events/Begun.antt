-- A call begins in two worlds on the lines of one that they treat alike.
use Rattle.std.proofs.Common.{◌≡◌, ◌∙◌, ℕ, Bool, true, false, List, Option, Some, None, refl, sym, ap, subst, arith, inl, inr, ◌==◌, ◌⊎◌, Contains}
use Rattle.std.proofs.Common.{if◌then◌else◌}
use Rattle.mg_merge.proofs.Words.{Agent, Begins, CallLink, Entry, Eph, Gateway, HasEnded, Inactive, Line, LineNo, LineRow, MayBegin, Mode, Phase, Reply}
use Rattle.mg_merge.proofs.Words.{Request, Row, Script, SentNote, TermId, World, at_another, at_one, eq-eqb, handed_over, none_is_some, not_both, null}
use Rattle.mg_merge.proofs.Words.{null_row, remote_in, resting, state_of, the_context, the_line, the_some}
use Rattle.mg_alike.proofs.Words.{AreSentInBoth, BeginningsAlike, BeginningsHappenAlike, CallAlike, OptionalRowsAlike, OwnAlike, PhasesAlike, Renaming}
use Rattle.mg_model.specs.Entries.{IsCovered}
use Rattle.mg_model.specs.Agent as agents
use Rattle.mg_model.specs.Gateway as gateway
use Rattle.mg_safety.proofs.Agents.AgentSound.{rest_quiet}
use Rattle.mg_safety.proofs.Events.Handover.{handed_from, handed_own}
use Rattle.mg_safety.proofs.Events.Others.{created_only, is_call_of}
use Rattle.mg_safety.proofs.GoodWorlds.Beginning.{reached}
use Rattle.mg_safety.proofs.Invariant.Sound.{is_call, owned_in, IsAt, IsCurrent, IsKnown, IsLost, IsSound}
use Rattle.mg_alike.proofs.Agents.Steps.{agents_step}
use Rattle.mg_alike.proofs.Commands.Reading.{first_real}
use Rattle.mg_alike.proofs.Events.Plain.{IsPlain, opening_plain, runs_plain}
use Rattle.mg_alike.proofs.Requests.Starting.{partner_back}

abbrev world_begun : Script → World → (call old : ℕ) → Agent → World
world_begun script w call old a = record w {
  gateway = gateway.begun w.gateway old call;
  agent = λ c. if c == call then Some (agents.begun script call a) else if c == old then None else w.agent c;
}

begun_is : (script : Script) (w after : World) (call old : ℕ) (a : Agent) → w.agent old ≡ Some a → Begins script w call old after → after ≡ world_begun script w call old a
begun_is script w after call old a there b =
    b.after_is ∙ ap (λ (x : Agent). world_begun script w call old x) (the_some b.before a (sym b.open_call ∙ there))

-- a call whose number is new has nothing
module _ (script : Script) (entries : List Entry) (w : World) (sound : IsSound script (IsCovered entries) w) (call : ℕ) (unused : w.agent call ≡ None)
    (not_retired : w.gateway.retired call ≡ false) where
  not_known : (c : ℕ) → c ≡ call → IsKnown w c → ⊥
  not_known c is (inl there) = none_is_some there.0 (sym unused ∙ ap w.agent (sym is) ∙ there.1)
  not_known c is (inr gone) = not_both (ap w.gateway.retired (sym is) ∙ gone) not_retired

  no_line : (l : ℕ) → w.gateway.holder l ≡ Some call → ⊥
  no_line l held = let it = sound.gateway.held l call held in none_is_some it.0 (sym unused ∙ it.2)

  no_creation : (x : ℕ) → w.gateway.creator x ≡ Some call → ⊥
  no_creation x created =
      let it = sound.gateway.created x (sound.gateway.creator_stands x call created) in
      none_is_some it.1 (sym unused ∙ ap w.agent (the_some call it.0 (sym created ∙ it.2)) ∙ it.3)

  was_held : (old l : ℕ) → handed_over old call (w.gateway.holder l) ≡ Some call → w.gateway.holder l ≡ Some old
  was_held old l held = elim (handed_from old call (w.gateway.holder l) call held) [
    | inl new ↦ new.0
    | inr same ↦ absurd (no_line l same.0)
  ]

never_sent : {A : Type 0} (of : A → ℕ) (call : ℕ) (alike : A → A → Type 0) (sent others : List A) → ((x : A) → Contains sent x → of x ≡ call → ⊥)
    → ((x : A) → Contains others x → of x ≡ call → ⊥) → AreSentInBoth of call alike sent others
never_sent of call alike sent others first second = record {
  onward = λ x there its. absurd (first x there its);
  back = λ y there its. absurd (second y there its);
}

new_link : (g : Gateway) (old new : ℕ) → (new ≡ old → ⊥) → (gateway.begun g old new).link new ≡ record { last = None; notes = 0 }
new_link g old new differ =
    at_another old new (record { last = None; notes = 0 }) (if new == new then record { last = None; notes = 0 } else g.link new) differ
    ∙ at_one new (record { last = None; notes = 0 }) (g.link new)

module _ (script : Script) (entries : List Entry) (w v : World) (sound : IsSound script (IsCovered entries) w) (also_sound : IsSound script (IsCovered entries) v) (call old : ℕ) (r : Renaming) (a b : Agent)
    (alike : CallAlike r w v old a b) (unused : w.agent call ≡ None) (not_retired : w.gateway.retired call ≡ false) (also_unused : v.agent call ≡ None)
    (also_not : v.gateway.retired call ≡ false) where
  differ : call ≡ old → ⊥
  differ is = none_is_some a (sym unused ∙ ap w.agent is ∙ alike.open_one)

  owns : (t u : TermId) → OwnAlike r (world_begun script w call old a) (world_begun script v call old b) call t u → OwnAlike r w v old t u
  owns (Line l) (Line m) own = (own.0, was_held script entries w sound call unused not_retired old l.0 own.1)
  owns (Eph x) (Eph y) own = absurd (no_creation script entries w sound call unused not_retired x own.1)
  owns _ _ own = absurd own

  begun_alike : CallAlike r (world_begun script w call old a) (world_begun script v call old b) call (agents.begun script call a) (agents.begun script call b)
  begun_alike = record {
    renaming = alike.renaming;
    open_one = at_one call (Some (agents.begun script call a)) (if call == old then None else w.agent call);
    open_other = at_one call (Some (agents.begun script call b)) (if call == old then None else v.agent call);
    agents = (agents_step script r a b alike.renaming alike.agents).begun call;
    association = alike.association;
    kept = rw (new_link w.gateway old call differ, new_link v.gateway old call differ) tt;
    count = ap (λ (link : CallLink). link.notes) (new_link v.gateway old call differ) ∙ sym (ap (λ (link : CallLink). link.notes) (new_link w.gateway old call differ));
    held = λ l. (
      λ e. handed_own old call (v.gateway.holder l) ((alike.held l).0 (was_held script entries w sound call unused not_retired old l e)),
      λ e. handed_own old call (w.gateway.holder l) ((alike.held l).1 (was_held script entries v also_sound call also_unused also_not old l e)),
    );
    lines = λ l e. alike.lines l (was_held script entries w sound call unused not_retired old l e);
    rows = λ t u own. alike.rows t u (owns t u own);
    created = λ x e. absurd (no_creation script entries w sound call unused not_retired x e);
    created_back = λ y e. absurd (no_creation script entries v also_sound call also_unused also_not y e);
    cuts = λ t u s x first second. alike.cuts t u s x (owns t u first) (owns s x second);
    requests = never_sent (λ (q : Request). q.call) call _ w.requests v.requests
        (λ q there its. not_known script entries w sound call unused not_retired q.call its (sound.gateway.requests q there))
        (λ q there its. not_known script entries v also_sound call also_unused also_not q.call its (also_sound.gateway.requests q there));
    replies = never_sent (λ (q : Reply). q.call) call _ w.replies v.replies
        (λ q there its. not_known script entries w sound call unused not_retired q.call its (sound.gateway.replies q there).0)
        (λ q there its. not_known script entries v also_sound call also_unused also_not q.call its (also_sound.gateway.replies q there).0);
    notes = never_sent (λ (n : SentNote). n.call) call _ w.notes v.notes
        (λ n there its. not_known script entries w sound call unused not_retired n.call its (sound.gateway.notes n there).0)
        (λ n there its. not_known script entries v also_sound call also_unused also_not n.call its (also_sound.gateway.notes n there).0);
  }

pub beginnings_alike : BeginningsAlike
beginnings_alike script w v at call old treat after next b d = record {
  renaming = treat.renaming;
  one = agents.begun script call treat.one;
  other = agents.begun script call treat.other;
  alike = rw (begun_is script w after call old treat.one treat.alike.open_one b, begun_is script v next call old treat.other treat.alike.open_other d)
      (begun_alike script at.entries w v (reached script at.entries at.is_script at.listed at.none_broken at.calls at.events at.start w at.opens at.runs)
      (reached script at.entries at.is_script at.listed at.none_broken at.others at.history at.first v at.also_opens at.also_runs) call old treat.renaming treat.one treat.other
      treat.alike b.unused b.not_retired d.unused d.not_retired);
}

-- ---- it can begin in the other world too

rests_too : (r : Renaming) (p q : Phase) → PhasesAlike r p q → p ≡ resting → q ≡ resting
rests_too r p q same is = go q (subst (λ (x : Phase). PhasesAlike r x q) is same)
  where
    go : (q : Phase) → PhasesAlike r resting q → q ≡ resting
    go resting same = refl
    go _ same = absurd same

abbrev row_of : ℕ → Mode → Option ℕ → Row
row_of place mode remote = record { place = the_context place; mode = mode; remote = remote }

null_row_is : (row : Row) → row.place.0 ≡ null → row.mode ≡ Inactive → row.remote ≡ None → row ≡ null_row
null_row_is row place mode remote =
    ap (λ (n : ℕ). row_of n row.mode row.remote) place ∙ ap (λ (m : Mode). row_of null m row.remote) mode ∙ ap (λ (o : Option ℕ). row_of null Inactive o) remote

row_too : (r : Renaming) (held : ℕ → Bool) (l : LineNo) (o p : Option Row) → OptionalRowsAlike r (Line l) o p → ((d : ℕ) → r.contexts null d ≡ true → ⊥) → o ≡ Some null_row
    → remote_in p ≡ None → p ≡ Some null_row
row_too r held l o p same real is plain = go p (subst (λ (x : Option Row). OptionalRowsAlike r (Line l) x p) is same) plain
  where
    go : (p : Option Row) → OptionalRowsAlike r (Line l) (Some null_row) p → remote_in p ≡ None → p ≡ Some null_row
    go None same plain = absurd same
    go (Some row) same plain = ap (λ (x : Row). Some x) (null_row_is row (elim same.place [
      | inl none ↦ none.1
      | inr its ↦ absurd (real row.place.0 its)
    ]) same.mode plain)

-- a call at rest has what it will have
at_rest : (script : Script) (entries : List Entry) (g : Gateway) (a : Agent) (k : IsCurrent script (IsCovered entries) g a) → a.phase ≡ resting → k.e ≡ a
at_rest script entries g a k rests = by_at k.at
  where
    by_at : IsAt script g a k.e k.c.link → k.e ≡ a
    by_at (inl s) = s.effective
    by_at (inr (inl s)) = absurd (rest_quiet a.phase rests s.request s.outstanding.phase)
    by_at (inr (inr (inl s))) = s.effective
    by_at (inr (inr (inr s))) = s.effective

module _ (script : Script) (entries : List Entry) (w v : World) (sound : IsSound script (IsCovered entries) w) (also_sound : IsSound script (IsCovered entries) v) (plain : IsPlain v.gateway.board)
    (old : ℕ) (r : Renaming) (a b : Agent) (alike : CallAlike r w v old a b) (ended : HasEnded script w a) (may : MayBegin w.gateway old) where
  ended_too : HasEnded script v b
  ended_too = record {
    is_end = ap (λ (n : ℕ). (state_of script n).is_end) alike.agents.state ∙ ended.is_end;
    at_rest = rests_too r a.phase b.phase alike.agents.phase ended.at_rest;
    current = alike.agents.association ∙ ended.current ∙ sym alike.association;
  }

  current_one : IsCurrent script (IsCovered entries) w.gateway a
  current_one = by_part (sound.calls old a alike.open_one).part
    where
      by_part : IsCurrent script (IsCovered entries) w.gateway a ⊎ IsLost script w.gateway a → IsCurrent script (IsCovered entries) w.gateway a
      by_part (inl k) = k
      by_part (inr lost) = let older = lost.association in let now = ended.current in absurd (omega (arith, older, now))

  current_other : IsCurrent script (IsCovered entries) v.gateway b
  current_other = by_part (also_sound.calls old b alike.open_other).part
    where
      by_part : IsCurrent script (IsCovered entries) v.gateway b ⊎ IsLost script v.gateway b → IsCurrent script (IsCovered entries) v.gateway b
      by_part (inl k) = k
      by_part (inr lost) = let older = lost.association in let now = ended_too.current in absurd (omega (arith, older, now))

  -- what it is said to own in the one world it owns
  own_one : (x : ℕ) → owned_in w.gateway a.call (Eph x) ≡ true → w.gateway.creator x ≡ Some old
  own_one x owned =
      is_call_of (w.gateway.creator x) old
      (ap (λ (n : ℕ). is_call (w.gateway.creator x) n) (sym (sound.calls old a alike.open_one).numbered)
      ∙ sym (created_only (is_call (w.gateway.creator x) a.call) (w.gateway.board.used_ephemeral x)) ∙ owned)

  own_other : (x : ℕ) → v.gateway.creator x ≡ Some old → owned_in v.gateway b.call (Eph x) ≡ true
  own_other x created =
      created_only (is_call (v.gateway.creator x) b.call) (v.gateway.board.used_ephemeral x)
      ∙ ap (λ (o : Option ℕ). is_call o b.call) (created ∙ ap (λ (n : ℕ). Some n) (sym (also_sound.calls old b alike.open_other).numbered)) ∙ eq-eqb b.call b.call refl

  -- an ephemeral with a name of the call
  not_named : (k x : ℕ) → b.ephemerals k ≡ Some x → ⊥
  not_named k x bound =
      let its = partner_back r.ephemerals (a.ephemerals k) (b.ephemerals k) x bound (alike.agents.ephemerals k) in
      let named : current_one.e.ephemerals k ≡ a.ephemerals k =
      ap (λ (e : Agent). e.ephemerals k) (at_rest script entries w.gateway a current_one ended.at_rest) in
      may.no_ephemeral its.0 (own_one its.0 (current_one.shown.ephemeral_owned k its.0 (named ∙ its.1)))

  none_created : (x : ℕ) → v.gateway.creator x ≡ Some old → ⊥
  none_created x created =
      let name = current_other.shown.ephemeral_named x (own_other x created) (also_sound.gateway.creator_stands x old created) in
      let same : b.ephemerals name.0 ≡ current_other.e.ephemerals name.0 =
      ap (λ (e : Agent). e.ephemerals name.0) (sym (at_rest script entries v.gateway b current_other ended_too.at_rest)) in
      not_named name.0 x (same ∙ name.1)

  may_too : MayBegin v.gateway old
  may_too = record {
    rows = λ l held.
        let its = (alike.held l).1 held in
        row_too r (λ n. true) (the_line l) (w.gateway.board.row (Line (the_line l))) (v.gateway.board.row (Line (the_line l)))
        (alike.rows (Line (the_line l)) (Line (the_line l)) (refl, its)) (λ d is. first_real r (λ n. true) alike.renaming null d is refl) (may.rows l its) (plain (the_line l));
    playing = λ l held. let its = (alike.held l).1 held in ap (λ (row : LineRow). row.playing) (alike.lines l its) ∙ may.playing l its;
    list = λ l held. let its = (alike.held l).1 held in ap (λ (row : LineRow). row.list) (alike.lines l its) ∙ may.list l its;
    no_ephemeral = none_created;
  }

pub beginnings_happen : BeginningsHappenAlike
beginnings_happen script w v at call old treat after b unused not_retired =
    let sound = reached script at.entries at.is_script at.listed at.none_broken at.calls at.events at.start w at.opens at.runs in
    let also_sound = reached script at.entries at.is_script at.listed at.none_broken at.others at.history at.first v at.also_opens at.also_runs in
    let plain = runs_plain script at.history at.first v (opening_plain script at.others at.first at.also_opens) at.also_runs in
    let ended = subst (λ (x : Agent). HasEnded script w x) (the_some b.before treat.one (sym b.open_call ∙ treat.alike.open_one)) b.ended in (
      world_begun script v call old treat.other,
      record {
        before = treat.other;
        open_call = treat.alike.open_other;
        ended = ended_too script at.entries w v sound also_sound plain old treat.renaming treat.one treat.other treat.alike ended b.may;
        may = may_too script at.entries w v sound also_sound plain old treat.renaming treat.one treat.other treat.alike ended b.may;
        unused = unused;
        not_retired = not_retired;
        after_is = refl;
      },
    )
