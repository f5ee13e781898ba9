-- A call of a shard that begins on the lines of one that has ended begins on the same lines in the merge.
use Rattle.std.proofs.Common.{◌≡◌, ◌∙◌, ℕ, Bool, true, false, Option, Some, None, refl, sym, ap, subst, ◌==◌, if◌then◌else◌}
use Rattle.mg_merge.proofs.Words.{Agent, Begins, CallLink, Line, LineRow, Reply, Script, World, at_another, begun, different, eqb-true, handed_over}
use Rattle.mg_merge.proofs.Words.{none_is_some, not_both, the_some, where_false}
use Rattle.mg_model.specs.Gateway as gateway
use Rattle.mg_merge.proofs.Events.AgentNames.{IsAgentWithin, IsReplyWithin, begun_within}
use Rattle.mg_merge.proofs.Events.AgentSteps.{Follows, another_number, follows_so}
use Rattle.mg_merge.proofs.Commands.RequestRuns.{same_outside}
use Rattle.mg_merge.proofs.Scopes.{Scope}
use Rattle.mg_merge.proofs.Events.Worlds.{IsContained, IsBeside, IsMerge}

abbrev nothing_kept : CallLink
nothing_kept = record { last = None; notes = 0 }

-- the world in which the new call has begun
abbrev begun_world : Script → World → (call old : ℕ) → Agent → World
begun_world script w call old before = record w {
  gateway = gateway.begun w.gateway old call;
  agent = λ c. if c == call then Some (begun script call before) else if c == old then None else w.agent c;
}

-- who holds a line after it held it before, or it was the old call's
handed_from : (old new : ℕ) (P : ℕ → Type 0) (o : Option ℕ) (c : ℕ) → handed_over old new o ≡ Some c
    → ((one : ℕ) → o ≡ Some one → one ≡ old → P new) → (o ≡ Some c → P c) → P c
handed_from old new P None c is first second = absurd (none_is_some c is)
handed_from old new P (Some one) c is first second = go (one == old) refl (the_some (if one == old then new else one) c is)
  where
    go : (test : Bool) → (one == old) ≡ test → (if test then new else one) ≡ c → P c
    go true e same = subst P same (first one refl (eqb-true one old e))
    go false e same = second (ap (λ (n : ℕ). Some n) same)

module _ (script : Script) (s : Scope) (w m : World) (contained : IsContained script s w) (along : IsBeside s w m) (merge : IsMerge m)
    (call : ℕ) (own : s.numbers call ≡ true) (old : ℕ) (before : Agent) (was_open : w.agent old ≡ Some before) where
  own_old : s.numbers old ≡ true
  own_old = (contained.agents old before was_open).0

  begun_holder : (l c : ℕ) → handed_over old call (w.gateway.holder l) ≡ Some c → (s.lines l ≡ true) × (s.numbers c ≡ true)
  begun_holder l c is = handed_from old call (λ n. (s.lines l ≡ true) × (s.numbers n ≡ true)) (w.gateway.holder l) c is
      (λ one held ended. ((contained.holder l one held).0, own)) (λ held. contained.holder l c held)

  begun_link : (c : ℕ) (answer : Reply) → ((begun_world script w call old before).gateway.link c).last ≡ Some answer → IsReplyWithin s answer
  begun_link c answer = go (c == old) (c == call)
    where
      go : (first second : Bool) → (if first then nothing_kept else if second then nothing_kept else w.gateway.link c).last ≡ Some answer
          → IsReplyWithin s answer
      go false false is = contained.link c answer is
      go _ _ is = absurd (none_is_some answer is)

  begun_agents : (c : ℕ) (b : Agent) → (begun_world script w call old before).agent c ≡ Some b → (s.numbers c ≡ true) × IsAgentWithin script s b
  begun_agents c b = go (c == call) (c == old) refl
    where
      go : (first second : Bool) → (c == call) ≡ first → (if first then Some (begun script call before) else if second then None else w.agent c) ≡ Some b
          → (s.numbers c ≡ true) × IsAgentWithin script s b
      go true second e is = (
        ap s.numbers (eqb-true c call e) ∙ own,
        subst (IsAgentWithin script s) (the_some (begun script call before) b is)
            (begun_within script s call before (contained.agents old before was_open).1),
      )
      go false true e is = absurd (none_is_some b is)
      go false false e is = contained.agents c b is

  begun_own_holder : (l c : ℕ) → handed_over old call (m.gateway.holder l) ≡ Some c → s.numbers c ≡ true → s.lines l ≡ true
  begun_own_holder l c is its = handed_from old call (λ n. s.numbers n ≡ true → s.lines l ≡ true) (m.gateway.holder l) c is
      (λ one held ended ignored. along.own_holder l one held (ap s.numbers ended ∙ own_old)) (λ held. along.own_holder l c held) its

  others_hold : (l : ℕ) → s.lines l ≡ false → handed_over old call (m.gateway.holder l) ≡ m.gateway.holder l
  others_hold l other = go (m.gateway.holder l) refl
    where
      go : (o : Option ℕ) → m.gateway.holder l ≡ o → handed_over old call o ≡ o
      go None e = refl
      go (Some one) e = ap (λ (n : ℕ). Some n) (where_false (one == old) call one
          (different one old (λ is. not_both (along.own_holder l one e (ap s.numbers is ∙ own_old)) other)))

  begun_follows : Follows script s (begun_world script w call old before) m (λ after. after ≡ begun_world script m call old before)
  begun_follows = record {
    merged = begun_world script m call old before;
    happens = refl;
    contained = assumption (begun_holder, begun_link, begun_agents);
    along = assumption (
      λ (l : ℕ) (its : s.lines l ≡ true). ap (handed_over old call) (along.holder l its),
      λ (c : ℕ) (its : s.numbers c ≡ true).
          ap (λ (x : CallLink). if c == old then nothing_kept else if c == call then nothing_kept else x) (along.link c its),
      λ (c : ℕ) (its : s.numbers c ≡ true). ap (λ (x : Bool). if c == old then true else x) (along.retired c its),
      λ (c : ℕ) (its : s.numbers c ≡ true).
          ap (λ (x : Option Agent). if c == call then Some (begun script call before) else if c == old then None else x) (along.agent c its),
      begun_own_holder,
    );
    merge = assumption;
    others = assumption (
      same_outside s m.gateway.board,
      others_hold,
      λ (c : ℕ) (other : s.numbers c ≡ false).
          at_another old c nothing_kept (if c == call then nothing_kept else m.gateway.link c) (another_number s old c own_old other)
          ∙ at_another call c nothing_kept (m.gateway.link c) (another_number s call c own other),
      λ (c : ℕ) (other : s.numbers c ≡ false). at_another old c true (m.gateway.retired c) (another_number s old c own_old other),
      λ (c : ℕ) (other : s.numbers c ≡ false).
          at_another call c (Some (begun script call before)) (if c == old then None else m.agent c) (another_number s call c own other)
          ∙ at_another old c None (m.agent c) (another_number s old c own_old other),
    );
  }

module _ (script : Script) (s : Scope) (w m : World) (contained : IsContained script s w) (along : IsBeside s w m) (merge : IsMerge m)
    (call : ℕ) (own : s.numbers call ≡ true) where
  pub begin_follows : (old : ℕ) (after : World) → Begins script w call old after → Follows script s after m (Begins script m call old)
  begin_follows old after x =
      let its : s.numbers old ≡ true = (contained.agents old x.before x.open_call).0 in
      let line : (l : ℕ) → m.gateway.holder l ≡ Some old → s.lines l ≡ true = λ l held. along.own_holder l old held its in
      let held : (l : ℕ) (is : m.gateway.holder l ≡ Some old) → w.gateway.holder l ≡ Some old = λ l is. sym (along.holder l (line l is)) ∙ is in
      follows_so x.after_is (λ merged is. record {
        before = x.before;
        open_call = along.agent old its ∙ x.open_call;
        ended = record { is_end = x.ended.is_end; at_rest = x.ended.at_rest; current = x.ended.current ∙ sym along.association };
        may = record {
          rows = λ l is. along.board.row (Line (record { 0 = l })) (line l is) ∙ x.may.rows l (held l is);
          playing = λ l is. ap (λ (r : LineRow). r.playing) (along.line l (line l is)) ∙ x.may.playing l (held l is);
          list = λ l is. ap (λ (r : LineRow). r.list) (along.line l (line l is)) ∙ x.may.list l (held l is);
          no_ephemeral = λ k is. let class : s.class k ≡ true = along.own_creator k old is its in
              x.may.no_ephemeral k (sym (along.creator k class) ∙ is);
        };
        unused = along.agent call own ∙ x.unused;
        not_retired = along.retired call own ∙ x.not_retired;
        after_is = is;
      }) (begun_follows script s w m contained along merge call own old x.before x.open_call)
