-- Openings are sound: every call stands in the opening configuration, which the certificate has, and nothing was sent.
use Rattle.mg_safety.proofs.Invariant.Sound.{Listed}
use Rattle.mg_safety.proofs.Words.{◌≡◌, ◌∙◌, ℕ, Bool, true, false, List, length, Option, Some, None, is_some, refl, sym, ap, subst, arith, true≢false, ◌<◌, inl}
use Rattle.mg_safety.proofs.Words.{inr, Contains, if◌then◌else◌, nat_lt, unwrap_or, eq-eqb, TermId, Line, Row, Agent, opened, list_of, CallLink}
use Rattle.mg_safety.proofs.Words.{last_executed, number_of, LineRow, Reply, Script, opening, World, Opened, IsOpening, armed_line, none_is_some, line_armed, lt-ltb}
use Rattle.mg_safety.proofs.Words.{line_held, line_stands, nothing_in}
use Rattle.mg_safety.proofs.InvariantWords.{LinesShown, IsReached, IsCurrent, CallIsSound, GatewayIsSound, is_call, owned_in, IsClosed, OpeningsAreSound}
use Rattle.mg_safety.proofs.Agents.Entering.{not_resting}
use Rattle.mg_safety.proofs.SmallLaws.OpeningLaws.{all_in_null}
use Rattle.mg_safety.proofs.Invariant.OpeningShown.{AreCleared, events_armed, opening_shown}

module _ (script : Script) (Among : Listed) (closed : IsClosed script Among) (calls : List Opened) (w : World) (o : IsOpening script calls w) where
  -- ---- one call

  module _ (one : Opened) (there : Contains calls one) where
    cleared : AreCleared script (owned_in w.gateway one.call) w.gateway.board one.lines
    cleared = record {
      rows = λ i within. line_stands script calls w.gateway o.lines one there i within;
      no_cut = λ i j first second. ap (λ (is_cut : TermId → TermId → Bool). is_cut (Line (record { 0 = one.lines i })) (Line (record { 0 = one.lines j })))
          o.gateway.nothing_cut;
      own = λ i within. ap (λ h. is_call h one.call) (line_held script calls w.gateway o.lines one there i within) ∙ eq-eqb one.call one.call refl;
      once = λ i j first second e. (o.distinct.lines_differ one one there there i j first second e).1;
      no_ephemeral = λ x is standing. true≢false (sym standing ∙ ap is_some (o.gateway.no_ephemeral x));
    }

    armed : (i : ℕ) → i < length script.lines → w.gateway.line (one.lines i) ≡ armed_line
    armed i within = line_armed script calls w.gateway o.lines one there i within

    expects_number : (n : ℕ) (test : Bool) → test ≡ true → Some n ≡ (if test then Some n else None)
    expects_number n true e = refl
    expects_number n false e = absurd (true≢false (sym e))

    lines_shown : LinesShown script (opened script one.call one.lines) w.gateway.line (opening script)
    lines_shown = record {
      events = λ i within. ap (λ (row : LineRow). row.list) (armed i within) ∙ sym (ap (list_of script) (events_armed script i within));
      silent = λ i within still. ap (λ (row : LineRow). row.playing) (armed i within);
      expected = λ i within. ap (λ (row : LineRow). row.request) (armed i within)
          ∙ expects_number 0 (nat_lt i (length script.lines)) (lt-ltb i (length script.lines) within);
      unnamed = λ i within none. absurd (none_is_some 0 (sym none ∙ ap (λ (row : LineRow). row.request) (armed i within)));
    }

    none_executed : (call : ℕ) → last_executed w.gateway call ≡ 0
    none_executed call = ap (λ (link : ℕ → CallLink). number_of (link call).last) o.gateway.no_reply_kept

    current : IsCurrent script Among w.gateway (opened script one.call one.lines)
    current = record {
      association = sym o.gateway.association;
      c = opening script;
      e = opened script one.call one.lines;
      stands = closed.opening;
      state = refl;
      at = inr (inr (inr (record { phase = refl; effective = refl; link_is = refl })));
      shown = opening_shown script (owned_in w.gateway one.call) w.gateway.board one.lines cleared;
      lines_shown = lines_shown;
    }

    one_sound : CallIsSound script Among w one.call (opened script one.call one.lines)
    one_sound =
        let none = none_executed one.call in
        record {
          numbered = refl;
          first = omega (arith);
          next = omega (arith, none);
          held = λ i within. line_held script calls w.gateway o.lines one there i within;
          once = λ i j first second e. (o.distinct.lines_differ one one there there i j first second e).1;
          requests = λ request among of. absurd (nothing_in request w.requests o.messages.no_request among);
          outstanding = λ request awaiting. absurd (not_resting request awaiting);
          part = inl current;
        }

  -- ---- the gateway

  none_created : (x call : ℕ) → w.gateway.creator x ≡ Some call → ⊥
  none_created x call e = none_is_some call (sym (ap (λ (creator : ℕ → Option ℕ). creator x) o.gateway.no_creator) ∙ e)

  none_kept : (call : ℕ) (answer : Reply) → (w.gateway.link call).last ≡ Some answer → ⊥
  none_kept call answer e = none_is_some answer (sym (ap (λ (link : ℕ → CallLink). (link call).last) o.gateway.no_reply_kept) ∙ e)

  held : (l call : ℕ) → w.gateway.holder l ≡ Some call
      → (a : Agent) × (i : ℕ) × (w.agent call ≡ Some a) × (i < length script.lines) × (a.lines i ≡ l)
  held l call e =
      let own = (o.lines.held l call).0 e in
      (opened script own.one.call own.one.lines, own.i, ap w.agent (sym own.is_call) ∙ o.agents.opened own.one own.among, own.within, own.is_line)

  request_ids : (l call q : ℕ) → w.gateway.holder l ≡ Some call → (w.gateway.line l).request ≡ Some q → IsReached (λ (one : ℕ). 0) w.gateway call q
  request_ids l call q e stands =
      let is_armed : w.gateway.line l ≡ armed_line = o.lines.armed l call e in
      let zero_is : q ≡ 0 = ap (λ (x : Option ℕ). unwrap_or x 0) (sym stands ∙ ap (λ (row : LineRow). row.request) is_armed) in
      inl (omega (arith, zero_is))

  gateway_sound : GatewayIsSound script (λ (one : ℕ). 0) w
  gateway_sound = record {
    accounted = record {
      ephemerals = λ x standing. absurd (true≢false (sym standing ∙ ap is_some (o.gateway.no_ephemeral x)));
      contexts = λ t elsewhere. absurd (elsewhere (all_in_null script calls w o t));
    };
    creator_stands = λ x call e. absurd (none_created x call e);
    apart = λ x y one other e. absurd (none_created x one e);
    created = λ x standing. absurd (true≢false (sym standing ∙ ap is_some (o.gateway.no_ephemeral x)));
    unheld = λ l row free stands. ap (λ (r : Row). r.place.0) (o.lines.others_null l row stands);
    held = held;
    kept = λ call answer e. absurd (none_kept call answer e);
    request_ids = request_ids;
    retired = λ call a there. ap (λ (retired : ℕ → Bool). retired call) o.gateway.none_retired;
    requests = λ request among. absurd (nothing_in request w.requests o.messages.no_request among);
    replies = λ answer among. absurd (nothing_in answer w.replies o.messages.no_answer among);
    notes = λ sent among. absurd (nothing_in sent w.notes o.messages.no_note among);
  }

  call_sound : (call : ℕ) (a : Agent) → w.agent call ≡ Some a → CallIsSound script Among w call a
  call_sound call a there =
      let one = o.agents.no_other call a there in
      let known : w.agent call ≡ Some (opened script one.0.call one.0.lines) = ap w.agent (sym one.2) ∙ o.agents.opened one.0 one.1 in
      let same : opened script one.0.call one.0.lines ≡ a = ap (λ (x : Option Agent). unwrap_or x a) (sym known ∙ there) in
      subst (λ (x : Agent). CallIsSound script Among w call x) same
      (subst (λ (n : ℕ). CallIsSound script Among w n (opened script one.0.call one.0.lines)) one.2 (one_sound one.0 one.1))

pub openings_sound : OpeningsAreSound
openings_sound script Among is_script closed calls w o = record {
  floor = λ one. 0;
  gateway = gateway_sound script Among closed calls w o;
  floors = λ call a there. record {
    next = (call_sound script Among closed calls w o call a there).first;
    requests = λ request among of. absurd (nothing_in request w.requests o.messages.no_request among);
  };
  calls = call_sound script Among closed calls w o;
}
