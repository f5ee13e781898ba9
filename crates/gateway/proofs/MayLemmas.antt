-- A call may begin on the lines of another exactly where each of these lines is ready and no ephemeral stands that the other created.
use Rattle.std.proofs.Common.{◌≡◌, ◌∙◌, ℕ, ◌==◌, ◌&&◌, ◌||◌, Bool, true, false, not, if◌then◌else◌, List, [], ◌∷◌, Option, Some, None, is_some, refl, sym, ap, subst, rules, true≢false}
use Rattle.std.specs.List.{list_any, list_all}
use Rattle.std.proofs.lemmas.Bool.{eqb-true, and_parts, not-true}
use Rattle.mg_names.specs.declared.identifiers.LineNo.{LineNo}
use Rattle.mg_names.specs.declared.identifiers.TermId.TheVariants.{Line, Eph}
use Rattle.mg_names.specs.declared.modes.Mode.{Mode}
use Rattle.mg_names.specs.declared.modes.Mode.TheVariants.{Inactive, SendOnly, ReceiveOnly, SendReceive}
use Rattle.mg_names.specs.declared.strictness.Strict.TheVariants.{Exact, State}
use Rattle.mg_model.specs.declared.line_events.SignalSet.{SignalSet}
use Rattle.mg_model.specs.declared.rows.Row.{Row}
use Rattle.mg_model.specs.declared.transitions.EventItem.TheVariants.{OnHook, OffHook, Flash, Digits}
use Rattle.mg_model.specs.Board.{null_row, exists}
use Rattle.mg_model.specs.Gateway.{MayBegin}
use Rattle.mg_model.specs.LineEvents.{ListItem, silent}
use Rattle.mg_model.proofs.Cases.{same_itself}
use Rattle.contexts.specs.BoardValue.{names_line}
use Rattle.requests.specs.Connected.{board_in, line_in}
use Rattle.gateway.specs.Beginnings.{is_inactive, is_null, is_silent, is_exactly_off, is_ready, is_created_by, is_at_rest}
use Rattle.gateway.specs.Calls.{OpenCall, call_entry, call_in, open_entry}
use Rattle.mg_model.specs.Members.{is_among}
use Rattle.gateway.specs.Creators.{creator_at, creator_on}
use Rattle.gateway.specs.GatewayValue.{GatewayValue, AreTied, IsCreatedBy, is_held_by, has_line_among, holder_in, gateway_of}
use Rattle.gateway.proofs.StartLemmas.{all_among}
use Rattle.gateway.proofs.TieLemmas.{Entry}

-- ---- a line that is ready

inactive : (mode : Mode) → is_inactive mode ≡ true → mode ≡ Inactive
inactive Inactive e = refl
inactive SendOnly e = absurd (search rules)
inactive ReceiveOnly e = absurd (search rules)
inactive SendReceive e = absurd (search rules)

no_remote : (remote : Option ℕ) → not (is_some remote) ≡ true → remote ≡ None
no_remote None e = refl
no_remote (Some k) e = absurd (search rules)

null_is : (row : Option Row) → is_null row ≡ true → row ≡ Some null_row
null_is None e = absurd (search rules)
null_is (Some row) e =
    let first = and_parts (row.place.0 == 0) (is_inactive row.mode && not (is_some row.remote)) e in
    let rest = and_parts (is_inactive row.mode) (not (is_some row.remote)) first.1 in
    λ i. Some (record { place = record { 0 = eqb-true row.place.0 0 first.0 i }; mode = inactive row.mode rest.0 i; remote = no_remote row.remote rest.1 i })

silent_is : (set : SignalSet) → is_silent set ≡ true → set ≡ silent
silent_is set e =
    let a = and_parts (not set.ring) _ e in
    let b = and_parts (not set.dial_tone) _ a.1 in
    let c = and_parts (not set.ringing_tone) _ b.1 in
    let d = and_parts (not set.busy_tone) (not set.congestion_tone) c.1 in
    λ i. record {
      ring = not-true set.ring a.0 i;
      dial_tone = not-true set.dial_tone b.0 i;
      ringing_tone = not-true set.ringing_tone c.0 i;
      busy_tone = not-true set.busy_tone d.0 i;
      congestion_tone = not-true set.congestion_tone d.1 i;
    }

exactly_is : (list : List ListItem) → is_exactly_off list ≡ true → list ≡ OffHook Exact ∷ []
exactly_is [] e = absurd (search rules)
exactly_is (OffHook Exact ∷ []) e = refl
exactly_is (OffHook State ∷ more) e = absurd (search rules)
exactly_is (OffHook Exact ∷ item ∷ more) e = absurd (search rules)
exactly_is (OnHook strict ∷ more) e = absurd (search rules)
exactly_is (Flash ∷ more) e = absurd (search rules)
exactly_is (Digits map ∷ more) e = absurd (search rules)

-- ---- tests on lists

all_from : (test : ℕ → Bool) (lines : List LineNo) → ((n : ℕ) → names_line lines n ≡ true → test n ≡ true) → list_all (λ (l : LineNo). test l.0) lines ≡ true
all_from test [] h = refl
all_from test (l ∷ lines) h = both (h l.0 (ap (λ (b : Bool). b || names_line lines l.0) (same_itself l.0))) (all_from test lines (λ n among. h n (second_true (n == l.0) (names_line lines n) among)))
  where
    both : {a b : Bool} → a ≡ true → b ≡ true → (a && b) ≡ true
    both {a} {b} x y = rw (x, y) refl

    second_true : (a b : Bool) → b ≡ true → (a || b) ≡ true
    second_true true b e = refl
    second_true false b e = e

any_among : (test : ℕ → Bool) (ks : List ℕ) (k : ℕ) → is_among ks k ≡ true → test k ≡ true → list_any test ks ≡ true
any_among test [] k among e = absurd (search rules)
any_among test (m ∷ ks) k among e = by_first (λ later. any_among test ks k later e) (k == m) refl
  where
    second_true : (a b : Bool) → b ≡ true → (a || b) ≡ true
    second_true true b e = refl
    second_true false b e = e

    by_first : (is_among ks k ≡ true → list_any test ks ≡ true) → (same : Bool) → (k == m) ≡ same → (test m || list_any test ks) ≡ true
    by_first more true is = ap (λ (b : Bool). b || list_any test ks) (ap test (sym (eqb-true k m is)) ∙ e)
    by_first more false is = second_true (test m) (list_any test ks) (more (sym (ap (λ (b : Bool). b || is_among ks k) is) ∙ among))

none_any : (test : ℕ → Bool) (ks : List ℕ) → ((k : ℕ) → test k ≡ false) → list_any test ks ≡ false
none_any test [] h = refl
none_any test (k ∷ ks) h = ap (λ (b : Bool). b || list_any test ks) (h k) ∙ none_any test ks h

-- ---- a call

open_is : (e : Entry) (c : OpenCall) → open_entry e ≡ Some c → e ≡ Some (Some c)
open_is None c e = cc
open_is (Some None) c e = cc
open_is (Some (Some d)) c e = ap Some e

held_is_some : (o : Option ℕ) (call : ℕ) → is_held_by o call ≡ true → o ≡ Some call
held_is_some None call e = absurd (search rules)
held_is_some (Some holder) call e = ap Some (eqb-true holder call e)

created_is : (o : Option ℕ) (call : ℕ) → is_created_by o call ≡ true → o ≡ Some call
created_is None call e = absurd (search rules)
created_is (Some creator) call e = ap Some (eqb-true creator call e)

noted_at : (there : Bool) (o : Option ℕ) (call : ℕ) → (if there then o else None) ≡ Some call → o ≡ Some call
noted_at true o call e = e
noted_at false o call e = cc

module _ (w : GatewayValue) (old : ℕ) (c : OpenCall) (tied : AreTied w) (found : call_in w.calls old ≡ Some c) where
  abbrev ready_number : ℕ → Bool
  ready_number n = is_ready (board_in w.connected) (line_in w.connected) (record { 0 = n })

  abbrev stands : ℕ → Bool
  stands k = is_created_by (creator_on (board_in w.connected) w.creators k) old

  of_call : (l : ℕ) → is_held_by (holder_in w l) old ≡ names_line c.lines l
  of_call l = tied.holders l old ∙ ap (λ (o : Option OpenCall). has_line_among o l) found

  named : (l : ℕ) → holder_in w l ≡ Some old → names_line c.lines l ≡ true
  named l held = sym (of_call l) ∙ ap (λ (o : Option ℕ). is_held_by o old) held ∙ same_itself old

  noted : (k : ℕ) → creator_on (board_in w.connected) w.creators k ≡ Some old → is_among c.created k ≡ true
  noted k e = subst (λ (x : Entry). IsCreatedBy x k) (open_is (call_entry w.calls old) c found)
      (tied.created k old (noted_at (exists (board_in w.connected) (Eph k)) (creator_at w.creators k) old e))

  pub may_begin : is_at_rest (board_in w.connected) (line_in w.connected) (gateway_of w).creator old c ≡ true → MayBegin (gateway_of w) old
  unfolding gateway_of
  may_begin rest =
      let parts = and_parts (list_all (is_ready (board_in w.connected) (line_in w.connected)) c.lines) (not (list_any stands c.created)) rest in
      let ready : (l : ℕ) → holder_in w l ≡ Some old → ready_number l ≡ true = λ l held. all_among ready_number c.lines l parts.0 (named l held) in
      let row : (l : ℕ) → holder_in w l ≡ Some old → (is_null ((board_in w.connected).row (Line (record { 0 = l }))) ≡ true)
      × ((is_silent (line_in w.connected l).playing && is_exactly_off (line_in w.connected l).list) ≡ true) = λ l held. and_parts _ _ (ready l held) in
      record {
        rows = λ l held. null_is _ (row l held).0;
        playing = λ l held. silent_is _ (and_parts _ _ (row l held).1).0;
        list = λ l held. exactly_is _ (and_parts _ _ (row l held).1).1;
        no_ephemeral = λ k made. true≢false (sym (any_among stands c.created k (noted k made) (ap (λ (o : Option ℕ). is_created_by o old) made ∙ same_itself old)) ∙ not-true _ parts.1);
      }

  ready_is : MayBegin (gateway_of w) old → (l : ℕ) → names_line c.lines l ≡ true → ready_number l ≡ true
  unfolding gateway_of
  ready_is may l among =
      let held : holder_in w l ≡ Some old = held_is_some (holder_in w l) old (of_call l ∙ among) in
      rw (may.rows l held, may.playing l held, may.list l held) refl

  none_stands : MayBegin (gateway_of w) old → (k : ℕ) → stands k ≡ false
  unfolding gateway_of
  none_stands may k = by_test (stands k) refl
    where
      by_test : (b : Bool) → stands k ≡ b → b ≡ false
      by_test false e = refl
      by_test true e = absurd (may.no_ephemeral k (created_is _ old e))

  pub may_not : is_at_rest (board_in w.connected) (line_in w.connected) (gateway_of w).creator old c ≡ false → MayBegin (gateway_of w) old → ⊥
  unfolding gateway_of
  may_not busy may =
      let rest : (list_all (λ (l : LineNo). ready_number l.0) c.lines && not (list_any stands c.created)) ≡ true =
      rw (all_from ready_number c.lines (ready_is may), none_any stands c.created (none_stands may)) refl in
      true≢false (sym rest ∙ busy)
