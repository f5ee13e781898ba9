-- Openings are good, and in a good world calls stay apart.
use Rattle.mg_safety.proofs.Words.{◌≡◌, ◌∙◌, ℕ, Bool, List, [], ◌∷◌, Option, Some, None, is_some, refl, sym, ap, arith, inl, inr, common_steps, ◌==◌, ◌&&◌, not}
use Rattle.mg_safety.proofs.Words.{IsTrue, unwrap_or, TermId, Line, Eph, Row, Agent, opened, Board, same_term, place_of, place_in, mode_of, receives, sends}
use Rattle.mg_safety.proofs.Words.{LineRow, hops, crosses, goes_over, AreJoined, Script, World, Opened, IsOpening, IsReleased, null_row, the_some, three_parts}
use Rattle.mg_safety.proofs.Words.{line_armed, line_stands}
use Rattle.mg_safety.specs.Laws.{OpeningsAreGood, CallsStayApart, LostCallsAreNotJoined}

-- ---- nothing is joined where all stands in the null context

no_hop : (b : Board) → ((t : TermId) → place_of b t ≡ 0) → (t u : TermId) → IsTrue (hops b t u) → ⊥
no_hop b all t u h = at_null (place_of b t) (place_of b u) (same_term t u) (receives (mode_of b t)) (sends (mode_of b u)) (b.cut t u) (all t) h
  where
    at_null : (p q : ℕ) (same inward outward cut : Bool) → p ≡ 0
        → IsTrue (not same && (not (p == 0) && p == q) && inward && outward && not cut) → ⊥
    at_null p q same inward outward cut e h = grind (arith, common_steps)

no_path : (b : Board) → ((t : TermId) → place_of b t ≡ 0) → (from to : TermId) (crossings : List (ℕ × ℕ)) → IsTrue (goes_over b from crossings to) → ⊥
no_path b all from to [] h = no_hop b all from to h
no_path b all from to (crossing ∷ more) h =
    no_hop b all from (Eph crossing.0) (three_parts (hops b from (Eph crossing.0)) (crosses b crossing.0 crossing.1) (goes_over b (Eph crossing.1) more to) h).0

-- ---- openings

module _ (script : Script) (calls : List Opened) (w : World) (o : IsOpening script calls w) where
  in_null_row : (row : Option Row) → ((r : Row) → row ≡ Some r → r ≡ null_row) → place_in row ≡ 0
  in_null_row None all = refl
  in_null_row (Some r) all = ap (λ (row : Row). row.place.0) (all r refl)

  pub all_in_null : (t : TermId) → place_of w.gateway.board t ≡ 0
  all_in_null (Line l) = in_null_row (w.gateway.board.row (Line l)) (o.lines.others_null l.0)
  all_in_null (Eph k) = ap place_in (o.gateway.no_ephemeral k)

  none_joined : (l m : ℕ) → AreJoined w.gateway.board l m → ⊥
  none_joined l m (inl path) = no_path w.gateway.board all_in_null (Line (record { 0 = l })) (Line (record { 0 = m })) path.crossings path.goes
  none_joined l m (inr path) = no_path w.gateway.board all_in_null (Line (record { 0 = m })) (Line (record { 0 = l })) path.crossings path.goes

  released : (call : ℕ) (a : Agent) → w.agent call ≡ Some a → IsReleased script w call a
  released call a there =
      let one = o.agents.no_other call a there in
      let known : w.agent call ≡ Some (opened script one.0.call one.0.lines) = ap w.agent (sym one.2) ∙ o.agents.opened one.0 one.1 in
      let same : a ≡ opened script one.0.call one.0.lines = ap (λ (x : Option Agent). unwrap_or x a) (sym there ∙ known) in
      let lines : (i : ℕ) → a.lines i ≡ one.0.lines i = λ i. ap (λ (x : Agent). x.lines i) same in
      record {
        no_ephemeral = λ k of. ap is_some (o.gateway.no_ephemeral k);
        in_null = λ i within. (
          null_row,
          ap (λ l. w.gateway.board.row (Line (record { 0 = l }))) (lines i) ∙ line_stands script calls w.gateway o.lines one.0 one.1 i within,
          refl,
        );
        is_silent = λ i within. ap (λ l. (w.gateway.line l).playing) (lines i)
            ∙ ap (λ (r : LineRow). r.playing) (line_armed script calls w.gateway o.lines one.0 one.1 i within);
        is_armed = λ i within. ap (λ l. (w.gateway.line l).list) (lines i)
            ∙ ap (λ (r : LineRow). r.list) (line_armed script calls w.gateway o.lines one.0 one.1 i within);
      }

pub openings_good : OpeningsAreGood
openings_good script calls w o = record {
  joined = λ l m joined. absurd (none_joined script calls w o l m joined);
  ended = λ call a there ended. released script calls w o call a there;
}

-- ---- good worlds

pub calls_apart : CallsStayApart
calls_apart script w good apart call other a b i j there where_other first second differ joined =
    let pair = good.joined (a.lines i) (b.lines j) joined in
    let mine = apart pair.call call pair.agent a pair.i i pair.open_call there pair.first.0 first pair.first.1 in
    let theirs = apart pair.call other pair.agent b pair.j j pair.open_call where_other pair.second.0 second pair.second.1 in
    differ (sym mine ∙ theirs)

-- the one call that has the line is of the gateway's association
pub lost_are_not_joined : LostCallsAreNotJoined
lost_are_not_joined script w good apart call a i m there lost within joined =
    let pair = good.joined (a.lines i) m joined in
    let mine : pair.call ≡ call = apart pair.call call pair.agent a pair.i i pair.open_call there pair.first.0 within pair.first.1 in
    let same : pair.agent ≡ a = the_some pair.agent a (sym pair.open_call ∙ ap w.agent mine ∙ there) in
    let now : a.association ≡ w.gateway.association = ap (λ (b : Agent). b.association) (sym same) ∙ pair.current in
    omega (arith, lost, now)
