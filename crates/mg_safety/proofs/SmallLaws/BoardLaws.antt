-- What a command leaves alone, and where a path stays.
use Rattle.mg_safety.proofs.Words.{◌≡◌, ◌∙◌, ℕ, Bool, false, [], ◌∷◌, refl, ap, arith, ◌==◌, ◌&&◌, not, IsTrue, common_steps, TermId, Line, Eph, Add, Modify}
use Rattle.mg_safety.proofs.Words.{Move, Board, same_term, place_of, mode_of, without_cuts, share_context, hops, crosses, goes_over, receives, sends}
use Rattle.mg_safety.proofs.Words.{three_parts, same_term_is, false_from_ne_true, not_both, different, same_term_turned}
use Rattle.mg_model.specs.declared.items.Added.TheVariants as added
use Rattle.mg_model.specs.declared.items.Item.TheVariants.{Subtract, SubtractAll, SetTopology}
use Rattle.mg_safety.specs.Laws.{CommandsKeepOthers, AreClosed, PathsStayInside}

-- another termination than one of these
differs : (mine : TermId → Bool) (t u : TermId) → IsTrue (mine t) → mine u ≡ false → same_term u t ≡ false
differs mine t u among other = false_from_ne_true (same_term u t) (λ e. not_both (ap mine (same_term_is u t e) ∙ among) other)

differs_back : (mine : TermId → Bool) (t u : TermId) → IsTrue (mine t) → mine u ≡ false → same_term t u ≡ false
differs_back mine t u among other = same_term_turned t u ∙ differs mine t u among other

cut_kept : (cut : TermId → TermId → Bool) (leaves : TermId → Bool) (u v : TermId) → leaves u ≡ false → leaves v ≡ false
    → without_cuts leaves cut u v ≡ cut u v
cut_kept cut leaves u v first second = rw (first, second) refl

-- who doesn't stand in a context whose terminations are all among these
elsewhere : (mine : TermId → Bool) (b : Board) (c : ℕ) → ((t : TermId) → place_of b t ≡ c → IsTrue (mine t)) → (u : TermId) → mine u ≡ false
    → (place_of b u == c) ≡ false
elsewhere mine b c all u other = different (place_of b u) c (λ e. not_both (all u e) other)

pub commands_keep : CommandsKeepOthers
commands_keep mine b (Add context (added.Line l) settings) chosen among = record {
  rows = λ u other. rw (differs mine (Line l) u among other) refl;
  cuts = λ u v first second. refl;
}
commands_keep mine b (Add context added.NewEphemeral settings) chosen among = record {
  rows = λ u other. rw (differs mine (Eph chosen.ephemeral) u among other) refl;
  cuts = λ u v first second. cut_kept b.cut (same_term (Eph chosen.ephemeral)) u v
      (differs_back mine (Eph chosen.ephemeral) u among first) (differs_back mine (Eph chosen.ephemeral) v among second);
}
commands_keep mine b (Modify context t settings) chosen among = record {
  rows = λ u other. rw (differs mine t u among other) refl;
  cuts = λ u v first second. refl;
}
commands_keep mine b (Move context t settings) chosen among = record {
  rows = λ u other. rw (differs mine t u among other) refl;
  cuts = λ u v first second. cut_kept b.cut (same_term t) u v (differs_back mine t u among first) (differs_back mine t v among second);
}
commands_keep mine b (Subtract context t) chosen among = record {
  rows = λ u other. rw (differs mine t u among other) refl;
  cuts = λ u v first second. rw (differs mine t u among first, differs mine t v among second) refl;
}
commands_keep mine b (SubtractAll context) chosen among = record {
  rows = λ u other. rw (elsewhere mine b context.0 among u other) refl;
  cuts = λ u v first second. rw (elsewhere mine b context.0 among u first, elsewhere mine b context.0 among v second) refl;
}
commands_keep mine b (SetTopology context t u topology) chosen among = record {
  rows = λ x other. refl;
  cuts = λ x y first second. rw (differs mine t x among.0 first, differs mine u x among.1 first) refl;
}

-- ---- paths

shares : (same shared inward outward cut : Bool) → IsTrue (not same && shared && inward && outward && not cut) → IsTrue shared
shares same shared inward outward cut h = grind (arith, common_steps)

hop_inside : (b : Board) (mine : TermId → Bool) → AreClosed b mine → (t u : TermId) → IsTrue (hops b t u) → IsTrue (mine t) → IsTrue (mine u)
hop_inside b mine closed t u h inside =
    closed.contexts t u inside (shares (same_term t u) (share_context b t u) (receives (mode_of b t)) (sends (mode_of b u)) (b.cut t u) h)

pub paths_inside : PathsStayInside
paths_inside b mine closed from to [] h inside = hop_inside b mine closed from to h inside
paths_inside b mine closed from to (crossing ∷ more) h inside =
    let p = three_parts (hops b from (Eph crossing.0)) (crosses b crossing.0 crossing.1) (goes_over b (Eph crossing.1) more to) h in
    paths_inside b mine closed (Eph crossing.1) to more p.2
    (closed.crossings crossing.0 crossing.1 (hop_inside b mine closed from (Eph crossing.0) p.0 inside) p.1)
