-- A command that is executed in the one world can be executed in the other, where identifiers are left there: some are chosen.
use Rattle.std.proofs.Common.{◌≡◌, ◌∙◌, ℕ, suc, Bool, true, refl, sym, subst, ◌&&◌, Contains}
use Rattle.mg_merge.proofs.Words.{Board, Chosen, Done, Eph, IsFresh, IsResult, Item, Line, Running, creates_context, creates_ephemeral, exists, only_if}
use Rattle.mg_merge.proofs.Words.{subtracts, the_line}
use Rattle.mg_alike.proofs.Words.{Renaming}
use Rattle.mg_merge.proofs.Commands.IdentifiersLeft.{Remain, one_of_them}
use Rattle.mg_alike.proofs.Commands.Results.{told_same, told_onward, told_back}
use Rattle.mg_alike.proofs.Commands.Twins.{Twin, one_of, other_of, IsTwin}
use Rattle.mg_alike.proofs.Requests.OneCommand.{RunningAlike}
use Rattle.mg_alike.proofs.Shared.Images.{IsListed, image}

module _ (r : Renaming) (held : ℕ → Bool) (x y : Running) (alike : RunningAlike r held x y) (twin : Twin) (is : IsTwin r held twin) where
  -- the ephemerals that leave in the other world
  leaving : (one : Chosen) (done : Done) → IsResult x.board (one_of twin) one done
      → IsListed (λ n. (k : ℕ) × Contains done.ephemerals k × (r.ephemerals k n ≡ true))
  leaving one done result = image r.ephemerals done.ephemerals
      (λ k there. let it = told_onward r held alike.renaming x.board y.board alike.boards alike.ready twin is k ((result.ephemerals.exactly k).0 there) in (it.0, it.1))
      alike.renaming.ephemerals.onward

  pub told : (one other : Chosen) (done : Done) → IsResult x.board (one_of twin) one done → Done
  told one other done result = record {
    context = only_if (creates_context (other_of twin)) other.context;
    ephemeral = only_if (creates_ephemeral (other_of twin)) other.ephemeral;
    lines = done.lines;
    ephemerals = (leaving one done result).numbers;
  }

  pub result_there : (one other : Chosen) (done : Done) (result : IsResult x.board (one_of twin) one done)
      → IsResult y.board (other_of twin) other (told one other done result)
  unfolding told
  result_there one other done result = record {
    context = refl;
    ephemeral = refl;
    lines = record {
      rising = result.lines.rising;
      exactly = λ n. (
        λ there. same n ∙ (result.lines.exactly n).0 there,
        λ leaves. (result.lines.exactly n).1 (sym (same n) ∙ leaves),
      );
    };
    ephemerals = record {
      rising = (leaving one done result).rising;
      exactly = λ n. (
        λ there.
            let k = ((leaving one done result).exactly n).0 there in
            let it = told_onward r held alike.renaming x.board y.board alike.boards alike.ready twin is k.0 ((result.ephemerals.exactly k.0).0 k.1) in
            subst (λ (i : ℕ). (subtracts y.board (other_of twin) (Eph i) && exists y.board (Eph i)) ≡ true) (alike.renaming.ephemerals.onward k.0 it.0 n it.1 k.2) it.2,
        λ leaves.
            let k = told_back r held alike.renaming x.board y.board alike.boards alike.ready twin is n leaves in
            ((leaving one done result).exactly n).1 (k.0, (result.ephemerals.exactly k.0).1 k.2, k.1),
      );
    };
  }
    where
      same : (n : ℕ) → (subtracts y.board (other_of twin) (Line (the_line n)) && exists y.board (Line (the_line n)))
          ≡ (subtracts x.board (one_of twin) (Line (the_line n)) && exists x.board (Line (the_line n)))
      same n = told_same r held alike.renaming x.board y.board alike.boards alike.ready twin is (the_line n)

-- identifiers that are left may be chosen
pub choice : (b : Board) (wanted : ℕ) → Remain b (suc wanted) → (item : Item) → (chosen : Chosen) × IsFresh b item chosen
choice b wanted remain item =
    let c = one_of_them _ wanted remain.contexts in
    let k = one_of_them _ wanted remain.ephemerals in (
      record { context = c.0; ephemeral = k.0 },
      record {
        context = λ creates. (c.1.0, c.1.1.1, c.1.1.0);
        ephemeral = λ creates. (k.1.0, k.1.1.1, k.1.1.0);
      },
    )
