-- A call whose user dialled too little stands still: where the note of the pause was taken, nothing is collected any more and nothing tells of a number.
use Rattle.std.proofs.Common.{◌≡◌, ◌∙◌, ◌==◌, ℕ, false, [], ◌∷◌, Option, Some, None, refl, sym, subst, arith, inl, inr}
use Rattle.mg_model.specs.declared.transitions.EventItem.TheVariants.{Digits}
use Rattle.mg_model.specs.LineEvents.{armed}
use Rattle.mg_model.proofs.Cases.{by_test, same_turned, where_false}
use Rattle.mg_model.proofs.Single.{only_one}
use Rattle.mg_examples.specs.DigitsAreNotEnough.{DigitsAreNotEnough, RestsIn}
use Rattle.mg_examples.specs.Dials.{dials, eleven}
use Rattle.mg_examples.specs.Talk.{call, off_hook}
use Rattle.mg_examples.proofs.Words.{Opened, SentNote, World}
use Rattle.mg_examples.proofs.DialEntries.{accepted, listed, none_broken}
use Rattle.mg_examples.proofs.DialRun.{asked, collects, pauses, run, still, told_part, w0, w1, w3, w5, w7}
use Rattle.mg_examples.proofs.Finding.{of_both}
use Rattle.mg_examples.proofs.QuietLines.{IsQuiet, IsOther}
use Rattle.mg_examples.proofs.StandsStill.{StandsStill, stands, waits}
use Rattle.mg_examples.proofs.TwoLinesOpening.{line_if, off, one_call, opens, user_of}

-- a line that opens has no digit map
opened_quiet : (user : Option Opened) → IsQuiet (line_if user)
opened_quiet None = inl refl
opened_quiet (Some one) = inl refl

-- each line but line 1 is as it opened, and the map of line 1 is completed
as_opened : (l : ℕ) → (l == 1) ≡ false → w5.gateway.line l ≡ line_if (user_of (call ∷ []) l)
as_opened l other =
    where_false (l == 1) collects.row (w3.gateway.line l) other
    ∙ where_false (1 == l) (armed (w1.gateway.line l) (Digits eleven ∷ []) 1).row (w1.gateway.line l) (same_turned 1 l ∙ other)
    ∙ where_false (l == 1) off (w0.gateway.line l) other

each_quiet : (l : ℕ) → IsQuiet (w7.gateway.line l)
each_quiet l =
    by_test IsQuiet pauses.row (w5.gateway.line l) (l == 1) (λ is. inr refl)
    (λ other. subst IsQuiet (sym (as_opened l other)) (opened_quiet (user_of (call ∷ []) l)))

stands_still : StandsStill w7
stands_still = record {
  accepted = still.accepted;
  agent = refl;
  gateway = record { association = refl; last = refl; quiet = each_quiet };
  requests = λ request among. only_one asked request among;
  notes = λ sent among. of_both (λ (n : SentNote). IsOther n.note.kind) told_part (off_hook call) sent refl refl among;
}

rests : (w : World) → StandsStill w → RestsIn w 7 1
rests w s = record { agent = waits s.accepted; open_call = s.agent; in_state = refl; rests = refl }

pub digits_needed : DigitsAreNotEnough
digits_needed = record {
  accepted = accepted;
  listed = listed;
  none_broken = none_broken;
  opening = w0;
  end = w7;
  opens = opens dials refl (call ∷ []) (one_call dials refl);
  runs = run;
  waits = record { agent = still; open_call = refl; in_state = refl; rests = refl };
  no_end = refl;
  current = refl;
  list = refl;
  leads = refl;
  next = omega (arith);
  notes = omega (arith);
  stands_still = λ events later own runs. rests later (stands events w7 later stands_still own runs);
}
