-- What is shown stays shown where the configuration changes in its state, its link, its contexts and its cuts alone, and the board in its cuts.
use Rattle.mg_safety.proofs.Words.{◌≡◌, ◌∙◌, ℕ, Bool, sym, TermId, Line, Eph, Termination, Board, ContextValue, Configuration, is_free, Script, IsSlot, not, ap}
use Rattle.mg_names.specs.declared.phases.LinkPhase.{LinkPhase}
use Rattle.mg_safety.proofs.InvariantWords.{Naming, Shown, Seen, cut_on, term_of}

module _ (script : Script) (owned also : TermId → Bool) (n : Naming) (b : Board) (c : Configuration) (same : (t : TermId) → also t ≡ owned t)
    (cut : TermId → TermId → Bool) (state : ℕ) (link : LinkPhase) (contexts : ℕ → ContextValue) (cuts : Termination → Termination → Bool)
    (free : (j : ℕ) → is_free (contexts j) ≡ is_free (c.context j))
    (cut_is : (t u : Termination) → IsSlot script t → IsSlot script u → cuts t u ≡ cut_on (record b { cut = cut }) (term_of n t) (term_of n u)) where
  pub shown_with : Shown script owned n b c
      → Shown script also n (record b { cut = cut }) (record c { state = state; link = link; context = contexts; cut = cuts })
  shown_with shown = record {
    stands = shown.stands;
    place = shown.place;
    in_bound = shown.in_bound;
    mode = shown.mode;
    remote = shown.remote;
    cut = cut_is;
    bound = λ j. shown.bound j ∙ ap not (sym (free j));
    line_stands = shown.line_stands;
    line_owned = λ i slot. same (Line (record { 0 = n.lines i })) ∙ shown.line_owned i slot;
    line_once = shown.line_once;
    context_real = shown.context_real;
    context_once = shown.context_once;
    members = shown.members;
    ephemeral_slot = shown.ephemeral_slot;
    ephemeral_stands = shown.ephemeral_stands;
    ephemeral_owned = λ k x bound. same (Eph x) ∙ shown.ephemeral_owned k x bound;
    ephemeral_once = shown.ephemeral_once;
    ephemeral_named = λ x mine. shown.ephemeral_named x (sym (same (Eph x)) ∙ mine);
  }

  pub seen_with : Seen script owned n b c
      → Seen script also n (record b { cut = cut }) (record c { state = state; link = link; context = contexts; cut = cuts })
  seen_with seen = record {
    stands = seen.stands;
    place = seen.place;
    in_bound = seen.in_bound;
    mode = seen.mode;
    remote = seen.remote;
    cut = cut_is;
    bound = λ j. seen.bound j ∙ ap not (sym (free j));
    line_stands = seen.line_stands;
    line_owned = λ i slot. same (Line (record { 0 = n.lines i })) ∙ seen.line_owned i slot;
    line_once = seen.line_once;
    context_number = seen.context_number;
    context_once = seen.context_once;
    members = seen.members;
    ephemeral_slot = seen.ephemeral_slot;
    ephemeral_stands = seen.ephemeral_stands;
    ephemeral_owned = λ k x bound. same (Eph x) ∙ seen.ephemeral_owned k x bound;
    ephemeral_once = seen.ephemeral_once;
    ephemeral_named = λ x mine. seen.ephemeral_named x (sym (same (Eph x)) ∙ mine);
  }
