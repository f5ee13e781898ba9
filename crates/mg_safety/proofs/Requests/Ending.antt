-- The end of a request. What it freed may be given again from then on, so less is said of what the board shows.
use Rattle.mg_safety.proofs.Words.{◌≡◌, ◌∙◌, ℕ, Bool, true, false, Option, Some, None, is_some, refl, sym, ap, subst, true≢false, TermId, Line, Eph, Remote}
use Rattle.mg_safety.proofs.Words.{Unset, Gone, To, Row, Board, exists, place_in, mode_in, remote_in, IsSettled, Configuration, Script}
use Rattle.mg_safety.proofs.InvariantWords.{Naming, Shown, Seen, RemoteReads, RemoteSeen, row_on, cut_on, term_of, eph_of}

module _ (script : Script) (owned after : TermId → Bool) (n : Naming) (b settled : Board) (c : Configuration) (shown : Shown script owned n b c)
    (is : IsSettled b settled) (same : (t : TermId) → exists b t ≡ true → after t ≡ owned t) where
  on : (o : Option TermId) → row_on settled o ≡ row_on b o
  on None = refl
  on (Some t) = ap (λ (rows : TermId → Option Row). rows t) is.row

  cuts : (o p : Option TermId) → cut_on settled o p ≡ cut_on b o p
  cuts None p = refl
  cuts (Some t) None = refl
  cuts (Some t) (Some u) = ap (λ (cut : TermId → TermId → Bool). cut t u) is.cut

  gone : (x i : ℕ) → exists b (Eph x) ≡ false → n.ephemerals i ≡ Some x → ⊥
  gone x i none named = true≢false (sym (shown.ephemeral_stands i x named) ∙ none)

  seen_of : (r : Remote) (remote : Option ℕ) → RemoteReads b n r remote → RemoteSeen n r remote
  seen_of Unset remote reads = reads
  seen_of Gone remote reads = (reads.0, reads.1, λ i named. gone reads.0 i reads.2 named)
  seen_of (To i) remote reads = reads

  stands_still : (t : TermId) → exists settled t ≡ exists b t
  stands_still t = ap (λ (rows : TermId → Option Row). is_some (rows t)) is.row

  pub seen_at_end : Seen script after n settled c
  seen_at_end = record {
    stands = λ t slot. ap is_some (on (term_of n t)) ∙ shown.stands t slot;
    place = λ t slot. ap place_in (on (term_of n t)) ∙ shown.place t slot;
    in_bound = shown.in_bound;
    mode = λ t slot. shown.mode t slot ∙ sym (ap mode_in (on (term_of n t)));
    remote = λ k slot. subst (λ (o : Option Row). RemoteSeen n (c.remote k) (remote_in o)) (sym (on (eph_of (n.ephemerals k))))
        (seen_of (c.remote k) (remote_in (row_on b (eph_of (n.ephemerals k)))) (shown.remote k slot));
    cut = λ t u slot also. shown.cut t u slot also ∙ sym (cuts (term_of n t) (term_of n u));
    bound = shown.bound;
    line_stands = λ i slot. stands_still (Line (record { 0 = n.lines i })) ∙ shown.line_stands i slot;
    line_owned = λ i slot. same (Line (record { 0 = n.lines i })) (shown.line_stands i slot) ∙ shown.line_owned i slot;
    line_once = shown.line_once;
    context_number = λ j x bound. (shown.context_real j x bound).0;
    context_once = shown.context_once;
    members = λ v j x t slot spot bound at. shown.members j x t bound (sym (ap (λ (rows : TermId → Option Row). place_in (rows t)) is.row) ∙ at);
    ephemeral_slot = shown.ephemeral_slot;
    ephemeral_stands = λ k x named. stands_still (Eph x) ∙ shown.ephemeral_stands k x named;
    ephemeral_owned = λ k x named. same (Eph x) (shown.ephemeral_stands k x named) ∙ shown.ephemeral_owned k x named;
    ephemeral_once = shown.ephemeral_once;
    ephemeral_named = λ x own there.
        let stood : exists b (Eph x) ≡ true = sym (stands_still (Eph x)) ∙ there in
        shown.ephemeral_named x (sym (same (Eph x) stood) ∙ own) stood;
  }
