-- Lists of messages that are named by their numbers, and what keeps them so: a request with the next number of its agent, a reply to a request
-- that is executed or the kept one, and notes that are numbered on.
use Rattle.mg_safety.proofs.Words.{◌≡◌, ◌∙◌, ◌+◌, ◌<◌, ◌≤◌, ◌++◌, ◌⊎◌, ℕ, Bool, false, List, [], ◌∷◌, length, Option, Some, None, refl, sym, ap, subst, arith}
use Rattle.mg_safety.proofs.Words.{inl, inr, Contains, Contains-append_cases, Agent, CallLink, sent_notes, notes_from, Gateway, number_of, Note, Request, Reply}
use Rattle.mg_safety.proofs.Words.{SentNote, RaisedNote, the_some, none_in, only_one, cases_eq, first_or_later}
use Rattle.mg_safety.specs.MessageNumbers.{AreOnce}

-- ---- lists in which each stands once

pub none_once : {A : Type 0} (of number : A → ℕ) → AreOnce of number []
none_once of number x y first second same also = absurd (none_in x first)

pub one_once : {A : Type 0} (of number : A → ℕ) (a : A) → AreOnce of number (a ∷ [])
one_once of number a x y first second same also = sym (only_one a x first) ∙ only_one a y second

-- a fact of the first one and of each later one
pub first_and_later : {A : Type 0} (first : A) (rest : List A) (x : A) (P : A → Type 0) → P first → (Contains rest x → P x) → Contains (first ∷ rest) x → P x
first_and_later first rest x P here later among = elim (first_or_later first rest x among) [
  | inl same ↦ subst P same here
  | inr there ↦ later there
]

-- what comes before a list, where nothing of it has the number of what is there
pub both_once : {A : Type 0} (of number : A → ℕ) (new old : List A) → AreOnce of number new → AreOnce of number old
    → ((x y : A) → Contains new x → Contains old y → of x ≡ of y → number x ≡ number y → x ≡ y) → AreOnce of number (new ++ old)
both_once of number new old of_new of_old across x y first second same also =
    either (Contains-append_cases new old x first) (Contains-append_cases new old y second)
  where
    either : Contains new x ⊎ Contains old x → Contains new y ⊎ Contains old y → x ≡ y
    either (inl a) (inl b) = of_new x y a b same also
    either (inl a) (inr b) = across x y a b same also
    either (inr a) (inl b) = sym (across y x b a (sym same) (sym also))
    either (inr a) (inr b) = of_old x y a b same also

-- ---- notes

-- these are of a call, and are numbered on from a count to a last one
pub record AreNumberedOn (call count last : ℕ) (notes : List SentNote) : Type 0 where
  pub grows : count ≤ last
  pub of_call : (n : SentNote) → Contains notes n → n.call ≡ call
  pub above : (n : SentNote) → Contains notes n → count < n.number
  pub most : (n : SentNote) → Contains notes n → n.number ≤ last
  pub once : AreOnce (λ (n : SentNote). n.call) (λ (n : SentNote). n.number) notes

pub sent_on : (call association count : ℕ) (raised : List RaisedNote)
    → AreNumberedOn call count (count + length raised) (sent_notes call association count raised)
sent_on call association count [] = record {
  grows = omega arith;
  of_call = λ n among. absurd (none_in n among);
  above = λ n among. absurd (none_in n among);
  most = λ n among. absurd (none_in n among);
  once = none_once (λ (n : SentNote). n.call) (λ (n : SentNote). n.number);
}
sent_on call association count (raised ∷ more) =
    let later = sent_on call association (count + 1) more in
    let of_first = λ (n : SentNote) (among : Contains (first ∷ []) n). only_one first n among in
    record {
      grows = omega arith;
      of_call = λ n among. first_and_later first (sent_notes call association (count + 1) more) n (λ (x : SentNote). x.call ≡ call) refl
          (later.of_call n) among;
      above = λ n among. first_and_later first (sent_notes call association (count + 1) more) n (λ (x : SentNote). count < x.number) (omega arith)
          (λ there. let above : count + 1 < n.number = later.above n there in omega (arith, above)) among;
      most = λ n among. first_and_later first (sent_notes call association (count + 1) more) n
          (λ (x : SentNote). x.number ≤ count + length (raised ∷ more)) (omega arith)
          (λ there. let most : n.number ≤ count + 1 + length more = later.most n there in omega (arith, most)) among;
      once = both_once (λ (n : SentNote). n.call) (λ (n : SentNote). n.number) (first ∷ []) (sent_notes call association (count + 1) more)
          (one_once (λ (n : SentNote). n.call) (λ (n : SentNote). n.number) first) later.once
          (λ x y at there same also. absurd (
          let number : x.number ≡ count + 1 = ap (λ (n : SentNote). n.number) (sym (of_first x at)) in
          let above : count + 1 < y.number = later.above y there in omega (arith, number, above, also)));
    }
  where
    first : SentNote
    first = record { call = call; association = association; number = count + 1; line = raised.line; note = raised.note }

pub line_on : (g : Gateway) (call l : ℕ) (note : Option Note)
    → AreNumberedOn call (g.link call).notes ((g.link call).notes + length (notes_from g call l note)) (notes_from g call l note)
line_on g call l None = sent_on call g.association (g.link call).notes []
line_on g call l (Some note) = sent_on call g.association (g.link call).notes (record { line = l; note = note } ∷ [])

-- each note is of a call that is known, of one that isn't retired it is counted, and each is there once
pub record NotesAreNumbered (known : ℕ → Type 0) (retired : ℕ → Bool) (link : ℕ → CallLink) (notes : List SentNote) : Type 0 where
  pub each_known : (n : SentNote) → Contains notes n → known n.call
  pub counted : (n : SentNote) → Contains notes n → retired n.call ≡ false → n.number ≤ (link n.call).notes
  pub once : AreOnce (λ (n : SentNote). n.call) (λ (n : SentNote). n.number) notes

pub notes_stay : (known also : ℕ → Type 0) (retired after : ℕ → Bool) (link later : ℕ → CallLink) (notes : List SentNote)
    → ((c : ℕ) → known c → also c)
    → ((c : ℕ) → known c → after c ≡ false → (retired c ≡ false) × ((later c).notes ≡ (link c).notes))
    → NotesAreNumbered known retired link notes → NotesAreNumbered also after later notes
notes_stay known also retired after link later notes still same was = record {
  each_known = λ n among. still n.call (was.each_known n among);
  counted = λ n among open_call. let kept = same n.call (was.each_known n among) open_call in
      let count : (later n.call).notes ≡ (link n.call).notes = kept.1 in
      let below = was.counted n among kept.0 in omega (arith, count, below);
  once = was.once;
}

pub notes_added : (known : ℕ → Type 0) (retired : ℕ → Bool) (link later : ℕ → CallLink) (notes new : List SentNote) (call last : ℕ)
    → AreNumberedOn call (link call).notes last new → known call → retired call ≡ false → (later call).notes ≡ last
    → ((c : ℕ) → (c ≡ call → ⊥) → (later c).notes ≡ (link c).notes)
    → NotesAreNumbered known retired link notes → NotesAreNumbered known retired later (new ++ notes)
notes_added known retired link later notes new call last on call_known open_call is others was = record {
  each_known = λ n among. elim (Contains-append_cases new notes n among) [
    | inl at ↦ subst known (sym (on.of_call n at)) call_known
    | inr there ↦ was.each_known n there
  ];
  counted = λ n among still. elim (Contains-append_cases new notes n among) [
    | inl at ↦ subst (λ c. n.number ≤ (later c).notes) (sym (on.of_call n at)) (let most = on.most n at in omega (arith, most, is))
    | inr there ↦ by_call n (was.counted n there still)
  ];
  once = both_once (λ (n : SentNote). n.call) (λ (n : SentNote). n.number) new notes on.once was.once
      (λ x y at there same also. absurd (above x y at there same also));
}
  where
    by_call : (n : SentNote) → n.number ≤ (link n.call).notes → n.number ≤ (later n.call).notes
    by_call n below = elim (cases_eq n.call call) [
      | inl here ↦ subst (λ c. n.number ≤ (later c).notes) (sym here)
          (let small : n.number ≤ (link call).notes = subst (λ c. n.number ≤ (link c).notes) here below in
          let grows = on.grows in omega (arith, small, grows, is))
      | inr apart ↦ (let same = others n.call apart in omega (arith, below, same))
    ]

    above : (x y : SentNote) → Contains new x → Contains notes y → x.call ≡ y.call → x.number ≡ y.number → ⊥
    above x y at there same also =
        let of_y : y.call ≡ call = sym same ∙ on.of_call x at in
        let small : y.number ≤ (link call).notes = subst (λ c. y.number ≤ (link c).notes) of_y
        (was.counted y there (subst (λ c. retired c ≡ false) (sym of_y) open_call)) in
        let big = on.above x at in omega (arith, small, big, also)

-- ---- requests

-- each request is of a call that is known, below the next number of its agent, and is there once
pub record RequestsAreNumbered (known : ℕ → Type 0) (agent : ℕ → Option Agent) (requests : List Request) : Type 0 where
  pub each_known : (r : Request) → Contains requests r → known r.call
  pub below : (r : Request) (a : Agent) → Contains requests r → agent r.call ≡ Some a → r.number < a.next
  pub once : AreOnce (λ (r : Request). r.call) (λ (r : Request). r.number) requests

-- ---- replies

-- the request that a reply answers was sent
abbrev pub IsAnswered : List Request → Reply → Type 0
IsAnswered requests x = (r : Request) × Contains requests r × (r.call ≡ x.call) × (r.number ≡ x.number) × (r.association ≡ x.association)

pub record RepliesAreNumbered (retired : ℕ → Bool) (link : ℕ → CallLink) (association : ℕ) (requests : List Request) (replies : List Reply) : Type 0 where
  pub kept : (c : ℕ) (k : Reply) → (link c).last ≡ Some k → (k.call ≡ c) × (k.association ≡ association) × IsAnswered requests k
  pub answered : (x : Reply) → Contains replies x → IsAnswered requests x
  pub past : (x : Reply) → Contains replies x → x.association ≤ association
  pub executed : (x : Reply) → Contains replies x → retired x.call ≡ false → x.association ≡ association → x.number ≤ number_of (link x.call).last
  pub same_kept : (x k : Reply) → Contains replies x → (link x.call).last ≡ Some k → x.number ≡ k.number → x ≡ k
  pub once : AreOnce (λ (x : Reply). x.call) (λ (x : Reply). x.number) replies

-- two replies with one number are to one request, so of one association
pub one_association : (requests : List Request) → AreOnce (λ (r : Request). r.call) (λ (r : Request). r.number) requests → (x y : Reply)
    → IsAnswered requests x → IsAnswered requests y → x.call ≡ y.call → x.number ≡ y.number → x.association ≡ y.association
one_association requests once x y (r, at, call, number, association) (s, there, its_call, its_number, its_association) same also =
    sym association ∙ ap (λ (q : Request). q.association) (once r s at there (call ∙ same ∙ sym its_call) (number ∙ also ∙ sym its_number)) ∙ its_association

pub still_answered : (requests more : List Request) → ((r : Request) → Contains requests r → Contains more r)
    → (x : Reply) → IsAnswered requests x → IsAnswered more x
still_answered requests more grow x (r, at, call, number, association) = (r, grow r at, call, number, association)

-- where the kept replies stay, and requests are only added
pub replies_stay : (retired after : ℕ → Bool) (link later : ℕ → CallLink) (association : ℕ) (requests more : List Request) (replies : List Reply)
    → ((r : Request) → Contains requests r → Contains more r)
    → ((x : Reply) → Contains replies x → after x.call ≡ false → (retired x.call ≡ false) × ((later x.call).last ≡ (link x.call).last))
    → ((c : ℕ) (k : Reply) → (later c).last ≡ Some k → (link c).last ≡ Some k)
    → RepliesAreNumbered retired link association requests replies → RepliesAreNumbered after later association more replies
replies_stay retired after link later association requests more replies grow same from was = record {
  kept = λ c k is. let old = was.kept c k (from c k is) in (old.0, old.1, still_answered requests more grow k old.2);
  answered = λ x among. still_answered requests more grow x (was.answered x among);
  past = was.past;
  executed = λ x among open_call now. let kept = same x among open_call in
      subst (λ last. x.number ≤ number_of last) (sym kept.1) (was.executed x among kept.0 now);
  same_kept = λ x k among is also. was.same_kept x k among (from x.call k is) also;
  once = was.once;
}

-- the kept reply is sent once more
pub reply_again : (retired : ℕ → Bool) (link : ℕ → CallLink) (association : ℕ) (requests : List Request) (replies : List Reply) (c : ℕ) (k : Reply)
    → (link c).last ≡ Some k → RepliesAreNumbered retired link association requests replies
    → RepliesAreNumbered retired link association requests (k ∷ replies)
reply_again retired link association requests replies c k is was = record {
  kept = was.kept;
  answered = λ x among. first_and_later k replies x (λ y. IsAnswered requests y) its.2 (was.answered x) among;
  past = λ x among. first_and_later k replies x (λ (y : Reply). y.association ≤ association) (let now = its.1 in omega (arith, now)) (was.past x) among;
  executed = λ x among. first_and_later k replies x
      (λ (y : Reply). retired y.call ≡ false → y.association ≡ association → y.number ≤ number_of (link y.call).last)
      (λ open_call now. subst (λ last. k.number ≤ number_of last) (sym here) (omega arith)) (was.executed x) among;
  same_kept = λ x j among. first_and_later k replies x (λ (y : Reply). (link y.call).last ≡ Some j → y.number ≡ j.number → y ≡ j)
      (λ there also. the_some k j (sym here ∙ there)) (was.same_kept x j) among;
  once = both_once (λ (x : Reply). x.call) (λ (x : Reply). x.number) (k ∷ []) replies (one_once (λ (x : Reply). x.call) (λ (x : Reply). x.number) k) was.once
      (λ x y at there same also. let first = only_one k x at in
      sym first ∙ sym (was.same_kept y k there (ap (λ n. (link n).last) (sym same ∙ ap (λ (z : Reply). z.call) (sym first)) ∙ here)
      (sym also ∙ ap (λ (z : Reply). z.number) (sym first))));
}
  where
    its : (k.call ≡ c) × (k.association ≡ association) × IsAnswered requests k
    its = was.kept c k is

    here : (link k.call).last ≡ Some k
    here = ap (λ n. (link n).last) its.0 ∙ is
