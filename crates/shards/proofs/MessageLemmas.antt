-- Messages that are looked up in a world and in a record.
use Rattle.std.proofs.Common.{◌≡◌, ◌∙◌, ◌-◌, ◌<◌, ◌==◌, ◌++◌, ℕ, zero, suc, Bool, true, false, List, [], ◌∷◌, length, Option, Some, None, if◌then◌else◌, reverse, refl, sym, ap, subst, arith}
use Rattle.std.specs.Prelude.{Contains, ◌&&◌, is_some, nat_le, slice_get}
use Rattle.std.specs.List.{find}
use Rattle.std.proofs.lemmas.Bool.{eqb-true}
use Rattle.std.proofs.lemmas.List.{reverse-append}
use Rattle.mg_model.proofs.Cases.{and_first, and_second, none_is_some, the_some, different, same_itself}
use Rattle.mg_model.proofs.Single.{first_in}
use Rattle.mg_model.specs.Reports.{is_of}
use Rattle.mg_model.specs.Agent.{Phase, awaits_reply, awaits_pass, resting}
use Rattle.mg_model.specs.Messages.{Request, Reply}
use Rattle.mg_model.specs.World.{sent_in}
use Rattle.agent.specs.Steps.{outstanding}
use Rattle.shards.specs.Messages.{Messages, fits, joined, listed, reply_at, reply_for, sending}

-- ---- what a test finds

-- tests that agree on a list find the same in it
pub same_found : {A : Type 0} (p q : A → Bool) (xs : List A) → ((x : A) → Contains xs x → p x ≡ q x) → find p xs ≡ find q xs
same_found p q [] same = refl
same_found p q (x ∷ xs) same =
    ap (λ test. if test then Some x else find p xs) (same x (first_in x xs)) ∙ ap (λ o. if q x then Some x else o) (same_found p q xs (λ y among. same y (later y among)))
  where
    later : (y : _) → Contains xs y → Contains (x ∷ xs) y
    later y among = let within : among.0 < length xs = among.1 in (suc among.0, omega (arith, within), among.2)

-- ---- whose messages they are

pub is_own : (call : ℕ) (which : Option ℕ) (number : ℕ) → is_of call which call number ≡ fits which number
is_own call None number = same_itself call
is_own call (Some n) number = ap (λ test. test && number == n) (same_itself call)

pub is_anothers : (call of : ℕ) (which : Option ℕ) (number : ℕ) → (of ≡ call → ⊥) → is_of call which of number ≡ false
is_anothers call of None number other = different of call other
is_anothers call of (Some n) number other = ap (λ test. test && number == n) (different of call other)

-- ---- a request that is awaited no more

pub over_first : (phase : Phase) (requests : List Request) → reverse (requests ++ listed (outstanding phase)) ≡ sent_in phase ++ reverse requests
over_first (awaits_reply request) requests = reverse-append requests (request ∷ [])
over_first awaits_pass requests = reverse-append requests []
over_first resting requests = reverse-append requests []

pub length_over : (phase : Phase) → length (listed (outstanding phase)) ≡ length (sent_in phase)
length_over (awaits_reply request) = refl
length_over awaits_pass = refl
length_over resting = refl

-- ---- places for replies that are not there yet

abbrev pub places_for : Bool → List (Option Reply)
places_for sends = if sends then None ∷ [] else []

pub length_places : (phase : Phase) → length (places_for (is_some (outstanding phase))) ≡ length (sent_in phase)
length_places (awaits_reply request) = refl
length_places awaits_pass = refl
length_places resting = refl

past_end : (sends : Bool) (place : ℕ) → joined (slice_get (places_for sends) place) ≡ None
past_end false place = refl
past_end true zero = refl
past_end true (suc place) = refl

no_reply_yet : (sends : Bool) (replies : List (Option Reply)) (place : ℕ) → joined (slice_get (replies ++ places_for sends) place) ≡ joined (slice_get replies place)
no_reply_yet sends [] place = past_end sends place
no_reply_yet sends (reply ∷ more) zero = refl
no_reply_yet sends (reply ∷ more) (suc place) = no_reply_yet sends more place

-- what is sent changes no reply
pub same_replies : (m : Messages) (over : Option Request) (sends : Bool) (which : Option ℕ) → reply_for (sending m over sends) which ≡ reply_for m which
same_replies m over sends None = by_place m.answered
  where
    by_place : (answered : Option ℕ) → reply_at (sending m over sends) answered ≡ reply_at m answered
    by_place None = refl
    by_place (Some place) = no_reply_yet sends m.replies place
same_replies m over sends (Some n) = by_order (nat_le m.first n)
  where
    by_order : (order : Bool) → joined (if order then slice_get (m.replies ++ places_for sends) (n - m.first) else None)
        ≡ joined (if order then slice_get m.replies (n - m.first) else None)
    by_order true = no_reply_yet sends m.replies (n - m.first)
    by_order false = refl

-- ---- what is found

pub found_in : {A : Type 0} (p : A → Bool) (xs : List A) (x : A) → find p xs ≡ Some x → Contains xs x × (p x ≡ true)
found_in p [] x is = absurd (none_is_some x is)
found_in p (y ∷ more) x is = by_test (found_in p more x) (p y) refl is
  where
    by_test : (find p more ≡ Some x → Contains more x × (p x ≡ true)) → (test : Bool) → p y ≡ test → (if test then Some y else find p more) ≡ Some x
        → Contains (y ∷ more) x × (p x ≡ true)
    by_test later true fits here =
        let same : y ≡ x = the_some y x here in (subst (λ (z : _). Contains (y ∷ more) z) same (first_in y more), ap p (sym same) ∙ fits)
    by_test later false other there =
        let found = later there in let within : found.0.0 < length more = found.0.1 in
        ((suc found.0.0, omega (arith, within), found.0.2), found.1)

pub own_message : (call number of n : ℕ) → is_of call (Some number) of n ≡ true → (of ≡ call) × (n ≡ number)
own_message call number of n is =
    (eqb-true of call (and_first (of == call) (n == number) is), eqb-true n number (and_second (of == call) (n == number) is))
