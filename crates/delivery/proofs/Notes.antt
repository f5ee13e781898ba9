-- The numbers that were accepted are those of the notes of the association that arrived.
use Rattle.std.proofs.Common.{arith, ◌≡◌, ◌∙◌, ℕ, Bool, true, false, List, [], ◌∷◌, refl, ap}
use Rattle.std.specs.Prelude.{◌==◌, ◌&&◌, ◌||◌, if◌then◌else◌}
use Rattle.std.specs.List.{list_any}
use Rattle.std.proofs.lemmas.Bool.Decides.{nat_tests}
use Rattle.mg_model.specs.Delivery.{Inbox, new_inbox, Arrival, arrival, after_arrival, arrives_new, was_seen, is_old}
use Rattle.mg_model.proofs.Cases.{same_itself}
use Rattle.delivery.specs.Laws.{after_notes, is_note, NewExactlyOnce, SeenOnceAccepted}

keeps_association : (inbox : Inbox) (association number : ℕ) → (after_arrival inbox association number).association ≡ inbox.association
keeps_association inbox association number = by_test (association == inbox.association)
  where
    by_test : (ours : Bool) → (if ours then record inbox { accepted = λ n. if n == number then true else inbox.accepted n } else inbox).association ≡ inbox.association
    by_test true = refl
    by_test false = refl

all_keep_association : (inbox : Inbox) (notes : List (ℕ × ℕ)) → (after_notes inbox notes).association ≡ inbox.association
all_keep_association inbox [] = refl
all_keep_association inbox ((association, number) ∷ rest) =
    all_keep_association (after_arrival inbox association number) rest ∙ keeps_association inbox association number

accepted_after : (inbox : Inbox) (association number n : ℕ)
    → (after_arrival inbox association number).accepted n ≡ (inbox.accepted n || (association == inbox.association && number == n))
accepted_after inbox association number n = by_test (association == inbox.association)
  where
    turned : (a b : ℕ) → (a == b) ≡ (b == a)
    turned a b = grind (arith, nat_tests)

    by_number : (it before : Bool) → (if it then true else before) ≡ (before || it)
    by_number true true = refl
    by_number true false = refl
    by_number false true = refl
    by_number false false = refl

    nothing : (before : Bool) → before ≡ (before || false)
    nothing true = refl
    nothing false = refl

    by_test : (ours : Bool) → (if ours then record inbox { accepted = λ m. if m == number then true else inbox.accepted m } else inbox).accepted n ≡ (inbox.accepted n || (ours && number == n))
    by_test true = by_number (n == number) (inbox.accepted n) ∙ ap (λ b. inbox.accepted n || b) (turned n number)
    by_test false = nothing (inbox.accepted n)

-- a number was accepted where it was so at first, or among the notes that arrived since
accepted_among : (inbox : Inbox) (notes : List (ℕ × ℕ)) (number : ℕ)
    → (after_notes inbox notes).accepted number ≡ (inbox.accepted number || list_any (is_note inbox.association number) notes)
accepted_among inbox [] number = nothing (inbox.accepted number)
  where
    nothing : (before : Bool) → before ≡ (before || false)
    nothing true = refl
    nothing false = refl
accepted_among inbox ((association, one) ∷ rest) number =
    accepted_among (after_arrival inbox association one) rest number
    ∙ ap (λ a. (after_arrival inbox association one).accepted number || list_any (is_note a number) rest) (keeps_association inbox association one)
    ∙ ap (λ b. b || list_any (is_note inbox.association number) rest) (accepted_after inbox association one number)
    ∙ regrouped (inbox.accepted number) (association == inbox.association && one == number) (list_any (is_note inbox.association number) rest)
  where
    regrouped : (a b c : Bool) → ((a || b) || c) ≡ (a || (b || c))
    regrouped true b c = refl
    regrouped false b c = refl

abbrev arrival_by : Bool → Bool → Arrival
arrival_by ours seen = if ours then (if seen then was_seen else arrives_new) else is_old

pub new_once : NewExactlyOnce
new_once association number notes =
    ap (λ a. arrival_by (association == a) ((after_notes (new_inbox association) notes).accepted number)) (all_keep_association (new_inbox association) notes)
    ∙ ap (λ ours. arrival_by ours ((after_notes (new_inbox association) notes).accepted number)) (same_itself association)
    ∙ ap (arrival_by true) (accepted_among (new_inbox association) notes number)

pub seen_again : SeenOnceAccepted
seen_again inbox number =
    ap (λ ours. arrival (if ours then record inbox { accepted = λ n. if n == number then true else inbox.accepted n } else inbox) inbox.association number) (same_itself inbox.association)
    ∙ ap (λ ours. arrival_by ours (if number == number then true else inbox.accepted number)) (same_itself inbox.association)
    ∙ ap (λ it. arrival_by true (if it then true else inbox.accepted number)) (same_itself number)
