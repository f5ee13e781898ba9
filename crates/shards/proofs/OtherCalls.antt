-- What is sent to and by one call is nothing of another.
use Rattle.std.proofs.Common.{◌≡◌, ◌∙◌, ◌++◌, ℕ, false, List, [], ◌∷◌, Option, None, refl, ap}
use Rattle.std.specs.Prelude.{Contains}
use Rattle.std.specs.List.{find}
use Rattle.std.specs.Option.{option_or}
use Rattle.std.proofs.lemmas.List.Folds.{find-append}
use Rattle.mg_model.specs.Messages.{Request, Reply, SentNote}
use Rattle.mg_model.specs.Reports.{is_of}
use Rattle.mg_model.specs.World.{World}
use Rattle.shards.proofs.MessageLemmas.{is_anothers, same_found}
use Rattle.shards.specs.Shows.{ShowsCall}
use Rattle.shards.specs.declared.call_record.CallRecord.{CallRecord}

pub none_found : {A : Type 0} (xs : List A) → find (λ x. false) xs ≡ None
none_found [] = refl
none_found (x ∷ xs) = none_found xs

-- messages of one call are none of another
pub others_added : {A : Type 0} (of number : A → ℕ) (call : ℕ) (which : Option ℕ) (new old : List A) → ((x : A) → Contains new x → of x ≡ call → ⊥)
    → find (λ x. is_of call which (of x) (number x)) (new ++ old) ≡ find (λ x. is_of call which (of x) (number x)) old
others_added of number call which new old other =
    find-append (λ x. is_of call which (of x) (number x)) new old
    ∙ ap (λ o. option_or o (find (λ x. is_of call which (of x) (number x)) old))
    (same_found (λ x. is_of call which (of x) (number x)) (λ x. false) new (λ x among. is_anothers call (of x) which (number x) (other x among)) ∙ none_found new)

-- a call of which everything stays is shown as before
pub stays_shown : (w v : World) (call : ℕ) (s : CallRecord) → ShowsCall w call s → v.agent call ≡ w.agent call
    → ((which : Option ℕ) → find (λ (r : Request). is_of call which r.call r.number) v.requests ≡ find (λ (r : Request). is_of call which r.call r.number) w.requests)
    → ((which : Option ℕ) → find (λ (r : Reply). is_of call which r.call r.number) v.replies ≡ find (λ (r : Reply). is_of call which r.call r.number) w.replies)
    → ((n : SentNote) → Contains w.notes n → Contains v.notes n) → ((n : SentNote) → Contains v.notes n → n.call ≡ call → Contains w.notes n)
    → (v.gateway.link call).notes ≡ (w.gateway.link call).notes → ShowsCall v call s
stays_shown w v call s shows agent requests replies more same link = record {
  agent = agent ∙ shows.agent;
  requests = λ which. requests which ∙ shows.requests which;
  replies = λ which. replies which ∙ shows.replies which;
  notes_sent = λ n among. let sent = shows.notes_sent n among in (more n sent.0, sent.1);
  notes_kept = λ n among of_it. shows.notes_kept n (same n among of_it) of_it;
  counted = link ∙ shows.counted;
  tied = shows.tied;
}
