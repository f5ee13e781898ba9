-- A worker's place at a queue, once a call that it took there is handed back or done with.
use Rattle.std.proofs.Common.{◌≡◌, ◌∙◌, ◌++◌, ℕ, List, [], ◌∷◌, sym, ap, subst}
use Rattle.handover.specs.Hands.{hand}
use Rattle.handover.specs.Queues.{IsSameShare, hand_of}
use Rattle.handover.specs.declared.hand.Hand.{Hand}
use Rattle.handover.specs.declared.hand.NumberedItem.{NumberedItem}
use Rattle.handover.specs.declared.queue.Queue.{Queue}
use Rattle.handover.specs.declared.queue.Share.{Share}
use Rattle.call_queues.specs.Passing.{Accounts, IsWorkers}
use Rattle.call_queues.specs.declared.worker_queue.WorkerQueue.{WorkerQueue}
use Rattle.call_queues.proofs.AccountLemmas.{done_with, put_back, still_share}

module _ {T : Type 0} (queue : Queue T) (old : WorkerQueue T) (was : IsWorkers queue old) (share : Share T) (of : IsSameShare old.share share) (number : ℕ)
    (taken : hand_of share
    ≡ hand (hand_of old.share).parts (hand_of old.share).begun (hand_of old.share).put ((hand_of old.share).taken ++ number ∷ [])) where
  same_part : (hand_of share).parts ≡ 1
  same_part = ap (λ (v : Hand). v.parts) taken ∙ was.part

  none_begun : (hand_of share).begun ≡ []
  none_begun = ap (λ (v : Hand). v.begun) taken ∙ was.begun

  -- it is handed back
  pub handed_back : (other : ℕ) → other ≡ number → (new : WorkerQueue T) → IsSameShare share new.share
      → hand_of new.share ≡ hand (hand_of share).parts (hand_of share).begun ((hand_of share).put ++ other ∷ []) (hand_of share).taken
      → new.done.items ≡ old.done.items → IsWorkers queue new
  handed_back other same new stays put is = record {
    share = still_share queue share new.share stays (still_share queue old.share share of was.share);
    part = ap (λ (v : Hand). v.parts) put ∙ same_part;
    begun = ap (λ (v : Hand). v.begun) put ∙ none_begun;
    accounts = put_back (hand_of old.share) old.done.items was.accounts (hand_of share) (hand_of new.share) number other new.done.items taken same put is;
  }

  -- it is done with
  pub finished_with : (thing : NumberedItem T) → thing.number ≡ number → (room : List (NumberedItem T)) → room ≡ old.done.items
      → (new : WorkerQueue T) → new.share ≡ share → new.done.items ≡ room ++ thing ∷ [] → IsWorkers queue new
  finished_with thing same room made new still is = record {
    share = still_share queue old.share new.share (subst (λ (s : Share T). IsSameShare old.share s) (sym still) of) was.share;
    part = ap (λ (s : Share T). (hand_of s).parts) still ∙ same_part;
    begun = ap (λ (s : Share T). (hand_of s).begun) still ∙ none_begun;
    accounts = subst (λ (s : Share T). Accounts (hand_of s) new.done.items) (sym still)
        (done_with (hand_of old.share) old.done.items was.accounts (hand_of share) thing number room new.done.items taken same made is);
  }
