-- Rows of plans and shards, computed: where restarts stand among a call's steps, the numbers of calls that begin, and the merge of two histories. What they
-- should give was reasoned by hand.
use Rattle.std.proofs.Common.{◌≡◌, List, [], ◌∷◌, None, refl, inl, inr}
use Rattle.mg_merge.proofs.Words.{Event, GoesOff, Hears, IsPlacing, Plan, PlanCall, PlanStep, Restart, Restarts, TakesNote, cut_at_restarts, epochs_of, merged}
use Rattle.mg_merge.proofs.Words.{merged_from, number_begun, pass, restarts_in, restarts_of_others, steps_in, timer}

-- ---- plans

off : PlanStep
off = GoesOff 0

-- a call of two epochs, and one of a single epoch that has a `restart` step
long : PlanCall
long = record { lines = 1 ∷ []; epochs = (off ∷ []) ∷ (Hears ∷ []) ∷ [] }

short : PlanCall
short = record { lines = 2 ∷ []; epochs = (off ∷ Restarts ∷ TakesNote None ∷ []) ∷ [] }

plan : Plan
plan = record { calls = long ∷ short ∷ []; shards = 1 }

two_epochs : epochs_of plan.calls ≡ 2
unfolding plan long short off
two_epochs = refl

-- one restart at the end of the first epoch, also where the call has no second one
of_long : steps_in 2 long.epochs ≡ off ∷ Restarts ∷ Hears ∷ []
unfolding long
of_long = refl

of_short : steps_in 2 short.epochs ≡ off ∷ Restarts ∷ TakesNote None ∷ Restarts ∷ []
unfolding short
of_short = refl

-- the other call's `restart` step may stand anywhere among the steps of the first; the second's own stands where it is
one_other : restarts_of_others plan long ≡ 1
unfolding plan long short off
one_other = refl

no_other : restarts_of_others plan short ≡ 0
unfolding plan long short off
no_other = refl

placed_first : IsPlacing (off ∷ Hears ∷ []) 1 (Restarts ∷ off ∷ Hears ∷ [])
unfolding IsPlacing
placed_first = inr (0, refl, refl, inl (Hears ∷ [], refl, inl ([], refl, (refl, refl))))

placed_last : IsPlacing (off ∷ Hears ∷ []) 1 (off ∷ Hears ∷ Restarts ∷ [])
unfolding IsPlacing
placed_last = inl (Hears ∷ [], refl, inl ([], refl, inr (0, refl, refl, (refl, refl))))

-- the second call that begins within call 3 of the plan
second_begun : number_begun 3 2 ≡ 20003
second_begun = refl

-- ---- histories

one : List Event
one = pass 0 ∷ Restart ∷ timer 0 ∷ []

other : List Event
other = timer 1 ∷ pass 1 ∷ Restart ∷ []

cut_in_two : cut_at_restarts other ≡ (timer 1 ∷ pass 1 ∷ []) ∷ [] ∷ []
unfolding other cut_at_restarts
cut_in_two = refl

restarted_once : restarts_in one ≡ 1
unfolding one restarts_in
restarted_once = refl

-- association by association, in each shard after shard, one restart between two
merge_of_both : merged (cut_at_restarts one ∷ cut_at_restarts other ∷ []) 1 ≡ pass 0 ∷ timer 1 ∷ pass 1 ∷ Restart ∷ timer 0 ∷ []
unfolding one other cut_at_restarts merged_from
merge_of_both = refl
