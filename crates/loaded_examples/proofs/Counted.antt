-- How many points the entries of the examples have that break no obligation.
use Rattle.std.proofs.Common.{◌+◌, ◌==◌, ℕ, List, [], ◌∷◌, Option, Some, None, refl, inl}
use Rattle.mg_names.specs.declared.context_values.ContextValue.TheVariants.{Free, Live}
use Rattle.mg_names.specs.declared.phases.LinkPhase.{LinkPhase}
use Rattle.mg_names.specs.declared.phases.LinkPhase.TheVariants.{Sent, Answered, Failed, Resting}
use Rattle.mg_model.specs.declared.commands.EventsName.{EventsName}
use Rattle.mg_model.specs.declared.commands.EventsName.TheVariants.{Empty, Armed, Own}
use Rattle.mg_model.specs.Configuration.{IsWellFormed}
use Rattle.mg_model.specs.Entries.{Entry, HasPoints, HasPointsBelow, HavePoints, numbered}
use Rattle.mg_examples.specs.BegunTalk.{renewing_entries, restarting, ended}
use Rattle.mg_examples.specs.Dials as dialling
use Rattle.mg_examples.specs.EntriesOfTwo.{null, talking}
use Rattle.mg_examples.specs.TalkEntries.{idle_unarmed, idle_armed, sent, half, both, stopped_at_once, stopped_half, reachable}
use Rattle.mg_examples.specs.Unarmed.{resting_idle}
use Rattle.mg_examples.proofs.EntriesOfTwo.{point_of, point_formed, is_free_live, is_first_live, is_both_live}

-- ---- an entry, and entries

module _ (entry : Entry) where
  one_point : IsWellFormed (numbered entry 0) → HasPointsBelow entry 1 1
  one_point first = inl (first, (0, (refl, refl)))

  two_points : IsWellFormed (numbered entry 0) → IsWellFormed (numbered entry 1) → HasPointsBelow entry 2 2
  two_points first second = inl (second, (1, (one_point first, refl)))

and_more : (entry : Entry) (more : List Entry) (count rest : ℕ) → HasPoints entry count → HavePoints more rest → HavePoints (entry ∷ more) (count + rest)
and_more entry more count rest its theirs = (count, (rest, (its, (theirs, refl))))

-- ---- the configurations are well formed

free : (state : ℕ) (link : LinkPhase) (list : EventsName) → IsWellFormed (point_of state link list null null (Some Free))
free state link list = point_formed state link list null null (Some Free) (λ j. is_free_live (j == 0))

first_in : (state : ℕ) (link : LinkPhase) → IsWellFormed (point_of state link Armed talking null (Some Live))
first_in state link = point_formed state link Armed talking null (Some Live) is_first_live

both_in : (link : LinkPhase) → IsWellFormed (point_of 1 link Armed talking talking (Some Live))
both_in link = point_formed 1 link Armed talking talking (Some Live) is_both_live

-- in a script without a context, whether or not line a has a list of its own
listening : (state : ℕ) (link : LinkPhase) (list : EventsName) (own : Option EventsName)
    → IsWellFormed (point_of state link list (record null { own = own }) null None)
listening state link list own = point_formed state link list (record null { own = own }) null None (λ j. refl)

-- ---- the entries

sent_points : HasPoints sent 2
sent_points = two_points sent (free 1 Sent Armed) (free 1 Failed Armed)

half_points : HasPoints half 1
half_points = one_point half (first_in 1 Failed)

both_points : HasPoints both 2
both_points = two_points both (both_in Answered) (both_in Resting)

stopped_points : HasPoints stopped_at_once 2
stopped_points = two_points stopped_at_once (free 2 Answered Armed) (free 2 Resting Armed)

half_stopped_points : HasPoints stopped_half 2
half_stopped_points = two_points stopped_half (first_in 2 Answered) (first_in 2 Resting)

idle_points : HasPoints idle_armed 1
idle_points = one_point idle_armed (free 0 Resting Armed)

pub reachable_counted : HavePoints reachable 12
reachable_counted =
    and_more idle_unarmed (idle_armed ∷ talk_entries) 2 10 (two_points idle_unarmed (free 0 Answered Empty) (free 0 Resting Empty))
    (and_more idle_armed talk_entries 1 9 idle_points
    (and_more sent (half ∷ both ∷ stopped_at_once ∷ stopped_half ∷ []) 2 7 sent_points
    (and_more half (both ∷ stopped_at_once ∷ stopped_half ∷ []) 1 6 half_points
    (and_more both (stopped_at_once ∷ stopped_half ∷ []) 2 4 both_points
    (and_more stopped_at_once (stopped_half ∷ []) 2 2 stopped_points (and_more stopped_half [] 2 0 half_stopped_points refl))))))
  where
    talk_entries : List Entry
    talk_entries = sent ∷ half ∷ both ∷ stopped_at_once ∷ stopped_half ∷ []

pub renewing_counted : HavePoints renewing_entries 14
renewing_counted =
    and_more idle_armed (sent ∷ half ∷ both ∷ stopped) 1 13 idle_points
    (and_more sent (half ∷ both ∷ stopped) 2 11 sent_points
    (and_more half (both ∷ stopped) 1 10 half_points
    (and_more both stopped 2 8 both_points
    (and_more restarting (stopped_at_once ∷ stopped_half ∷ ended ∷ []) 2 6 (two_points restarting (free 2 Answered Empty) (free 2 Resting Empty))
    (and_more stopped_at_once (stopped_half ∷ ended ∷ []) 2 4 stopped_points
    (and_more stopped_half (ended ∷ []) 2 2 half_stopped_points
    (and_more ended [] 2 0 (two_points ended (free 3 Answered Armed) (free 3 Resting Armed)) refl)))))))
  where
    stopped : List Entry
    stopped = restarting ∷ stopped_at_once ∷ stopped_half ∷ ended ∷ []

pub dials_counted : HavePoints dialling.dial_entries 11
dials_counted =
    and_more dialling.after_a_restart (resting_idle ∷ dialling.not_asked ∷ dialling.collects ∷ stopped) 2 9
    (two_points dialling.after_a_restart (listening 0 Answered Empty None) (listening 0 Resting Empty None))
    (and_more resting_idle (dialling.not_asked ∷ dialling.collects ∷ stopped) 1 8 (one_point resting_idle (listening 0 Resting Armed None))
    (and_more dialling.not_asked (dialling.collects ∷ stopped) 2 6
    (two_points dialling.not_asked (listening 1 Sent Armed None) (listening 1 Failed Armed None))
    (and_more dialling.collects stopped 2 4
    (two_points dialling.collects (listening 1 Answered Armed (Some (Own 0))) (listening 1 Resting Armed (Some (Own 0))))
    (and_more dialling.stopped_at_once (dialling.stopped_dialled ∷ []) 2 2
    (two_points dialling.stopped_at_once (listening 2 Answered Armed None) (listening 2 Resting Armed None))
    (and_more dialling.stopped_dialled [] 2 0
    (two_points dialling.stopped_dialled (listening 2 Answered Armed (Some (Own 0))) (listening 2 Resting Armed (Some (Own 0)))) refl)))))
  where
    stopped : List Entry
    stopped = dialling.stopped_at_once ∷ dialling.stopped_dialled ∷ []
