-- What a clause says of a queue, and of its shares.
use Rattle.std.specs.Prelude.{ℕ}
use Rattle.crossbeam_queue.specs.Passes.{IsPassOf, IsSamePass, ruled_capacity, view}
use Rattle.handover.specs.declared.hand.Hand.{Hand}
use Rattle.handover.specs.declared.queue.Queue.{Queue}
use Rattle.handover.specs.declared.queue.Share.{Share}

module _ {T : Type 0} where
  -- how many things it has room for
  abbrev pub room_of : Queue T → ℕ
  room_of queue = ruled_capacity queue.ring

  abbrev pub IsShareOf : Queue T → Share T → Type 0
  IsShareOf queue share = IsPassOf queue.ring share.pass

  -- a share of the same queue
  abbrev pub IsSameShare : Share T → Share T → Type 0
  IsSameShare old new = IsSamePass old.pass new.pass

  -- what it knows
  abbrev pub hand_of : Share T → Hand
  hand_of share = view share.pass
