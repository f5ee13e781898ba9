use Rattle.std.proofs.Common.{◌≡◌, ◌||◌, ℕ, drop, true}
use Rattle.mg_model.specs.Members.{is_among}
use Rattle.gateway.specs.Creators.{any_created}
use Rattle.gateway.proofs.created.note.Given as goal

-- what is noted, and what is left to go through, make the whole; and nothing that was noted is lost
abbrev pub invariant-loop-done : goal.invariant-loop-done
invariant-loop-done l = record {
  kept : (k : ℕ) → is_among l.fn.created.keys k ≡ true → is_among l.created.keys k ≡ true;
  whole : (k : ℕ) → any_created l.results k ≡ true → (is_among l.created.keys k || any_created (drop l.done-index l.results) k) ≡ true;
}
