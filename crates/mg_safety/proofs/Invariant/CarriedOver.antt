-- What a command carries over, from the gateway's board to the configuration that it shows: what is asked before, and what holds after.
use Rattle.mg_safety.proofs.Words.{◌≡◌, ℕ, true, TermId, Command, Board, Configuration, IsWellFormed, is_legal, effect, Done, IsExecuted, subtracts, uses_known}
use Rattle.mg_safety.proofs.Words.{Script, creates_unbound, IsScript, IsCommandOf}
use Rattle.mg_safety.proofs.Invariant.Shown.{Naming, Shown, IsAccounted, Owner, owned_at, AreBuilt, known_by, item_for, named_after, built_after, ChangesOwned}

-- a command of a request is next: the board shows the configuration by the names in force (n), and the command is built with names of
-- which those are a part (m)
pub record IsReady (script : Script) (own : Owner) (n m : Naming) (b : Board) (c : Configuration) (command : Command) : Type 0 where
  pub shown : Shown script (owned_at own b) n b c
  pub well_formed : IsWellFormed c
  pub accounted : IsAccounted b
  pub earlier : (x : ℕ) → own.before x ≡ true → b.used_ephemeral x ≡ true
  pub built : AreBuilt n m b
  pub known : uses_known (known_by m) command ≡ true
  pub declared : IsCommandOf script command
  pub unbound : creates_unbound c command ≡ true

-- it was executed: it is legal in the configuration, and the board shows what it makes of the configuration
pub record IsCarried (script : Script) (own : Owner) (n m : Naming) (b : Board) (c : Configuration) (command : Command) (after : Board)
    (done : Done) : Type 0 where
  pub legal : is_legal c command ≡ true
  pub shown : Shown script (owned_at own after) (named_after n command done) after (effect script c command)
  pub accounted : IsAccounted after
  pub built : AreBuilt (named_after n command done) (built_after m command done) after
  pub changes : ChangesOwned own b after
  pub leaving : (t : TermId) → subtracts b (item_for m command) t ≡ true → owned_at own b t ≡ true

abbrev pub IsCarriedOver : Command → Type 0
IsCarriedOver command =
    (script : Script) → IsScript script → (own : Owner) (n m : Naming) (b : Board) (c : Configuration) (after : Board) (done : Done)
    → IsReady script own n m b c command → IsExecuted b (item_for m command) after done → IsCarried script own n m b c command after done
