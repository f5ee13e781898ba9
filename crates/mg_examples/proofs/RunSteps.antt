-- A run, written world by world.
use Rattle.mg_examples.proofs.Words.{World}

infixr 5 ◌after◌▹◌
-- the next world, what led to it, and what follows
pub ◌after◌▹◌ : {A B : World → Type 0} (next : World) → A next → B next → (world : World) × (A world × B world)
next after happened ▹ more = (next, (happened, more))
