-- Which code a command is refused with, where a refusal is chosen for it and where none is.
use Rattle.std.proofs.Common.{refl, ◌≡◌, ◌≢◌, ℕ, ◌<◌, Option, Some, None, unwrap_or, is_some, true≢false, inl, inr, ap, subst, sym, arith}
use Rattle.mg_names.specs.declared.codes.Code.{Code}
use Rattle.mg_names.specs.declared.codes.Code.TheVariants.{UnknownContext, UnknownTermination, AlreadyInContext, NotInContext, InternalFailure, InsufficientResources}
use Rattle.mg_model.specs.declared.failures.ChosenRefusal.{ChosenRefusal}
use Rattle.mg_model.specs.declared.failures.Refusal.{Refusal}
use Rattle.mg_model.specs.declared.failures.Refusal.TheVariants as refusal
use Rattle.mg_model.specs.declared.items.Item.{Item}
use Rattle.mg_model.specs.Board.{Board}
use Rattle.mg_model.specs.Failures.{code_of}
use Rattle.mg_model.specs.Items.{IsLegal, IsRefused, rank}
use Rattle.mg_model.specs.Messages.{RequestCommand}
use Rattle.mg_model.specs.RequestRun.{Running, Fails, IsRefusedWith, MayRefuse, chosen_at, item_at}

the_code : (a b : Code) → Some a ≡ Some b → a ≡ b
the_code a b e = ap (λ (o : Option Code). unwrap_or o a) e

-- its own code, where none is chosen
pub refused_alone : (b : Board) (item : Item) (code : Code) → IsRefused b item code → IsRefusedWith b item None code
refused_alone b item code refused = record { may = inl refused.applies; first = first }
  where
    first : (earlier : Code) → rank earlier < rank code → MayRefuse b item None earlier → ⊥
    first earlier before (inl applies) = refused.first earlier before applies
    first earlier before (inr none) = true≢false (sym (ap is_some none))

-- the code of a chosen refusal comes before no code but 510
chosen_after : (chosen : Refusal) (b : Board) (item : Item) (code : Code) → IsRefused b item code → code ≢ InsufficientResources → rank (code_of chosen) < rank code → ⊥
chosen_after chosen b item UnknownContext refused other before = omega (arith, before)
chosen_after refusal.InternalFailure b item UnknownTermination refused other before = omega (arith, before)
chosen_after refusal.InsufficientResources b item UnknownTermination refused other before = omega (arith, before)
chosen_after refusal.InternalFailure b item AlreadyInContext refused other before = omega (arith, before)
chosen_after refusal.InsufficientResources b item AlreadyInContext refused other before = omega (arith, before)
chosen_after refusal.InternalFailure b item NotInContext refused other before = omega (arith, before)
chosen_after refusal.InsufficientResources b item NotInContext refused other before = omega (arith, before)
chosen_after chosen b item InternalFailure refused other before = refused.applies
chosen_after chosen b item InsufficientResources refused other before = other refl

-- its own code, where that isn't 510
pub refused_by_own : (b : Board) (item : Item) (chosen : Refusal) (code : Code) → IsRefused b item code → code ≢ InsufficientResources →
    IsRefusedWith b item (Some chosen) code
refused_by_own b item chosen code refused other = record { may = inl refused.applies; first = first }
  where
    first : (earlier : Code) → rank earlier < rank code → MayRefuse b item (Some chosen) earlier → ⊥
    first earlier before (inl applies) = refused.first earlier before applies
    first earlier before (inr is) = chosen_after chosen b item code refused other (subst (λ (c : Code). rank c < rank code) (sym (the_code _ _ is)) before)

-- the chosen code, where no code before 510 applies
pub refused_by_chosen : (b : Board) (item : Item) (chosen : Refusal) → ((earlier : Code) → rank earlier < rank (code_of chosen) → MayRefuse b item None earlier → ⊥) →
    IsRefusedWith b item (Some chosen) (code_of chosen)
refused_by_chosen b item chosen none = record { may = inr refl; first = first }
  where
    first : (earlier : Code) → rank earlier < rank (code_of chosen) → MayRefuse b item (Some chosen) earlier → ⊥
    first earlier before (inl applies) = none earlier before (inl applies)
    first earlier before (inr is) = let same = ap rank (the_code _ _ is) in absurd (omega (arith, same, before))

within_510 : (chosen : Refusal) (earlier : Code) → rank earlier < rank (code_of chosen) → rank earlier < rank InsufficientResources
within_510 refusal.InternalFailure earlier before = omega (arith, before)
within_510 refusal.InsufficientResources earlier before = before

pub refused_used_up : (b : Board) (item : Item) (chosen : Refusal) → IsRefused b item InsufficientResources → IsRefusedWith b item (Some chosen) (code_of chosen)
refused_used_up b item chosen refused = refused_by_chosen b item chosen none
  where
    none : (earlier : Code) → rank earlier < rank (code_of chosen) → MayRefuse b item None earlier → ⊥
    none earlier before (inl applies) = refused.first earlier (within_510 chosen earlier before) applies
    none earlier before (inr is) = true≢false (sym (ap is_some is))

pub refused_legal : (b : Board) (item : Item) (chosen : Refusal) → IsLegal b item → IsRefusedWith b item (Some chosen) (code_of chosen)
refused_legal b item chosen legal = refused_by_chosen b item chosen none
  where
    none : (earlier : Code) → rank earlier < rank (code_of chosen) → MayRefuse b item None earlier → ⊥
    none earlier before (inl applies) = legal earlier applies
    none earlier before (inr is) = true≢false (sym (ap is_some is))

-- the command of a request at a place
pub fails_alone : (r : Running) (command : RequestCommand) (place : ℕ) (chosen : Option ChosenRefusal) (item : Item) (code : Code) → item ≡ item_at r.results command →
    chosen_at chosen place ≡ None → IsRefused r.board item code → Fails r command place chosen code
fails_alone r command place chosen item code item_is none refused =
    subst (λ (o : Option Refusal). IsRefusedWith r.board (item_at r.results command) o code) (sym none)
    (subst (λ (i : Item). IsRefusedWith r.board i None code) item_is (refused_alone r.board item code refused))

pub fails_chosen : (r : Running) (command : RequestCommand) (place : ℕ) (chosen : Option ChosenRefusal) (refusal : Refusal) (item : Item) (code : Code) →
    item ≡ item_at r.results command → chosen_at chosen place ≡ Some refusal → IsRefusedWith r.board item (Some refusal) code → Fails r command place chosen code
fails_chosen r command place chosen refusal item code item_is is refused =
    subst (λ (o : Option Refusal). IsRefusedWith r.board (item_at r.results command) o code) (sym is)
    (subst (λ (i : Item). IsRefusedWith r.board i (Some refusal) code) item_is refused)
