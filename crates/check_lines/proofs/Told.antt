-- What is sent is what is told, and what is told is what the program does.
use Rattle.std.proofs.Common.{◌≡◌, ◌∙◌, Option, refl, ap, subst, sym, take, length, ◌⊎◌, inl, inr}
use Rattle.std.proofs.Math.Seq.{take-length}
use Rattle.std.specs.Io.KnownBytes.{Appends}
use Rattle.program_rim.specs.declared.status.Status.{Status}
use Rattle.program_rim.specs.declared.status.Status.TheVariants.{Yes, No, Usage, Unreadable, NoMemory, RunFault, DeviceFailed}
use Rattle.check_lines.specs.Output.{Text, Line, Output, line, written, status_of, no_memory}
use Rattle.program_rim.specs.Statuses.{code_of}
use Rattle.check_lines.specs.Writing.{Sends, Serves, Tells, Writes}

-- the whole of some bytes was sent
pub sent : (old new : Option Text) (bytes : Text) (status : Status) → Appends old new bytes → Sends old new bytes status status
sent old new bytes DeviceFailed p = (length bytes, subst (Appends old new) (sym (take-length bytes)) p)
sent old new bytes Yes p = (p, refl)
sent old new bytes No p = (p, refl)
sent old new bytes Usage p = (p, refl)
sent old new bytes Unreadable p = (p, refl)
sent old new bytes NoMemory p = (p, refl)
sent old new bytes RunFault p = (p, refl)

-- the bytes of an output were sent
pub told : (old new : Option Text) (bytes : Text) (out : Output) (meant status : Status) → bytes ≡ written out
    → code_of meant ≡ status_of out → Sends old new bytes meant status → Writes out old new status
told old new bytes out meant DeviceFailed is code p = (p.0, subst (λ b. Appends old new (take p.0 b)) is p.1)
told old new bytes out meant Yes is code p = (subst (Appends old new) is p.0, ap code_of p.1 ∙ code)
told old new bytes out meant No is code p = (subst (Appends old new) is p.0, ap code_of p.1 ∙ code)
told old new bytes out meant Usage is code p = (subst (Appends old new) is p.0, ap code_of p.1 ∙ code)
told old new bytes out meant Unreadable is code p = (subst (Appends old new) is p.0, ap code_of p.1 ∙ code)
told old new bytes out meant NoMemory is code p = (subst (Appends old new) is p.0, ap code_of p.1 ∙ code)
told old new bytes out meant RunFault is code p = (subst (Appends old new) is p.0, ap code_of p.1 ∙ code)

-- a line that was told is an output that may be written, where it may be or says that there is no memory
may_serve : (Is : Output → Type 0) (l : Line) (held holds : Option Text) (status : Status) → (line l ≡ line no_memory) ⊎ Is (line l)
    → Tells l held holds status → Serves Is held holds status
may_serve Is l held holds status may tells = elim tells.1 [
  | inl same ↦ (line tells.0, subst (λ (m : Line). (line m ≡ line no_memory) ⊎ Is (line m)) (sym same) may, tells.2)
  | inr none ↦ (line tells.0, inl (ap line none), tells.2)
]

pub serves : (Is : Output → Type 0) (l : Line) (held holds : Option Text) (status : Status) → Is (line l) → Tells l held holds status
    → Serves Is held holds status
serves Is l held holds status is tells = may_serve Is l held holds status (inr is) tells

pub serves_none : (Is : Output → Type 0) (held holds : Option Text) (status : Status) → Tells no_memory held holds status → Serves Is held holds status
serves_none Is held holds status tells = may_serve Is no_memory held holds status (inl refl) tells
