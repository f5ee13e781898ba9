-- What a reader of documents returns. A reader should check that every answer but want of memory is a right one.
use Rattle.std.specs.Prelude.{Result, Ok, Err}
use Rattle.typed_values.specs.declared.unread.Unread.{Unread}
use Rattle.typed_values.specs.declared.unread.Unread.TheVariants.{Fault, NoMemory}

-- the answer is a right one, or says that memory ran out
abbrev pub OrNoMemory : {A F : Type 0} → (Result A F → Type 0) → Result A (Unread F) → Type 0
OrNoMemory IsRight (Ok x) = IsRight (Ok x)
OrNoMemory IsRight (Err (Fault fault)) = IsRight (Err fault)
OrNoMemory IsRight (Err NoMemory) = Unit {0}
