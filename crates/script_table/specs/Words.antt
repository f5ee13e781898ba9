-- The words of a configuration's steps, as reports write them.
use Rattle.std.specs.Prelude.{ℕ, List, [], ◌++◌, codes, slice_get, unwrap_or}
use Rattle.std.specs.Fmt.{decimal}
use Rattle.mg_names.specs.Words.{kind_text}
use Rattle.mg_model.specs.declared.steps.StepName.{StepName}
use Rattle.mg_model.specs.declared.steps.StepName.TheVariants.{Refuse, Execute, Reply, Observe, Timer}

-- the words of a step, over the names of the script's lines
abbrev pub words_of : List (List ℕ) → StepName → List ℕ
words_of lines (Refuse place) = codes "refuse " ++ decimal place
words_of lines Execute = codes "execute"
words_of lines Reply = codes "reply"
words_of lines (Observe line kind) = unwrap_or (slice_get lines line) [] ++ (codes "." ++ kind_text kind)
words_of lines Timer = codes "timer"
