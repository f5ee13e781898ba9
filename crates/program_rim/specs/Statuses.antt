-- The exit statuses by number. A reader should compare them with the page on formats.
use Rattle.std.specs.Prelude.{ℕ}
use Rattle.program_rim.specs.declared.status.Status.{Status}
use Rattle.program_rim.specs.declared.status.Status.TheVariants.{Yes, No, Usage, Unreadable, NoMemory, RunFault, DeviceFailed}

abbrev pub code_of : Status → ℕ
code_of Yes = 0
code_of No = 1
code_of Usage = 2
code_of Unreadable = 3
code_of NoMemory = 4
code_of RunFault = 5
code_of DeviceFailed = 6

-- how many faults of a device a status stands for
abbrev pub failures_of : Status → ℕ
failures_of DeviceFailed = 1
failures_of _ = 0
