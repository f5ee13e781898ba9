-- Devices over memory that fail where they are told to. A reader should check that a call passes no byte at or behind the stated one, that a call
-- that finds its fuse at 0 fails, as each one after it does, that a call that could pass some bytes passes one at least or fails, and that one that
-- fails changes nothing but its fuse and its count of faults.
use Rattle.std.specs.Prelude.{ℕ, ◌+◌, ◌-◌, ◌==◌, ◌&&◌, nat_lt, min, max, List, [], ◌++◌, length, take, drop, Result, Ok, Err, is_ok, if◌then◌else◌}
use Rattle.program_rim.specs.declared.fused.Fuse.{Fuse}
use Rattle.program_rim.specs.declared.fused.Fuse.TheVariants.{Never, AtByte, AtCall}
use Rattle.program_rim.specs.declared.source.DeviceFault.{DeviceFault}

-- ---- fuses

-- how many of `count` bytes a call passes, or that it fails
abbrev pub passed : Fuse → (count : ℕ) → Result ℕ DeviceFault
passed Never count = Ok count
passed (AtByte byte) count = if byte == 0 then Err (record {}) else Ok (min count byte)
passed (AtCall call) count = if call == 0 then Err (record {}) else Ok count

-- the fuse after a call that could pass `count` bytes: fewer bytes, or one call fewer, till it fails
abbrev pub burnt : Fuse → (count : ℕ) → Fuse
burnt Never count = Never
burnt (AtByte byte) count = AtByte (byte - count)
burnt (AtCall call) count = AtCall (call - 1)

-- how many bytes passed, none where the call failed
abbrev pub count_of : Result ℕ DeviceFault → ℕ
count_of (Ok count) = count
count_of (Err fault) = 0

-- how many faults that is
abbrev pub faults_of : Result ℕ DeviceFault → ℕ
faults_of result = if is_ok result then 0 else 1

-- ---- a source

pub record SourceValue : Type 0 where
  pub left : List ℕ
  -- the most that a read hands out; at 0 it hands out one
  pub most : ℕ
  pub fuse : Fuse
  pub faults : ℕ

abbrev pub new_source : List ℕ → (most : ℕ) → Fuse → SourceValue
new_source bytes most fuse = record { left = bytes; most = most; fuse = fuse; faults = 0 }

-- how many bytes a read into so much room could hand out
abbrev pub within_reach : SourceValue → (room : ℕ) → ℕ
within_reach s room = min (min room (length s.left)) (max s.most 1)

-- how many it hands out, or that it fails
abbrev pub handed : SourceValue → (room : ℕ) → Result ℕ DeviceFault
handed s room = passed s.fuse (within_reach s room)

abbrev pub after_read : SourceValue → (room : ℕ) → SourceValue
after_read s room = record {
  left = drop (count_of (handed s room)) s.left;
  most = s.most;
  fuse = burnt s.fuse (within_reach s room);
  faults = s.faults + faults_of (handed s room);
}

-- ---- a sink

pub record SinkValue : Type 0 where
  pub held : List ℕ
  -- for how many more bytes there is room
  pub room : ℕ
  pub fuse : Fuse
  pub faults : ℕ

abbrev pub new_sink : (room : ℕ) → Fuse → SinkValue
new_sink room fuse = record { held = []; room = room; fuse = fuse; faults = 0 }

-- how many of `count` bytes a write takes, or that it fails; some bytes without room are a fault
abbrev pub taken_into : Fuse → (room count : ℕ) → Result ℕ DeviceFault
taken_into fuse room count = if nat_lt 0 count && (room == 0) then Err (record {}) else passed fuse (min count room)

abbrev pub taken : SinkValue → (count : ℕ) → Result ℕ DeviceFault
taken s count = taken_into s.fuse s.room count

abbrev pub after_write : SinkValue → List ℕ → SinkValue
after_write s bytes = record {
  held = s.held ++ take (count_of (taken s (length bytes))) bytes;
  room = s.room - count_of (taken s (length bytes));
  fuse = burnt s.fuse (min (length bytes) s.room);
  faults = s.faults + faults_of (taken s (length bytes));
}
