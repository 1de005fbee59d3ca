-- How a name is written as a frame of a line.
use Rattle.std.specs.{Fmt.signed_decimal, Prelude.{ℕ, nat_eq, nat_lt, if◌then◌else◌, ℤ, List, length, map, Option, Some, None, codes}}
use Rattle.span_report.specs.{Bytes}

-- `:` in the place of `;`, which separates frames, and a blank in the place of each byte below 32
abbrev pub frame_byte : ℕ → ℕ
frame_byte byte = if nat_eq byte 59 then 58 else if nat_lt byte 32 then 32 else byte

-- a name as a frame: `-` where it is empty
unfoldable pub frame : Bytes → List ℕ
frame name = if nat_eq (length name) 0 then codes "-" else map frame_byte name

-- the frame of a process or a thread: its name, or its number where it has none
unfoldable pub owner_frame : ℤ → Option Bytes → List ℕ
owner_frame number None = signed_decimal number
owner_frame number (Some name) = frame name
