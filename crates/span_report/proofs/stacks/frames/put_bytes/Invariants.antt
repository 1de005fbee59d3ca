use Rattle.std.proofs.Common.{◌≡◌, ◌++◌, map, take}
use Rattle.span_report.specs.Stacks.Frames.{frame_byte}
use Rattle.span_report.proofs.stacks.frames.put_bytes.Given as goal

-- those so far
abbrev pub invariant-loop-byte : goal.invariant-loop-byte
invariant-loop-byte l = l.out.items ≡ l.fn.out.items ++ map frame_byte (take l.byte-index l.bytes)
