use Rattle.std.specs.Io.KnownBytes.{Consumes}
use Rattle.std.proofs.Common.{◌≡◌, ◌-◌, ◌≤◌, vec_len}
use Rattle.span_tasks.proofs.reading.read_up_to.Given as goal

-- the bytes so far are those that the reader gave
abbrev pub invariant-loop-first : goal.invariant-loop-first
invariant-loop-first g l = record {
  chunk : vec_len l.chunk ≡ 65536;
  within : vec_len l.bytes ≤ l.most;
  given : Consumes (g.R.Read.remaining l.fn.reader) (g.R.Read.remaining l.reader) l.bytes.items;
}

abbrev pub decreases-loop-first : goal.decreases-loop-first
decreases-loop-first g l = l.most - vec_len l.bytes
