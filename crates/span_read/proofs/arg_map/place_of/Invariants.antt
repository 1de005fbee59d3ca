use Rattle.std.proofs.Common.{length}
use Rattle.span_read.proofs.ArgMaps.{IsPassed}
use Rattle.span_read.proofs.arg_map.place_of.Given as goal

-- the pairs so far come before the name
abbrev pub invariant-pairs : goal.invariant-pairs
invariant-pairs l = IsPassed l.fn.pairs l.fn.name l.place l.rest

abbrev pub decreases-pairs : goal.decreases-pairs
decreases-pairs l = length l.rest
