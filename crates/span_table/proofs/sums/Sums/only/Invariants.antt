use Rattle.std.proofs.Common.{◌≡◌, map, reverse}
use Rattle.span_table.specs.Sums.{only}
use Rattle.span_table.proofs.sums.Sums.only.Given as goal

-- the numbers so far are there
abbrev pub invariant-loop-number : goal.invariant-loop-number
invariant-loop-number l = l.sums ≡ only (reverse (map (λ number. number.now) l.yielded)) l.self
