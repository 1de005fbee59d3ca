use Rattle.std.proofs.Common.{◌≡◌, take}
use Rattle.span_parts.specs.{picked}
use Rattle.span_parts.proofs.sums.key_at.Given as goal

-- the values at the places so far
abbrev pub invariant-loop-place : goal.invariant-loop-place
invariant-loop-place l = l.values.items ≡ picked (take l.place-index l.places) l.key
