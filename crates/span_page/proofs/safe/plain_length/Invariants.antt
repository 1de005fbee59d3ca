use Rattle.std.proofs.Common.{◌≡◌, ◌≤◌, ◌-◌, ◌++◌, length, take, drop}
use Rattle.span_page.specs.Safe.{safe}
use Rattle.span_page.proofs.safe.plain_length.Given as goal

-- the bytes so far stand for themselves
abbrev pub invariant-loop-plain : goal.invariant-loop-plain
invariant-loop-plain l = (l.plain ≤ length l.text) × (safe l.text ≡ take l.plain l.text ++ safe (drop l.plain l.text))

abbrev pub decreases-loop-plain : goal.decreases-loop-plain
decreases-loop-plain l = length l.text - l.plain
