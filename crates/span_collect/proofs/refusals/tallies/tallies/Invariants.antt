use Rattle.std.proofs.Common.{◌≡◌, take}
use Rattle.span_collect.specs.Refusals.Tallies.{tallies_of}
use Rattle.span_collect.proofs.refusals.tallies.tallies.Given as goal

-- the tallies of the entries so far
abbrev pub invariant-loop-position : goal.invariant-loop-position
invariant-loop-position l = l.tallies.entries ≡ tallies_of (take l.position l.ledger.journal)
