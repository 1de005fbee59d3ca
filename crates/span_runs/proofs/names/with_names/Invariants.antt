use Rattle.std.proofs.Common.{◌≡◌, ◌++◌, drop}
use Rattle.span_runs.specs.{Listing.names_from, Names.names_in}
use Rattle.span_runs.proofs.names.with_names.Given as goal

-- the names so far, and those of the one begun and the rest, are all
abbrev pub invariant-loop-byte : goal.invariant-loop-byte
invariant-loop-byte l = l.names.items ++ names_from l.separator l.begun.items (drop l.byte-index l.bytes) ≡ l.fn.given.items ++ names_in l.bytes
