use Rattle.std.proofs.Common.{◌≡◌, drop}
use Rattle.span_read.specs.Document.{opens_with}
use Rattle.span_read.proofs.candidates.opens_with.Given as goal

-- the bytes passed so far are blank
abbrev pub invariant-loop-byte : goal.invariant-loop-byte
invariant-loop-byte l = opens_with l.mark l.text ≡ opens_with l.mark (drop l.byte-index l.text)
