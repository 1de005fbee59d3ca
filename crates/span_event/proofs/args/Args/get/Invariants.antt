use Rattle.std.proofs.Common.{◌≡◌, drop}
use Rattle.span_event.specs.Args.{value_of}
use Rattle.span_event.proofs.args.Args.get.Given as goal

-- the pairs passed so far don't have the name
abbrev pub invariant-loop-key : goal.invariant-loop-key
invariant-loop-key l = value_of l.name l.key-items ≡ value_of l.name (drop l.key-index l.key-items)
