use Rattle.std.proofs.Common.{◌≡◌}
use Rattle.span_runs.specs.Names.{names_of}
use Rattle.span_runs.proofs.names.names_of_words.Given as goal

-- the names of the words so far
abbrev pub invariant-loop-word : goal.invariant-loop-word
invariant-loop-word l = l.names.items ≡ names_of l.yielded
