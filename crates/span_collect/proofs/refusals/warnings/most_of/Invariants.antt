use Rattle.std.proofs.Common.{◌≡◌, map}
use Rattle.span_collect.specs.Refusals.Warnings.{most_of}
use Rattle.span_collect.proofs.refusals.warnings.most_of.Given as goal

-- it is the number that refused most of those that were passed
abbrev pub invariant-loop-code : goal.invariant-loop-code
invariant-loop-code l = l.most ≡ most_of (map (λ e. (e.0.now, e.1.now)) l.yielded)
