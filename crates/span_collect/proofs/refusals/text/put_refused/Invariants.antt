use Rattle.std.proofs.Common.{◌≡◌, ◌++◌, flat_map, string_bytes, map}
use Rattle.span_collect.specs.Refusals.Text.{refused_line}
use Rattle.span_collect.proofs.refusals.text.put_refused.Given as goal

-- the lines of the numbers that were passed
abbrev pub invariant-loop-code : goal.invariant-loop-code
invariant-loop-code l = string_bytes l.out ≡ string_bytes l.fn.out ++ flat_map (refused_line l.name) (map (λ e. (e.0.now, e.1.now)) l.yielded)
