use Rattle.std.proofs.Common.{◌≡◌, ◌++◌, map, take}
use Rattle.span_report.specs.Stacks.Folded.{stack_frames}
use Rattle.span_report.proofs.stacks.text.put_stack.Given as goal

-- the frames so far
abbrev pub invariant-loop-name : goal.invariant-loop-name
invariant-loop-name l = l.out.items ≡ l.fn.out.items ++ stack_frames (map (λ name. name.now) (take l.name-index l.stack))
