use Rattle.std.proofs.Common.{List, [], drop, map}
use Rattle.span_stack_sums.specs.{Row, folded_after, Kept.{Exceeds, TakesSums}, Stacks.keyed_stack}
use Rattle.span_stack_sums.proofs.threads.add_frames.Given as goal

-- what the stacks of the frames that are left do to the rows, all do to those at the start
abbrev pub invariant-loop-frame : goal.invariant-loop-frame
invariant-loop-frame l = record {
  rows : (newer : List Row) → TakesSums l.rows newer (map (keyed_stack l.owner.process l.owner.thread) (folded_after (map (λ name. name.now) l.stack.items) (drop l.frame-index l.frames)))
      → TakesSums l.fn.rows newer (map (keyed_stack l.owner.process l.owner.thread) (folded_after [] l.frames));
  full : Exceeds l.rows (map (keyed_stack l.owner.process l.owner.thread) (folded_after (map (λ name. name.now) l.stack.items) (drop l.frame-index l.frames)))
      → Exceeds l.fn.rows (map (keyed_stack l.owner.process l.owner.thread) (folded_after [] l.frames));
}
