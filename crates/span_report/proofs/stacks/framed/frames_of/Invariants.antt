use Rattle.std.proofs.Common.{◌-◌, ◌≤◌, length}
use Rattle.span_report.proofs.StackLemmas.Counting.{AreVisited}
use Rattle.span_report.proofs.stacks.framed.frames_of.Given as goal

-- the frames so far were visited, and are no more than may be
abbrev pub invariant-loop-frames : goal.invariant-loop-frames
invariant-loop-frames l = record { visited : AreVisited l.fn.spans.items l.frames.items l.descent; fits : length l.frames.items ≤ l.most }

abbrev pub decreases-loop-frames : goal.decreases-loop-frames
decreases-loop-frames l = l.most - length l.frames.items
