use Rattle.std.proofs.Common.{◌≡◌, ◌+◌, ◌++◌, [], List}
use Rattle.span_report.specs.Stacks.{Bounds.{frames_of, names_in}, Descent.last_visited, Folded.stack_lines, Framed.{Framed, folded_after}}
use Rattle.span_report.proofs.StackLemmas.Counting.{AreVisited, above}
use Rattle.span_report.proofs.stacks.text.put_stacks.Given as goal

-- some frames were visited: their lines are there, and their names were taken
abbrev pub invariant-loop-descent : goal.invariant-loop-descent
invariant-loop-descent l =
    (frames : List Framed) × AreVisited l.fn.spans.items frames l.descent
    × (l.out.items ≡ l.fn.out.items ++ stack_lines l.start (folded_after [] frames))
    × (l.left + names_in (folded_after [] frames) ≡ l.fn.left)

-- the frames that are above the last one
abbrev pub decreases-loop-descent : goal.decreases-loop-descent
decreases-loop-descent l = above (last_visited l.descent) (frames_of l.fn.spans.items)
