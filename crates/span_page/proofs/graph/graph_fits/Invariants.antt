use Rattle.std.proofs.Common.{◌≡◌, [], ◌+◌, drop, map}
use Rattle.span_page.specs.{Data.most_frames, Graph.{folded_row, frames_after, value_label}}
use Rattle.span_page.proofs.graph.graph_fits.Given as goal

-- the frames so far were taken from those that there may be
abbrev pub invariant-loop-row : goal.invariant-loop-row
invariant-loop-row l = l.left + frames_after [] (map folded_row l.rows) ≡ most_frames + frames_after (map value_label l.before) (map folded_row (drop l.row-index l.rows))
