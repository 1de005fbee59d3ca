use Rattle.std.proofs.Common.{◌≡◌, ◌++◌, string_bytes, take, flat_map}
use Rattle.span_table_text.specs.Ranking.{ranked_line}
use Rattle.span_table_text.proofs.rankings.put_rows.Given as goal

-- the lines of those so far
abbrev pub invariant-loop-ranked : goal.invariant-loop-ranked
invariant-loop-ranked l = string_bytes l.out ≡ string_bytes l.fn.out ++ flat_map (ranked_line l.schema) (take l.ranked-index l.rows)
