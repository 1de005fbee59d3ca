use Rattle.std.specs.List.{join_with_byte}
use Rattle.std.proofs.Common.{◌≡◌, ◌⊎◌, ◌++◌, ◌∷◌, [], drop, map, string_bytes}
use Rattle.span_page.specs.{Coded.coded_after, Data.stack_json, Graph.{folded_row, value_label}}
use Rattle.span_page.proofs.Joined.{joined_after}
use Rattle.span_page.proofs.graph.put_rows.Given as goal

-- what is appended, and then what the rest gives, is all
abbrev pub invariant-loop-row : goal.invariant-loop-row
invariant-loop-row l = record {
  comma : (l.comma ≡ []) ⊎ (l.comma ≡ 44 ∷ []);
  all : string_bytes l.out ++ joined_after l.comma (map stack_json (coded_after (map value_label l.before) (map folded_row (drop l.row-index l.rows))))
      ≡ string_bytes l.fn.out ++ join_with_byte 44 (map stack_json (coded_after [] (map folded_row l.rows)));
}
