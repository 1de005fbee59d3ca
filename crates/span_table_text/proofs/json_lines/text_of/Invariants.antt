use Rattle.std.specs.Prelude.{All, IsUtf8}
use Rattle.std.proofs.Common.{◌≡◌, ◌++◌, length, take, flat_map}
use Rattle.span_table_text.specs.{Json.{json_head, json_line}, Printed.KeyFits}
use Rattle.span_table_text.proofs.json_lines.text_of.Given as goal

-- the first line, and the lines of those so far, whose keys fit
abbrev pub invariant-loop-shown : goal.invariant-loop-shown
invariant-loop-shown l = record {
  text : l.out.items ≡ json_head l.table.schema l.fn.unit (length l.rows) l.table.counts ++ flat_map (json_line l.table.schema) (take l.shown-index l.rows);
  utf8 : IsUtf8 l.out.items;
  keys : All (λ row. KeyFits l.table.schema.columns row.key) (take l.shown-index l.rows);
}
