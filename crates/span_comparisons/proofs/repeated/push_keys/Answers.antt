use Rattle.std.proofs.{Common.{◌≡◌, ◌+◌, List, ◌∷◌, [], ◌++◌, map, take, sym, ap, ap₂, ◌∙◌}, lemmas.List.{flat_map_more, take_more}}
use Rattle.span_comparisons.specs.{Row, TableKey, SpanTable, Spreads.keys_of}
use Rattle.span_comparisons.proofs.repeated.push_keys.Goals as goal

pub loop-table-preserved : goal.loop-table-preserved
loop-table-preserved c =
    let tables = c.args.tables.now in
    let at = c.loop-table.table-index in
    let table = c.table-item.result in
    let before = map (λ key. key.now) c.args.keys.now.items in
    let row_keys = λ (rows : List Row). map (λ (row : Row). row.key) rows in
    let more : take (at + 1) tables ≡ take at tables ++ table ∷ [] =
    take_more tables at table c.loop-table-test.true ∙ ap (λ (t : SpanTable). take at tables ++ t ∷ []) (sym c.table-item.is) in
    c.in_ok-push_row_keys.ensures
    ∙ ap₂ (λ (keys : List TableKey) (rows : List Row). keys ++ row_keys rows) c.loop-table.invariant c.rows.ensures.rows
    ∙ flat_map_more (λ (t : SpanTable). row_keys t.rows) before (take at tables) table
    ∙ ap (λ (ts : List SpanTable). before ++ keys_of ts) (sym more)
