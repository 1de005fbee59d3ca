pub mod Changed
pub mod Changes
pub mod Comparison
pub mod First
pub mod JsonChanges
pub mod Laws
pub mod Repeats
pub mod Sides
pub mod Spreads
pub use Rattle.span_event.specs.{Text.Bytes, declared.unit.Unit.Unit}
pub use Rattle.span_keyed_tracks.specs.Keyed.{ascending}
pub use Rattle.span_journal.specs.declared.rows.CountRow.{CountRow}
unfoldable pub use Rattle.span_report.specs.Lines.{count_line, first_line, seals_line, unit_line}
pub use Rattle.span_report.specs.Lines.{line_of}
pub use Rattle.span_table.specs.{Counts.counts_fit, KeyLaws.{key_cmp-same, key_cmp_total, key_eq-same}, Keys.{TableKey, key_cmp}, Numbers.{are_same, has_number, is_time, number_name, usual_numbers}, RowSearch.{found_at, sums_at}, Sums.{fit, no_sums, number_by, same_sums}, Tables.{RowsRise, Schema, SpanTable, counts_together, usual_schema}, declared.{audience.Audience.TheVariants.People, column.Column.Column, counts.TableCounts.TableCounts, number.Number.{Number, TheVariants.{Closed, Open, Points}}, sums.Sums.Sums, table.Row.Row}}
pub use Rattle.span_table_text.specs.{Rows.{Cell, number_cell}, Shown.{Wanted, is_wanted, shown_rows}, Tokens.{Appends, Follow, counts_tokens, key_tokens, number_tokens, start_tokens, token_line}, declared.json_lines.JsonFault.{JsonFault, TheVariants.TooGreat}}
unfoldable pub use Rattle.span_table_text.specs.{Lines.{runs_line, shown_line}, Rows.{row_line, titles_line}}
