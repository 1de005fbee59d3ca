pub mod First
pub mod Guess
pub mod Rows
pub mod Sum
pub use Rattle.span_event.specs.{Text.Bytes, declared.{args.ArgValue.{ArgValue, TheVariants.Whole}, unit.Unit.Unit}}
pub use Rattle.span_table.specs.{Adding.{AreAmong, Choice, add_tables, chosen_from, keyed_by, keyed_rows, picked, schema_by, with_counts, with_row}, Columns.{Value, column_name, is_column, is_key}, Counts.counts_fit, KeyLaws.key_cmp_total, Keys.{TableKey, key_cmp}, Numbers.{are_same, has_number, number_name, usual_numbers}, Sums.{fit, only}, Tables.{KeyedSums, RowsRise, Run, Schema, SpanTable, counts_together, rows_of, table_of}, declared.{audience.Audience.TheVariants.Programs, number.Number.Number, column.Column.Column, counts.TableCounts.TableCounts, of.Of.Of, sums.Sums.Sums, table.Row.Row}}
unfoldable pub use Rattle.span_table_text.specs.Json.{json_head, json_line}
pub use Rattle.span_table_text.specs.{AskedNumbers.shown_numbers, Json.shown_table, Printed.{AreColumns, AreDistinct, AreNumbers, IsSchema, counted, counts_of, HasSome, IsKeyOf, IsOfArgument, IsPart, IsPrint, IsRowOf, IsTable, IsWhole, MayHave}, Shown.Wanted, Tokens.{entry_counts_tokens, head_tokens, key_tokens, list_tokens, name_tokens, number_tokens, numbers_tokens, of_tokens, row_tokens, sums_tokens, unit_tokens, value_tokens}, declared.asked_numbers.AskedNumbers.AskedNumbers}
