pub mod Conditions
pub mod Laws
pub mod Narrowed
pub use Rattle.span_event.specs.{Text.Bytes, declared.args.ArgValue.TheVariants.{Flag, Nil, Other, Whole, Words}}
pub use Rattle.span_table.specs.{Keyed, Adding.{add_tables, keyed_rows}, Columns.{Run, Value}, Keys.TableKey, Tables.{KeyedSums, RowsRise, Schema, SpanTable, rows_of, table_of}, declared.{column.Column.{Column, TheVariants.{Argument, Name, ParentArgument, ParentName}}, sums.Sums.Sums}}
pub use Rattle.span_table_text.specs.Shown.{has_bytes}
