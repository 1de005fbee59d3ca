pub mod Asked
pub mod Columns
pub mod Conditions
pub mod Laws
pub mod Lists
pub mod Numbers
pub mod Request
pub mod Rules
pub mod Tasks
pub mod Texts
pub use Rattle.span_event.specs.{Text.Bytes, declared.unit.Unit.{Unit, TheVariants.{Microseconds, Nanoseconds}}}
pub use Rattle.span_read.specs.{Document.{format_of, large_format}, declared.format.Format.Format}
pub use Rattle.span_report.specs.declared.stacks.label.SpanColumn.{SpanColumn}
pub use Rattle.span_collect.specs.declared.settings.Settings.{Settings}
pub use Rattle.span_table.specs.{Columns.{column_name, goes_with, is_argument, is_column}, Numbers.{all_of, has_number, number_name, number_named, usual_numbers}, declared.{audience.Audience.{Audience, TheVariants.{People, Programs}}, column.Column.{Column, TheVariants.{Argument, Cat, File, Name, Pid, Process, Thread, Tid}}, number.Number.Number, of.Of.{Of, TheVariants.{Async, Spans}}}}
pub use Rattle.span_table_text.specs.{AskedNumbers.{shown_numbers}, Printed.{AreColumns, AreDistinct, AreNumbers}, declared.asked_numbers.AskedNumbers.AskedNumbers}
pub use Rattle.span_narrowing.specs.declared.{conditions.Condition.Condition, narrowing.Narrowing.Narrowing}
pub use Rattle.span_runs.specs.{Names.{is_standard, names_of}, declared.names.Named.Named}
pub use Rattle.span_options.specs.{Laws.is_plain, Parsing.ParsesTo, declared.options.Options.Options}
