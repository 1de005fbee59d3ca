pub mod Added
pub mod Fleet
pub mod Outcome
pub mod Pages
pub mod ReadBack
pub mod Reading
pub mod Requests
pub mod Sides
pub mod Stacks
pub mod Summed
pub mod Tabulations
pub mod Texts
pub mod Together
pub mod Warnings
unfoldable pub use Rattle.span_event.specs.Fault.{fault_of}
pub use Rattle.span_event.specs.{Fault.number_of, Text.Bytes, declared.{fault.Fault.TheVariants.{FileCount as FileCountFault, Memory as MemoryFault, NotTable as NotTableFault, OtherColumns as OtherColumnsFault, Output as OutputFault, PageTooLarge as PageTooLargeFault, StacksTooLarge as StacksFault, TooGreat as TooGreatFault}, unit.Unit.{Unit, Unit as TimeUnit}}}
pub use Rattle.span_journal.specs.declared.entry.Entry.{Entry}
pub use Rattle.span_report.specs.{Report.report_of, Sink.{Fails, SinkState, TakesBytes}, Stacks.{Bounds.most_names, Folded.{folded_of, names_of}}, declared.stacks.label.SpanColumn.SpanColumn}
pub use Rattle.span_collect.specs.{InTurn.{AreSeparate, ends_from, journal_in_turn, text_in_turn}, Refusals.{Text.refusals_of, Warnings.warnings_of}, Run.{IsNotCollected, TextOf, run_code, status_of}, Seals.SealedAccount, declared.{files.{FileEnd.FileEnd, Input.Input}, queries.Asked.Asked, refusals.warnings.Warning.Warning, runs.RunError.RunError, sealing.Sealing.Sealing, settings.Settings.Settings}}
unfoldable pub use Rattle.span_collect.specs.{FaultLines.fault_line, Words.numbered}
unfoldable pub use Rattle.span_report.specs.Lines.{json_text_of}
unfoldable pub use Rattle.span_page.specs.{Page.page_of, Runs.page_of_runs}
pub use Rattle.span_page.specs.{Bounds.{IsTooLong, most_bytes}, Runs.{BegunPage, Holds, ShownRun, TakesRun}}
pub use Rattle.span_table.specs.{Adding.{IsSumOf, schema_by}, Columns.{Run, column_name}, Numbers.usual_numbers, Tables.{KeyedSums, Schema, SpanTable, rows_of, table_of}, declared.{audience.Audience.TheVariants.Programs, column.Column.Column, number.Number.Number, table.Row.Row}}
pub use Rattle.span_table_text.specs.{AskedNumbers.{leading_number, shown_numbers}, Json.{json_fits, json_of, shown_table}, Printed.{AllFit, AreColumns, IsPart, IsPrint, IsSchema}, Ranking.ranking_of, Shown.Wanted, declared.asked_numbers.AskedNumbers.AskedNumbers}
pub use Rattle.span_narrowing.specs.{Narrowed.{is_plain, narrowed, shown_schema, summed_by, summed_schema}, declared.narrowing.Narrowing.Narrowing}
pub use Rattle.span_stack_sums.specs.{Stacks.{IsStackSum, Stands, stacks_of}, Text.{IsTextOf, labels_in}}
pub use Rattle.span_comparisons.specs.{Comparison.comparison_of, JsonChanges.{json_changes_fit, json_comparison_of}, Repeats.{json_repeats_fit, json_repeats_of, repeats_of}}
pub use Rattle.span_faults.specs.{FaultLines.{IsHint, fault_text, run_line, unread_line}, Warnings.warning_lines}
pub use Rattle.span_runs.specs.{Apart.{AddsFile, AreGathered, GathersFiles, IsAccounted, IsFileRun, run_alone}, Folders.{AreFilesOf, Folder.unknown, SourceFolders, StopsListing}, Inputs.{AreInputs, IsInput}, Jobs.places, Names.{AreNamed, SaysOfNames}, Runs.{run_in_turn, run_of_files, shorter, shortened, table_of_run}, Source.{AreBegun, AreFirst, BeginOtherwise, SourceBytes, printed}, Stops.{GathersOrStops, OfStop, StopsAfter, StopsAmong}, declared.{file_run.FileRun.FileRun, folders.Listed.Listed, gathered.Gathered.Gathered, said.Said.Said, names.Named.Named, source.Name.Name, stop.Halt.Halt}}
pub use Rattle.span_parts.specs.Sum.{AreAt, AreParts, Asked as AskedParts, Chooses, HasOtherSchema, HasSchema, IsNoPart, LacksAsked, PartSum, SumsParts, TakesNone, TakesPart, chosen}
pub use Rattle.span_request.specs.{Request.AsksFor, declared.{tasks.{Items.Items, TableText.TableText, Tabulation.Tabulation}, views.{ComparisonForm.ComparisonForm, PageView.PageView, RepeatsForm.RepeatsForm, TableForm.{TableForm, TheVariants.{Json, Ranking}}, TableOptions.TableOptions}}}
