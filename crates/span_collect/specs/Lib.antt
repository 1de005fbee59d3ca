pub mod Account
pub mod Collection
pub mod FaultLines
pub mod InTurn
pub mod Refusals
pub mod Run
pub mod Seals
pub mod Words
pub mod Work
unfoldable pub use Rattle.span_event.specs.Fault.{fault_of}
pub use Rattle.span_event.specs.{Fault.{number_of, word_of}, Item.IsGoodItem, declared.{event.Event.Event, fault.Fault.TheVariants.{FileCount, NotStarted, Unaccounted}, item.Item.{Item, TheVariants.{Bad, Good, Other}}, unit.Unit.Unit}}
pub use Rattle.span_read.specs.{Document.doc, ReadError.code_of, declared.{error.ReadError.ReadError, format.Format.Format}}
pub use Rattle.span_keyed_tracks.specs.Keyed.{Keyed, entries_in, kept_at, steps_at}
pub use Rattle.span_track.specs.Nesting.{latest_time}
unfoldable pub use Rattle.span_journal.specs.Answers.{answer_to}
pub use Rattle.span_journal.specs.{Journal.{Act, a_seal, accepted_by, accepted_from, act_in, an_event, placed}, Kind.{is_accepting, is_of, same_kind}, Legal.{IsGoodOp, IsLawful, IsLegal, Kept, calls_of, journal_after, next_entry, sequential}, Order.thread_of_row, Replies.reply_to, Rows.{count_of, count_row, counted, thread_rows}, Told.thread_events, Topics.{AnswersFollowFromActs, AreAlike, RowsFollowFromActs, Topic, acts_on, concerns}, declared.{entry.{Answer.{Answer, TheVariants.{Refused, Reply}}, Entry.Entry, Op.{Op, TheVariants.{Ask, One, Seal}}}, kind.Kind.{Kind, TheVariants.{Accepted, Refused as refused_kind, Replied, Sealed, Skipped}}, query.Query.Query, refusal.Cause.{Cause, TheVariants.{Busy, Full, Memory}}, rows.{CountRow.CountRow, ThreadRow.ThreadRow}}}
pub use Rattle.span_share.specs.{Callers.{AreDistinct, BeginsWith, calls}, Entries.{caller_of, entry}, Seats.{Closes, Enrols, Gathers, IsCauseAt, IsSeatOf, Keeps, Records, Seated, ShareId, mine}, declared.{book.Receipt.Receipt, share.ShareError.ShareError, turn.Terms.Terms}}
unfoldable pub use Rattle.span_report.specs.Lines.{json_text_of}
pub use Rattle.span_report.specs.{Lines.{line_of, right_in}, Output.WriteLeaves, Report.{head_lines, report_of}, Sink.{Fails, SinkState, TakesBytes}, declared.output.WriteFault.TheVariants.Output}
