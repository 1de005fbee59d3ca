pub mod Holding
pub mod Nearest
pub use Rattle.span_event.specs.Text.{Bytes, same_text, text_cmp}
pub use Rattle.span_self_time.specs.{Laws.{AreSpans, IsApart, is_child}, Spans.{Span, named, outranks}}
pub use Rattle.span_journal.specs.Timed.{Timed}
