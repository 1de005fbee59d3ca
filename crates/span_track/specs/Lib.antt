pub mod Kept
pub mod Nesting
pub mod Thread
pub use Rattle.span_event.specs.{Args.merged, Event.{IsTime, greatest_time, least_time}, Given.Gives, declared.fault.Fault.{Fault, TheVariants.{NameDiffers, NoOpenSpan, TimeGoesBack}}}
pub use Rattle.span_self_time.specs.{Closed.{AreClosed, CanJoin, IsInTime, greatest_until, span_of}, Laws.AreSpans, Positions.renumbered_span, Segments.{AreSegments, HasEnds, HasSegments, lasts}, Spans.{Arguments, Span, busy_time, names_of, self_of, self_time}}
pub use Rattle.span_closed_spans.specs.Totals.{total_for}
pub use Rattle.span_keyed_tracks.specs.{Fault.{Answers, refusal_of}, Last.{last_of, without_last}, Matching.{Step, closes, closes_all, map_step, opens, other}}
