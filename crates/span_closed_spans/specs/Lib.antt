pub mod Totals
pub mod TotalsKept
pub mod Walk
pub use Rattle.span_event.specs.{Event.least_time, Given.Gives, Time.distance}
pub use Rattle.span_self_time.specs.{Closed.{AreClosed, CanJoin, IsInTime, greatest_until, span_of}, Division.Ways.Divides, Laws.AreSpans, Segments.{AreInOrder, AreSegments, HasEnds, HasSegments, IsRightBefore, has_end, is_end, is_in_segment, is_on_top, lasts, lies_in}, Spans.{Span, busy_time, count_from, covers, earliest, is_covered, is_outranked, latest, length_of, named, names_of, outranks, self_of, self_time, total_of}, declared.{segment.Segment.Segment, span.ClosedSpan.ClosedSpan}}
