pub mod Closed
pub mod Division
pub mod Laws
pub mod Positions
pub mod Segments
pub mod Spans
pub use Rattle.span_event.specs.{Args.Arguments, Event.least_time, Time.{distance, natural}}
