pub mod HashKeys
pub mod Numbering
pub use Rattle.span_event.specs.Text.{Bytes, same_text}
