pub mod Callers
pub mod Entries
pub mod Turns
pub mod Steps
pub mod Seats
pub use Rattle.span_event.specs.{Fault.number_of, Item.IsGoodItem, declared.fault.Fault.TheVariants.CallersFull}
pub use Rattle.span_journal.specs.{Legal.{IsLawful, IsLegal, Kept}, declared.{entry.{Answer.Answer, Entry.Entry, Op.{Op, TheVariants.{Ask, One, Seal}}}, refusal.{Back.Back, Cause.{Cause, TheVariants.{Busy, Full, Memory}}}}}
