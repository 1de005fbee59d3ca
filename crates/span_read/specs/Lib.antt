pub mod ArgMap
pub mod Blocks
pub mod Decimals
pub mod Divided
pub mod Document
pub mod Element
pub mod Elements
pub mod Ending
pub mod Fields
pub mod Parts
pub mod Phase
pub mod ReadError
pub mod Refusal
pub mod Slots
pub mod Time
pub mod Tokens
pub use Rattle.span_event.specs.{Args.{AllWhole, Arguments, IsBelowAll, IsInNameOrder, all_whole, as_text, as_whole, value_of}, Event.{IsGoodAt, IsKnownAt, IsTime, greatest_time}, Fault.number_of, Item.IsGoodItem, Text.{Bytes, same_text, text_cmp}, Time.natural, declared.{args.ArgValue.{ArgValue, TheVariants.{Flag, Nil, Other, Whole, Words}}, event.{Event.Event, IdKey.IdKey, Phase.TheVariants.{AsyncBegin, AsyncEnd, AsyncPoint, Complete, Counter, FlowEnd, FlowStart, FlowStep, Instant, Meta, SpanBegin, SpanEnd}, Reach.{Reach, TheVariants.{Global, Process, Thread}}}, fault.Fault.Fault, item.{Field.{Field, TheVariants.{Cat, Id, Name, Pid, Scope, Tid}}, Item.{Item, TheVariants.{Bad, Good}}, ItemFault.{ItemFault, TheVariants.{BadField, BadReach, BadSeries, NoDuration, NoId, NoPhase, NoTime, NotObject, NotWhole}}}, unit.Unit.{Unit, TheVariants.{Microseconds, Nanoseconds}}}}
