pub mod Async
pub mod AsyncKept
pub mod Counters
pub mod CountersKept
pub mod Fault
pub mod Flow
pub mod FlowKept
pub mod Instants
pub mod InstantsKept
pub mod Keyed
pub mod KeyedKept
pub mod Last
pub mod Matching
pub mod Meta
pub mod MetaKept
pub mod Uses
pub use Rattle.span_event.specs.{Args.{AllWhole, Arguments, IsBelowAll, IsInNameOrder, as_text, as_whole, value_of}, Event.{IsGood, IsTime, greatest_time}, Fault.number_of, Given.Gives, Orders.{id_cmp, reach_cmp, same_id, thread_cmp}, Text.{Bytes, same_text, text_cmp}, Thread.thread_of, Time.{distance, natural}, declared.{args.ArgValue.{ArgValue, TheVariants.{Flag, Nil, Other, Whole, Words}}, event.{Event.Event, IdKey.IdKey, Phase.{Phase, TheVariants.{Counter, Instant}}, Reach.{Reach, TheVariants.{Global, Process}}}, fault.Fault.TheVariants.{EndBeforeBegin, FlowOpen, NoFlow, NoOpenAsync, TimeGoesBack}, thread.Thread.Thread}}
