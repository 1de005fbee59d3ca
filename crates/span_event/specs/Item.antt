-- The numbers of what is wrong with an element of a trace, and when an item is good.
use Rattle.std.specs.Prelude.{ℕ}
use Rattle.span_event.specs.{Event.IsGood, Fault.number_of, declared.{fault.Fault.Fault, item.{Item.{Item, TheVariants.{Good, Bad, Other}}, ItemFault.{ItemFault, TheVariants.{NotObject, NoPhase, NoTime, NotWhole, NoDuration, BadField, NoId, BadReach, BadSeries}}}}}
use Rattle.span_event.specs.declared.fault.Fault.TheVariants as table

-- the fault of the table
abbrev pub as_fault : ItemFault → Fault
as_fault NotObject = table.NotObject
as_fault NoPhase = table.NoPhase
as_fault NoTime = table.NoTime
as_fault NotWhole = table.NotWhole
as_fault NoDuration = table.NoDuration
as_fault (BadField field) = table.BadField
as_fault NoId = table.NoId
as_fault BadReach = table.BadReach
as_fault BadSeries = table.BadSeries

abbrev pub code_of : ItemFault → ℕ
code_of fault = number_of (as_fault fault)

-- the event of an item, if it has one, is good
abbrev pub IsGoodItem : Item → Type 0
IsGoodItem (Good event) = IsGood event
IsGoodItem (Bad fault) = Unit {0}
IsGoodItem Other = Unit {0}
