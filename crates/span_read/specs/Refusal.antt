-- Why an event isn't made; for private clauses.
use Rattle.std.specs.Prelude.{◌≡◌, Option, Some, ⊤}
use Rattle.span_read.specs.{ItemFault, declared.error.refusal.Refusal.{Refusal, TheVariants.{Fault, Memory}}}

-- the refusal is for that fault, or for want of memory
abbrev pub IsForFault : Option ItemFault → Refusal → Type 0
IsForFault fault (Fault given) = fault ≡ Some given
IsForFault fault Memory = ⊤
