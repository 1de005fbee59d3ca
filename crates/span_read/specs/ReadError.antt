-- The numbers of the refusals of a file.
use Rattle.std.specs.Prelude.{ℕ}
use Rattle.span_read.specs.{Fault, number_of, declared.error.ReadError.{ReadError, TheVariants.{TooLarge, NotJson, NotTrace, TooMany, Memory}}}
use Rattle.span_event.specs.declared.fault.Fault.TheVariants as table

-- the fault of the table
abbrev pub as_fault : ReadError → Fault
as_fault NotJson = table.NotJson
as_fault NotTrace = table.NotTrace
as_fault TooLarge = table.TooLarge
as_fault TooMany = table.TooMany
as_fault Memory = table.Memory

abbrev pub code_of : ReadError → ℕ
code_of error = number_of (as_fault error)
