-- What a report that could not be written leaves.
use Rattle.std.specs.Prelude.{◌≡◌, ℕ, ◌≤◌, List, length, take}
use Rattle.span_event.specs.declared.fault.Fault.TheVariants.{Output as OutputFault}
use Rattle.span_report.specs.{Memory as MemoryFault, number_of, Sink.{SinkState, Fails}, declared.output.WriteFault.{WriteFault, TheVariants.{Memory, Output}}}

abbrev pub write_code : WriteFault → ℕ
write_code Memory = number_of MemoryFault
write_code (Output written) = number_of OutputFault

-- want of memory leaves the output as it was; a failed output took just the first `written` bytes of the text
abbrev pub WriteLeaves : WriteFault → List ℕ → SinkState → SinkState → Type 0
WriteLeaves Memory text old new = new ≡ old
WriteLeaves (Output written) text old new = (written ≤ length text) × Fails old new (take written text)
