-- What comes of a request, and how it reaches the outside.
use Rattle.std.specs.Prelude.{◌≡◌, ℕ, ◌<◌, ◌≤◌, ◌⊎◌, ◌==◌, if◌then◌else◌, [], length, take, Result, Ok, Err, MatchResult}
use Rattle.span_runs.specs.declared.stop.Halt.TheVariants.{Memory, Stopped}
use Rattle.span_tasks.specs.{Bytes, OutputFault, MemoryFault, number_of, SinkState, TakesBytes, Fails, IsHint, run_line, OfStop, Halt, declared.outcome.{Outcome.Outcome, Print.Print}}

-- the outcome has a text, with status 1 if there are fault lines, else 0; or it stopped with 2, and there is no text, nor a warning
abbrev pub Ends : (Bytes → Bytes → Bytes → Type 0) → (Bytes → Type 0) → Outcome → Type 0
Ends Prints Stops outcome = IsHint outcome.hints.items
    × (((outcome.status ≡ (if length outcome.lines.items == 0 then 0 else 1)) × Prints outcome.output.items outcome.lines.items outcome.warnings.items)
    ⊎ ((outcome.status ≡ 2) × (outcome.output.items ≡ []) × (outcome.warnings.items ≡ []) × Stops outcome.lines.items))

-- a text is printed, with these lines and warnings behind it, or something stopped; in both cases perhaps with hints
abbrev pub PrintsOrStops : (Bytes → Bytes → Bytes → Type 0) → (Bytes → Type 0) → Result Print Halt → Type 0
PrintsOrStops Prints Stops made = MatchResult made (λ print. IsHint print.hints.items × Prints print.text.items print.lines.items print.warnings.items) (OfStop Stops)

-- the outcome is that of what was made
abbrev pub IsOf : Result Print Halt → Outcome → Type 0
IsOf (Ok print) outcome = (outcome.status ≡ (if length print.lines.items == 0 then 0 else 1)) × (outcome.output ≡ print.text) × (outcome.lines ≡ print.lines) × (outcome.warnings ≡ print.warnings) × (outcome.hints ≡ print.hints)
IsOf (Err (Stopped stop)) outcome = (outcome.status ≡ 2) × (outcome.output.items ≡ []) × (outcome.lines ≡ stop.lines) × (outcome.warnings.items ≡ []) × (outcome.hints ≡ stop.hints)
IsOf (Err Memory) outcome = ⊥

-- what stands outside: what the output took, and what was said
pub record Outside : Type 0 where
  pub output : SinkState
  pub lines : SinkState

-- the text was written, or the output failed after its first bytes
abbrev pub Says : Bytes → SinkState → SinkState → Type 0
Says text old new = TakesBytes old new text ⊎ ((written : ℕ) × (written ≤ length text) × Fails old new (take written text))

-- the lines were said, then the warnings, and then perhaps a hint
abbrev pub SaysAndHints : Bytes → Bytes → SinkState → SinkState → Type 0
SaysAndHints lines warnings old new = (said warned : SinkState) × (hint : Bytes) × Says lines old said × Says warnings said warned × IsHint hint × Says hint warned new

-- all of an outcome reached the outside: its text, unless it stopped, and then its lines and warnings
pub record DeliversAll (outcome : Outcome) (status : ℕ) (old new : Outside) : Type 0 where
  pub ended : status ≡ outcome.status
  pub written : status < 2 → TakesBytes old.output new.output outcome.output.items
  pub silent : status ≡ 2 → new.output ≡ old.output
  pub said : SaysAndHints outcome.lines.items outcome.warnings.items old.lines new.lines

-- the output failed: it took just the first bytes of the text, and that is said
pub record DeliversFirst (outcome : Outcome) (status : ℕ) (old new : Outside) : Type 0 where
  pub ended : status ≡ 2
  pub printed : outcome.status < 2
  pub written : ℕ
  pub within : written ≤ length outcome.output.items
  pub taken : Fails old.output new.output (take written outcome.output.items)
  pub said : Says (run_line (number_of OutputFault)) old.lines new.lines

-- an outcome reached the outside, all of it or as far as the output took it
abbrev pub Delivers : Outcome → ℕ → Outside → Outside → Type 0
Delivers outcome status old new = DeliversAll outcome status old new ⊎ DeliversFirst outcome status old new

-- memory was refused: nothing was written, and that is said
pub record LacksMemory (status : ℕ) (old new : Outside) : Type 0 where
  pub ended : status ≡ 2
  pub silent : new.output ≡ old.output
  pub said : Says (run_line (number_of MemoryFault)) old.lines new.lines

-- one of these outcomes was delivered, or memory was refused
abbrev pub DeliversOne : (Outcome → Type 0) → ℕ → Outside → Outside → Type 0
DeliversOne Is status old new = ((outcome : Outcome) × Is outcome × Delivers outcome status old new) ⊎ LacksMemory status old new
