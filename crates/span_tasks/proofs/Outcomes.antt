-- The outcome of what was made.
use Rattle.std.specs.Prelude.{length, ◌==◌, if◌then◌else◌, Result, Ok, Err}
use Rattle.std.proofs.Common.{ℕ, inl, inr, ap, sym, subst, ◌∙◌}
use Rattle.span_runs.specs.declared.stop.Halt.TheVariants.{Memory, Stopped}
use Rattle.span_tasks.specs.{Bytes, Halt, IsHint, Outcome.{DeliversOne, Ends, IsOf, Outside, PrintsOrStops}, declared.outcome.{Outcome.Outcome, Print.Print}}

-- what is printed, or said of a stop, is what the outcome has
pub Ends-of : (Prints : Bytes → Bytes → Bytes → Type 0) (Stops : Bytes → Type 0) (made : Result Print Halt) (outcome : Outcome) → IsOf made outcome → PrintsOrStops Prints Stops made → Ends Prints Stops outcome
Ends-of Prints Stops (Ok print) outcome (status, text, lines, warnings, hints) (hint, prints) = (
  subst (λ h. IsHint h.items) (sym hints) hint,
  inl (
    status ∙ ap (λ l. if length l.items == 0 then 0 else 1) (sym lines),
    subst (λ w. Prints outcome.output.items outcome.lines.items w.items) (sym warnings)
        (subst (λ l. Prints outcome.output.items l.items print.warnings.items) (sym lines) (subst (λ t. Prints t.items print.lines.items print.warnings.items) (sym text) prints)),
  ),
)
Ends-of Prints Stops (Err (Stopped stop)) outcome (status, text, lines, warnings, hints) (says, hint) = (
  subst (λ h. IsHint h.items) (sym hints) hint,
  inr (status, text, warnings, subst (λ l. Stops l.items) (sym lines) says),
)
Ends-of Prints Stops (Err Memory) outcome is prints = absurd is

-- an outcome that was delivered is one of more
pub DeliversOne-weaker : {Is Other : Outcome → Type 0} {status : ℕ} {old new : Outside} → ((outcome : Outcome) → Is outcome → Other outcome) → DeliversOne Is status old new → DeliversOne Other status old new
DeliversOne-weaker weaker (inl (outcome, is, delivers)) = inl (outcome, weaker outcome is, delivers)
DeliversOne-weaker weaker (inr memory) = inr memory
