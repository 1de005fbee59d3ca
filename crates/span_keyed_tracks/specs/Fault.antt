-- What a track refuses.
use Rattle.std.specs.Prelude.{◌≡◌, ◌≢◌, ℕ, Option, Some, None, Result, Ok, Err, IfErr}
use Rattle.span_event.specs.declared.fault.Fault.{Fault}
use Rattle.span_keyed_tracks.specs.{number_of, declared.fault.TrackFault.{TrackFault, TheVariants.{Refused, Memory}}}

-- the number with which an event is refused, where what it comes to is a fault
abbrev pub refusal_of : {A : Type 0} → Result A Fault → Option ℕ
refusal_of (Ok a) = None
refusal_of (Err fault) = Some (number_of fault)

-- the call answers this refusal, where there is one; want of memory is answered only where there is none
abbrev pub Answers : {A : Type 0} → Result A TrackFault → Option ℕ → Type 0
Answers (Ok a) refusal = refusal ≡ None
Answers (Err (Refused code)) refusal = refusal ≡ Some code
Answers (Err Memory) refusal = refusal ≡ None

-- memory is never refused
abbrev pub TakesNoMemory : {A : Type 0} → Result A TrackFault → Type 0
TakesNoMemory result = IfErr result (λ fault. fault ≢ Memory)
