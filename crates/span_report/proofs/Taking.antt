-- What several calls on a sink do together.
use Rattle.std.specs.Io.KnownBytes.{Appends}
use Rattle.std.proofs.{Common.{ℕ, ◌+◌, ◌-◌, ◌≤◌, List, ◌++◌, Option, Some, None, length, take, drop, ap, ◌∙◌, append_assoc, arith, length-drop}, Math.Seq.take-add, lemmas.List.take_rest}
use Rattle.span_report.specs.Sink.{SinkState, TakesBytes}

Appends-append : (a b c : Option (List ℕ)) (xs ys : List ℕ) → Appends a b xs → Appends b c ys → Appends a c (xs ++ ys)
Appends-append None b c xs ys first second = tt
Appends-append (Some known) None c xs ys first second = absurd first
Appends-append (Some known) (Some more) None xs ys first second = second
Appends-append (Some known) (Some more) (Some all) xs ys first second = second ∙ (ap (λ l. l ++ ys) first ∙ append_assoc known xs ys)

TakesBytes-append : (a b c : SinkState) (xs ys : List ℕ) → TakesBytes a b xs → TakesBytes b c ys → TakesBytes a c (xs ++ ys)
TakesBytes-append a b c xs ys first second = record { taken = Appends-append a.taken b.taken c.taken xs ys first.taken second.taken; failures = second.failures ∙ first.failures }

-- a call takes n bytes more of those from a place to the end
pub TakesBytes-next : (a b c : SinkState) (bytes : List ℕ) (at n : ℕ) → (at ≤ length bytes) × TakesBytes a b (take at bytes) → n ≤ length (take (length bytes - at) (drop at bytes)) → TakesBytes b c (take n (take (length bytes - at) (drop at bytes))) → (at + n ≤ length bytes) × TakesBytes a c (take (at + n) bytes)
TakesBytes-next a b c bytes at n first within second =
    let rest = take_rest bytes at in
    (omega (arith, first.0, rw rest at within, length-drop at bytes), rw (take-add at n bytes) (TakesBytes-append a b c _ _ first.1 (rw rest at second)))
