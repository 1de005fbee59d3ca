-- When an event is one that the format's fields give.
use Rattle.std.specs.Prelude.{◌≡◌, ℕ, [], ℤ, pos, negsuc, ◌≤ℤ◌, ◌≤◌, ◌⊎◌, IsSome, IfSome, Some, None}
use Rattle.span_event.specs.{Args.AllWhole, declared.event.{Event.Event, IdKey.IdKey, Phase.{Phase, TheVariants.{SpanBegin, SpanEnd, Complete, AsyncBegin, AsyncPoint, AsyncEnd, FlowStart, FlowStep, FlowEnd, Counter, Instant, Meta}}}}

-- the greatest time and length, in the unit of the run: 2^62 - 1, so that the end of an event stays below 2^63
abbrev pub greatest_time : ℕ
greatest_time = 4611686018427387903

-- the least time: -(2^62 - 1)
abbrev pub least_time : ℤ
least_time = negsuc 4611686018427387902

abbrev pub IsTime : ℤ → Type 0
IsTime t = (least_time ≤ℤ t) × (t ≤ℤ pos greatest_time)

-- an id is known everywhere, or in the event's process alone
abbrev pub IsKnownAt : ℤ → IdKey → Type 0
IsKnownAt pid key = (key.home ≡ None) ⊎ (key.home ≡ Some pid)

-- the fields that only some phases read
abbrev pub IsGoodAt : Phase → Event → Type 0
IsGoodAt SpanBegin e = (e.dur ≡ 0) × (e.key ≡ None) × (e.scope ≡ []) × (e.reach ≡ None)
IsGoodAt SpanEnd e = (e.dur ≡ 0) × (e.key ≡ None) × (e.scope ≡ []) × (e.reach ≡ None)
IsGoodAt Complete e = (e.dur ≤ greatest_time) × (e.key ≡ None) × (e.scope ≡ []) × (e.reach ≡ None)
IsGoodAt AsyncBegin e = (e.dur ≡ 0) × IsSome e.key × (e.reach ≡ None)
IsGoodAt AsyncPoint e = (e.dur ≡ 0) × IsSome e.key × (e.reach ≡ None)
IsGoodAt AsyncEnd e = (e.dur ≡ 0) × IsSome e.key × (e.reach ≡ None)
IsGoodAt FlowStart e = (e.dur ≡ 0) × IsSome e.key × (e.scope ≡ []) × (e.reach ≡ None)
IsGoodAt FlowStep e = (e.dur ≡ 0) × IsSome e.key × (e.scope ≡ []) × (e.reach ≡ None)
IsGoodAt FlowEnd e = (e.dur ≡ 0) × IsSome e.key × (e.scope ≡ []) × (e.reach ≡ None)
IsGoodAt Counter e = (e.dur ≡ 0) × (e.scope ≡ []) × (e.reach ≡ None) × AllWhole e.args
IsGoodAt Instant e = (e.dur ≡ 0) × (e.key ≡ None) × (e.scope ≡ []) × IsSome e.reach
IsGoodAt Meta e = (e.ts ≡ pos 0) × (e.dur ≡ 0) × (e.key ≡ None) × (e.scope ≡ []) × (e.reach ≡ None)

-- the event is one that the fields of an element give
pub record IsGood (e : Event) : Type 0 where
  pub in_time : IsTime e.ts
  pub by_home : IfSome e.key (IsKnownAt e.pid)
  pub by_phase : IsGoodAt e.phase e
