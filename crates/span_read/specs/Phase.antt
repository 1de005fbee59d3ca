-- The letters of the phases, and which phases read which field.
use Rattle.std.specs.{Map.lookup, Prelude.{List, [], ◌∷◌, Bool, true, false, Option, codes}}
use Rattle.span_event.specs.declared.event.Phase.{Phase}
use Rattle.span_read.specs.{SpanBegin, SpanEnd, Complete, AsyncBegin, AsyncPoint, AsyncEnd, FlowStart, FlowStep, FlowEnd, Counter, Instant, Meta, Bytes, same_text}

-- each letter with its phase
abbrev pub letters : List (Bytes × Phase)
letters = (codes "B", SpanBegin) ∷ (codes "E", SpanEnd) ∷ (codes "X", Complete) ∷ (codes "b", AsyncBegin) ∷ (codes "n", AsyncPoint) ∷ (codes "e", AsyncEnd) ∷ (codes "s", FlowStart) ∷ (codes "t", FlowStep)
    ∷ (codes "f", FlowEnd) ∷ (codes "C", Counter) ∷ (codes "i", Instant) ∷ (codes "I", Instant) ∷ (codes "M", Meta) ∷ []

-- the phase of a `ph`, if it is one of the letters
abbrev pub phase_of : Bytes → Option Phase
phase_of letter = lookup (same_text letter) letters

-- `ts` is read at all phases but metadata
abbrev pub reads_time : Phase → Bool
reads_time Meta = false
reads_time _ = true

-- `dur` is read at complete events
abbrev pub reads_duration : Phase → Bool
reads_duration Complete = true
reads_duration _ = false

-- `scope` is read at asynchronous events
abbrev pub reads_scope : Phase → Bool
reads_scope AsyncBegin = true
reads_scope AsyncPoint = true
reads_scope AsyncEnd = true
reads_scope _ = false

-- an id is needed at flow events and at asynchronous ones
abbrev pub needs_id : Phase → Bool
needs_id FlowStart = true
needs_id FlowStep = true
needs_id FlowEnd = true
needs_id phase = reads_scope phase

-- and counters may have one
abbrev pub reads_id : Phase → Bool
reads_id Counter = true
reads_id phase = needs_id phase

-- `s` is read at instants
abbrev pub reads_reach : Phase → Bool
reads_reach Instant = true
reads_reach _ = false

-- each member of `args` must be a whole number at counters
abbrev pub wants_whole_args : Phase → Bool
wants_whole_args Counter = true
wants_whole_args _ = false
