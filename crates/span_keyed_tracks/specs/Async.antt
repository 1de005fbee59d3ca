-- Asynchronous spans: begins, ends and points of a key, which no thread holds together.
use Rattle.std.specs.{Ordering.ordering_then, Prelude.{◌≡◌, ℕ, ◌+◌, ◌<◌, ◌^◌, ◌-◌, Bool, true, false, if◌then◌else◌, ℤ, int_lt, List, [], ◌∷◌, ◌++◌, fold, length, map, max, sum, count_by, Option, Some, None, Result, Ok, Err}, declared.cmp.Ordering.Ordering}
use Rattle.span_event.specs.declared.fault.Fault.{Fault}
use Rattle.span_keyed_tracks.specs.{NoOpenAsync, EndBeforeBegin, id_cmp, text_cmp, distance, Fault.refusal_of, Keyed.{Keyed, entries_in, kept_at}, Matching.{Step, other, opener, open_of, closed_by, closed_of}, declared.{async_track.{AsyncRow.AsyncRow, AsyncTotals.AsyncTotals}, keys.AsyncKey.AsyncKey}}

-- by category, scope, id and name; texts by their bytes
abbrev pub async_cmp : AsyncKey → AsyncKey → Ordering
async_cmp a b =
    ordering_then (text_cmp a.cat b.cat) (ordering_then (text_cmp a.scope b.scope) (ordering_then (id_cmp a.id b.id) (text_cmp a.name b.name)))

-- a begin or an end, at a time, or a point; nothing ends all spans of a key
abbrev pub AsyncStep : Type 0
AsyncStep = Step ℤ ℤ ⊥ (Unit {0})

-- a step of a key
abbrev pub AsyncEvent : Type 0
AsyncEvent = Keyed AsyncKey AsyncStep

-- the begins that no end matches, how many pairs match, their lengths together and the greatest of them, and how many points there are
pub record AsyncSpans : Type 0 where
  pub opened : List ℤ
  pub closed : ℕ
  pub total : ℕ
  pub longest : ℕ
  pub points : ℕ

-- the length of the span from a begin to the end that matches it
abbrev pub length_between : ℤ → ℤ → List ℕ
length_between begin end = distance begin end ∷ []

-- nothing ends all
abbrev pub never_sealed : ℤ → ⊥ → ℕ
never_sealed begin never = absurd never

-- a point closes nothing
abbrev pub no_length : Unit {0} → List ℕ
no_length point = []

-- the lengths of the spans that close
abbrev pub closed_lengths : List AsyncStep → List ℕ
closed_lengths steps = closed_of length_between never_sealed no_length steps

-- the length of the span that a step closes
abbrev pub length_closed_by : List AsyncStep → AsyncStep → List ℕ
length_closed_by earlier step = closed_by length_between never_sealed no_length earlier step

-- the step is a point
abbrev pub is_point : AsyncStep → Bool
is_point (other point) = true
is_point step = false

-- what the steps of one key give
abbrev pub async_spans : List AsyncStep → AsyncSpans
async_spans steps = record {
  opened = open_of steps;
  closed = length (closed_lengths steps);
  total = sum (closed_lengths steps);
  longest = fold max 0 (closed_lengths steps);
  points = count_by is_point steps;
}

-- what an end at this time matches: this begin; `NoOpenAsync` where there is none, `EndBeforeBegin` where its time is below that of the begin
abbrev pub async_matched : Option ℤ → ℤ → Result ℤ Fault
async_matched None ts = Err NoOpenAsync
async_matched (Some begin) ts = if int_lt ts begin then Err EndBeforeBegin else Ok begin

-- an end of a key that had these steps
abbrev pub async_end_refusal : List AsyncStep → ℤ → Option ℕ
async_end_refusal steps ts = refusal_of (async_matched (opener steps) ts)

-- each key that has a step, in ascending order, with what its steps give
abbrev pub AsyncKept : Type 0
AsyncKept = List (AsyncKey × AsyncSpans)

-- the track keeps what these events give
abbrev pub AsyncStandsFor : AsyncKept → List AsyncEvent → Type 0
AsyncStandsFor track es = track ≡ entries_in async_cmp async_spans es

-- the track takes one more event
abbrev pub TakesAsync : AsyncKept → AsyncKept → AsyncEvent → Type 0
TakesAsync old new e = (es : List AsyncEvent) → AsyncStandsFor old es → AsyncStandsFor new (es ++ e ∷ [])

-- what is kept for a key; of an unknown key what no steps give
abbrev pub async_spans_at : AsyncKept → AsyncKey → AsyncSpans
async_spans_at track key = kept_at async_cmp (async_spans []) track key

-- there is room for the number of one more step
abbrev pub HasStepRoom : AsyncSpans → Type 0
HasStepRoom spans = length spans.opened + spans.closed + spans.points < 2 ^ 32 - 1

-- the same of a key
abbrev pub HasAsyncRoom : AsyncKept → AsyncKey → Type 0
HasAsyncRoom track key = HasStepRoom (async_spans_at track key)

-- the numbers of what is kept for a key
abbrev pub async_totals : AsyncSpans → AsyncTotals
async_totals spans = record { closed = spans.closed; total = spans.total; unclosed = length spans.opened; points = spans.points }

-- the row of a key
abbrev pub async_row : AsyncKey × AsyncSpans → AsyncRow
async_row (key, spans) = record { key = key; totals = async_totals spans }

-- the row of each key that has a step, in ascending order of keys
abbrev pub async_rows : List AsyncEvent → List AsyncRow
async_rows es = map async_row (entries_in async_cmp async_spans es)
