-- Which begins and ends of one thread belong together, and what a seal ends.
use Rattle.std.specs.{Option.{option_map, option_or}, Prelude.{ℕ, if◌then◌else◌, ℤ, int_lt, List, [], ◌∷◌, length, map, fold, Option, Some, None}}
use Rattle.span_track.specs.{merged, Arguments, Span, Step, opens, closes, closes_all, other}
use Rattle.span_keyed_tracks.specs.Matching

-- a begin: `at` is its position in the journal
pub record Begin (N : Type 0) : Type 0 where
  pub name : N
  pub ts : ℤ
  pub at : ℕ
  pub args : Arguments

-- the begin with its position in place of another
abbrev pub renumbered_begin : {N : Type 0} → (ℕ → ℕ) → Begin N → Begin N
renumbered_begin f b = record { name = b.name; ts = b.ts; at = f b.at; args = b.args }

pub record Ending : Type 0 where
  pub ts : ℤ
  pub args : Arguments

-- what the thread was told of spans: a begin, an end, a seal, which ends all open spans at its time, or a whole span
abbrev pub ThreadEvent : Type 0 → Type 0
ThreadEvent N = Step (Begin N) Ending ℤ (Span N)

-- the later of a time, if there is one, and another
abbrev pub later : Option ℤ → ℤ → Option ℤ
later None time = Some time
later (Some earlier) time = if int_lt earlier time then Some time else Some earlier

-- the greatest of some times, if there are any
abbrev pub greatest : List ℤ → Option ℤ
greatest times = fold later None times

module _ {N : Type 0} where
  -- a span begins
  abbrev pub began : Begin N → ThreadEvent N
  began b = opens b

  -- a span ends
  abbrev pub ended : ℤ → Arguments → ThreadEvent N
  ended ts args = closes (record { ts = ts; args = args })

  -- all open spans end
  abbrev pub sealed : ℤ → ThreadEvent N
  sealed ts = closes_all ts

  -- a whole span
  abbrev pub completed : Span N → ThreadEvent N
  completed s = other s

  -- the span from a begin to the end that matches it; it has the arguments of both
  abbrev pub span_between : Begin N → Ending → List (Span N)
  span_between b e = record { name = b.name; start = b.ts; until = e.ts; at = b.at; args = merged b.args e.args } ∷ []

  -- the span from a begin to a seal; it has the arguments of the begin
  abbrev pub span_sealed : Begin N → ℤ → Span N
  span_sealed b ts = record { name = b.name; start = b.ts; until = ts; at = b.at; args = b.args }

  -- a whole span closes as it comes
  abbrev pub whole_span : Span N → List (Span N)
  whole_span s = s ∷ []

  -- the span that an end closes, if there is one
  abbrev pub matched_span : Option (Begin N) → Ending → List (Span N)
  matched_span = Matching.closed_with span_between span_sealed whole_span

  -- the begin that an end right after these events matches
  abbrev pub opener : List (ThreadEvent N) → Option (Begin N)
  opener es = Matching.opener es

  -- the begins that no end matches and no seal ends
  abbrev pub open_spans : List (ThreadEvent N) → List (Begin N)
  open_spans es = Matching.open_of es

  -- how many spans are open
  abbrev pub depth_of : List (ThreadEvent N) → ℕ
  depth_of es = length (open_spans es)

  -- what an event closes, after the events before it: a seal all open spans, the innermost first
  abbrev pub closed_by : List (ThreadEvent N) → ThreadEvent N → List (Span N)
  closed_by earlier e = Matching.closed_by span_between span_sealed whole_span earlier e

  -- the closed spans, in the order of the events that close them
  abbrev pub closed_spans : List (ThreadEvent N) → List (Span N)
  closed_spans es = Matching.closed_of span_between span_sealed whole_span es

  -- the time of the last begin, end or seal
  abbrev pub last_time : List (ThreadEvent N) → Option ℤ
  last_time [] = None
  last_time (opens b ∷ later) = option_or (last_time later) (Some b.ts)
  last_time (closes e ∷ later) = option_or (last_time later) (Some e.ts)
  last_time (closes_all ts ∷ later) = option_or (last_time later) (Some ts)
  last_time (other s ∷ later) = last_time later

  -- the time up to which an event has seen its thread: its own, of a whole span its end
  abbrev pub seen_by : ThreadEvent N → ℤ
  seen_by (opens b) = b.ts
  seen_by (closes e) = e.ts
  seen_by (closes_all ts) = ts
  seen_by (other s) = s.until

  -- the latest time that the thread has seen, of its begins, ends, seals and closed spans
  abbrev pub latest_time : List (ThreadEvent N) → Option ℤ
  latest_time es = greatest (map seen_by es)
