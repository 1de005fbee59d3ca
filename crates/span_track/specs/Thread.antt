-- What the track of a thread keeps, and when it refuses an event.
use Rattle.std.specs.Prelude.{◌≡◌, ℕ, ◌+◌, ◌<◌, ◌^◌, ◌-◌, Bool, true, false, nat_eq, if◌then◌else◌, ℤ, ◌≤ℤ◌, int_lt, List, [], ◌∷◌, ◌++◌, length, All, Option, Some, None, Result, Ok, Err}
use Rattle.span_track.specs.{NoOpenSpan, TimeGoesBack, NameDiffers, Fault, merged, least_time, greatest_until, Arguments, Span, refusal_of, last_of, opens, closes, closes_all, other, Nesting.{Begin, ThreadEvent, open_spans, closed_spans, last_time, latest_time}, declared.wanted.Wanted.{Wanted, TheVariants.{Any, Name, NoName}}}

-- the open spans, the closed spans, the time of the last begin, end or seal, and the latest time that the thread has seen
pub record ThreadSpans (N : Type 0) : Type 0 where
  pub opened : List (Begin N)
  pub closed : List (Span N)
  pub last : Option ℤ
  pub latest : Option ℤ

-- a seal may have any time that a thread can have seen: that of an event, or the end of a span
abbrev pub IsSealTime : ℤ → Type 0
IsSealTime ts = (least_time ≤ℤ ts) × (ts ≤ℤ greatest_until)

-- the time is below that of the last begin, end or seal
abbrev pub goes_back : ℤ → Option ℤ → Bool
goes_back ts None = false
goes_back ts (Some last) = int_lt ts last

-- a begin at this time, after a last begin, end or seal: `TimeGoesBack` where it is below the time of that
abbrev pub opening : Option ℤ → ℤ → Result (Unit {0}) Fault
opening last ts = if goes_back ts last then Err TimeGoesBack else Ok tt

-- every name suits a seal, and an end that asks for none
abbrev pub any_name : {N : Type 0} → N → Bool
any_name name = true

-- the names of spans that suit an end which wants this
abbrev pub suits : Wanted → ℕ → Bool
suits Any = any_name
suits (Name wanted) = λ name. nat_eq name wanted
suits NoName = λ name. false

-- the begin that an end at this time closes, or a seal first, if one is open: `NoOpenSpan` where none is, then `TimeGoesBack` as
-- for a begin, then `NameDiffers` where its name doesn't suit
abbrev pub closing : {N : Type 0} → (N → Bool) → Option (Begin N) → Option ℤ → ℤ → Result (Begin N) Fault
closing is_suited None last ts = Err NoOpenSpan
closing is_suited (Some begin) last ts =
    if goes_back ts last then Err TimeGoesBack else if is_suited begin.name then Ok begin else Err NameDiffers

module _ {N : Type 0} where
  -- what the events of a thread give
  abbrev pub thread_spans : List (ThreadEvent N) → ThreadSpans N
  thread_spans es = record {
    opened = open_spans es;
    closed = closed_spans es;
    last = last_time es;
    latest = latest_time es;
  }

  -- the track keeps what these events give
  abbrev pub StandsFor : ThreadSpans N → List (ThreadEvent N) → Type 0
  StandsFor track es = track ≡ thread_spans es

  -- the track takes one more event
  abbrev pub TakesEvent : ThreadSpans N → ThreadSpans N → ThreadEvent N → Type 0
  TakesEvent old new e = (es : List (ThreadEvent N)) → StandsFor old es → StandsFor new (es ++ e ∷ [])

  -- there is room for the number of one more span
  abbrev pub HasRoom : ThreadSpans N → Type 0
  HasRoom track = length track.opened + length track.closed < 2 ^ 32 - 1

  -- every span was opened before this position
  abbrev pub IsNext : ℕ → ThreadSpans N → Type 0
  IsNext at track = All (λ b. b.at < at) track.opened × All (λ s. s.at < at) track.closed

  -- the number with which a begin at this time is refused, if it is
  abbrev pub begin_refusal : ThreadSpans N → ℤ → Option ℕ
  begin_refusal track ts = refusal_of (opening track.last ts)

  -- the number with which an end at this time is refused, if it is, whose names are those that suit; a seal is, whom any name suits
  abbrev pub end_refusal : (N → Bool) → ThreadSpans N → ℤ → Option ℕ
  end_refusal is_suited track ts = refusal_of (closing is_suited (last_of track.opened) track.last ts)

  -- the arguments of a begin, if there is one, with those of an end
  abbrev pub merged_with : Option (Begin N) → Arguments → Arguments
  merged_with None args = args
  merged_with (Some b) args = merged b.args args

  -- the arguments of the last open span with those of an end
  abbrev pub merged_args : ThreadSpans N → Arguments → Arguments
  merged_args track args = merged_with (last_of track.opened) args

  -- the arguments of the last open span with those of some end
  abbrev pub AreMerged : ThreadSpans N → Arguments → Type 0
  AreMerged track merged = (args : Arguments) × (merged ≡ merged_args track args)

  -- the event stands before this position; an end or a seal opens nothing, and needs none
  abbrev pub IsBefore : ℕ → ThreadEvent N → Type 0
  IsBefore at (opens b) = b.at < at
  IsBefore at (closes e) = Unit {0}
  IsBefore at (closes_all ts) = Unit {0}
  IsBefore at (other s) = s.at < at

  -- each of the events stands before this position
  abbrev pub AreBefore : ℕ → List (ThreadEvent N) → Type 0
  AreBefore at [] = Unit {0}
  AreBefore at (e ∷ es) = IsBefore at e × AreBefore at es
