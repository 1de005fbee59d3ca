-- A track that can take an event at a position can take the next one after it.
use Rattle.std.proofs.Common.{ℕ, ◌+◌, ◌<◌, ◌-◌, ◌^◌, List, [], ◌∷◌, ◌++◌, length-append, sym, subst, arith}
use Rattle.span_track.specs.Nesting.{ThreadEvent}
use Rattle.span_track.specs.Thread.{ThreadSpans, StandsFor, HasRoom, IsNext, IsBefore}
use Rattle.span_track.proofs.Threads.Room.{IsNext-thread_spans, HasRoom-thread_spans, AreBefore-later, AreBefore-push}
use Rattle.bench_tracking.specs.Ready.{IsReady}

pub IsNext-IsReady : (at : ℕ) (track : ThreadSpans ℕ) → IsReady at track → IsNext at track
IsNext-IsReady at track is = subst (IsNext at) (sym is.stands) (IsNext-thread_spans at is.events is.before)

pub HasRoom-IsReady : (at : ℕ) (track : ThreadSpans ℕ) → IsReady at track → at < 2 ^ 32 - 1 → HasRoom track
HasRoom-IsReady at track is room = subst HasRoom (sym is.stands) (HasRoom-thread_spans at is.events is.before (omega (arith, is.few, room)))

-- a track that took nothing can as well take an event later
pub IsReady-later : (at : ℕ) (track : ThreadSpans ℕ) → IsReady at track → IsReady (at + 1) track
IsReady-later at track is = record { events = is.events; stands = is.stands; before = AreBefore-later at (at + 1) is.events (omega arith) is.before; few = omega (arith, is.few) }

-- `took` is what each call of a track promises
pub IsReady-next : (at : ℕ) (old new : ThreadSpans ℕ) (e : ThreadEvent ℕ) → IsBefore (at + 1) e → IsReady at old → ((es : List (ThreadEvent ℕ)) → StandsFor old es → StandsFor new (es ++ e ∷ [])) → IsReady (at + 1) new
IsReady-next at old new e latest is took = record {
  events = is.events ++ e ∷ [];
  stands = took is.events is.stands;
  before = AreBefore-push (at + 1) is.events e (AreBefore-later at (at + 1) is.events (omega arith) is.before) latest;
  few = omega (arith, is.few, length-append is.events (e ∷ []));
}
