-- A track can take an event at the next place.
use Rattle.std.proofs.Common.{ℕ, ◌+◌, ◌<◌, ◌≡◌, ◌-◌, ◌^◌, Result, Ok, Err, OnOk, OnErr, [], ◌∷◌, ◌++◌, length-append, sym, subst, arith}
use Rattle.span_track.specs.Nesting.{ThreadEvent}
use Rattle.span_track.specs.Thread.{ThreadSpans, TakesEvent, HasRoom, IsNext, IsBefore}
use Rattle.span_track.proofs.Threads.Room.{IsNext-thread_spans, HasRoom-thread_spans, AreBefore-later, AreBefore-push}
use Rattle.span_ledger_tests.specs.Placed.{IsPlaced}

module _ (next : ℕ) (track : ThreadSpans ℕ) (is : IsPlaced next track) where
  pub IsNext-IsPlaced : IsNext next track
  IsNext-IsPlaced = subst (IsNext next) (sym is.stands) (IsNext-thread_spans next is.events is.before)

  pub HasRoom-IsPlaced : next < 2 ^ 32 - 1 → HasRoom track
  HasRoom-IsPlaced few = subst HasRoom (sym is.stands) (HasRoom-thread_spans next is.events is.before (omega (arith, is.few, few)))

  -- it was told an event at this place: it took it, or is as before
  pub IsPlaced-told : {A B : Type 0} (told : Result A B) (e : ThreadEvent ℕ) (after : ThreadSpans ℕ) → IsBefore (next + 1) e → OnOk told (TakesEvent track after e) → OnErr told (after ≡ track) → IsPlaced (next + 1) after
  IsPlaced-told (Ok a) e after latest took same = record {
    events = is.events ++ e ∷ [];
    stands = took is.events is.stands;
    before = AreBefore-push (next + 1) is.events e (AreBefore-later next (next + 1) is.events (omega arith) is.before) latest;
    few = omega (arith, is.few, length-append is.events (e ∷ []));
  }
  IsPlaced-told (Err b) e after latest took same = subst (IsPlaced (next + 1)) (sym same) (record {
    events = is.events;
    stands = is.stands;
    before = AreBefore-later next (next + 1) is.events (omega arith) is.before;
    few = omega (arith, is.few);
  })
