-- Where the events of a thread stand, what its track keeps stands too, and there are no more spans than events.
use Rattle.std.proofs.{Common.{◌≡◌, ℕ, ◌+◌, ◌<◌, ◌≤◌, ◌-◌, ◌^◌, ℤ, List, [], ◌∷◌, ◌++◌, length, Option, Some, None, refl, sym, subst, arith, All, append_assoc, append-nil, length-append}, lemmas.List.Elements.{All-nil, All-cons, All-push, All-append, All-take}}
use Rattle.span_keyed_tracks.proofs.{Lists.Last.{take-without_last, All-last_of}, Matching.Closed.length-closed_with}
use Rattle.span_track.specs.{Span, Arguments, opens, closes, closes_all, other, last_of, Nesting.{Begin, ThreadEvent, Ending, matched_span, span_between, span_sealed, whole_span}, Thread.{ThreadSpans, thread_spans, HasRoom, IsNext, IsBefore, AreBefore}}
use Rattle.span_track.proofs.Threads.{Sealing.{sealed_spans, All-sealed_spans, length-sealed_spans}, Spans.{with_end, thread_spans-began, thread_spans-ended, thread_spans-sealed, thread_spans-completed}}

module _ {N : Type 0} where
  All-matched_span : (at : ℕ) (e : Ending) (o : Option (Begin N)) → ((b : Begin N) → o ≡ Some b → b.at < at) → All (λ s. s.at < at) (matched_span o e)
  All-matched_span at e None before = All-nil (λ s. s.at < at)
  All-matched_span at e (Some b) before = All-cons (λ s. s.at < at) _ [] (before b refl) (All-nil (λ s. s.at < at))

  IsNext-with_end : (at : ℕ) (t : ThreadSpans N) (ts : ℤ) (args : Arguments) → IsNext at t → IsNext at (with_end t ts args)
  IsNext-with_end at t ts args next = (
    subst (All (λ (b : Begin N). b.at < at)) (take-without_last t.opened) (All-take (λ (b : Begin N). b.at < at) (length t.opened - 1) t.opened next.0),
    All-append (λ (s : Span N). s.at < at) t.closed (matched_span (last_of t.opened) (record { ts = ts; args = args })) next.1 (All-matched_span at (record { ts = ts; args = args }) (last_of t.opened) (All-last_of (λ (b : Begin N). b.at < at) t.opened next.0)),
  )

  -- as many spans as events, at most
  abbrev spans_in : ThreadSpans N → ℕ
  spans_in t = length t.opened + length t.closed

  -- it stands before the position still, and has at most one span more
  abbrev Grows : ℕ → ThreadSpans N → ThreadSpans N → Type 0
  Grows at old new = IsNext at new × (spans_in new ≤ spans_in old + 1)

  step : (at : ℕ) (es : List (ThreadEvent N)) (e : ThreadEvent N) → IsNext at (thread_spans es) → IsBefore at e → Grows at (thread_spans es) (thread_spans (es ++ e ∷ []))
  step at es (opens b) next before =
      subst (Grows at (thread_spans es)) (sym (thread_spans-began es b)) ((All-push (λ (c : Begin N). c.at < at) (thread_spans es).opened b next.0 before, next.1), omega (arith, length-append (thread_spans es).opened (b ∷ [])))
  step at es (closes e) next before =
      subst (Grows at (thread_spans es)) (sym (thread_spans-ended es e.ts e.args)) (
        IsNext-with_end at (thread_spans es) e.ts e.args next,
        omega (arith, length-append (thread_spans es).closed (matched_span (last_of (thread_spans es).opened) e), length-closed_with span_between span_sealed whole_span e (λ b. refl) (thread_spans es).opened),
      )
  step at es (closes_all ts) next before =
      let t = thread_spans es in
      subst (Grows at t) (sym (thread_spans-sealed es ts)) (
        (
          All-nil (λ (b : Begin N). b.at < at),
          All-append (λ (s : Span N). s.at < at) t.closed (sealed_spans ts t.opened) next.1 (All-sealed_spans ts (λ (b : Begin N). b.at < at) (λ (s : Span N). s.at < at) (λ b h. h) t.opened next.0),
        ),
        omega (arith, length-append t.closed (sealed_spans ts t.opened), length-sealed_spans ts t.opened),
      )
  step at es (other s) next before =
      subst (Grows at (thread_spans es)) (sym (thread_spans-completed es s)) ((next.0, All-push (λ (x : Span N). x.at < at) (thread_spans es).closed s next.1 before), omega (arith, length-append (thread_spans es).closed (s ∷ [])))

  from_there : (at : ℕ) (es later : List (ThreadEvent N)) → IsNext at (thread_spans es) → AreBefore at later → IsNext at (thread_spans (es ++ later)) × (spans_in (thread_spans (es ++ later)) ≤ spans_in (thread_spans es) + length later)
  from_there at es [] next before = rw (append-nil es) (next, omega arith)
  from_there at es (e ∷ later) next before =
      let one = step at es e next before.0 in
      let rest = from_there at (es ++ e ∷ []) later one.0 before.1 in
      let joined : (es ++ e ∷ []) ++ later ≡ es ++ e ∷ later = append_assoc es (e ∷ []) later in
      let moved = subst (λ (l : List (ThreadEvent N)). IsNext at (thread_spans l) × (spans_in (thread_spans l) ≤ spans_in (thread_spans (es ++ e ∷ [])) + length later)) joined rest in
      (moved.0, omega (arith, moved.1, one.1))

  -- where all events stand before a position, so do all spans
  pub IsNext-thread_spans : (at : ℕ) (es : List (ThreadEvent N)) → AreBefore at es → IsNext at (thread_spans es)
  IsNext-thread_spans at es before =
      (from_there at [] es (All-nil (λ (b : Begin N). b.at < at), All-nil (λ (s : Span N). s.at < at)) before).0

  -- a track of few events has room for one more span
  pub HasRoom-thread_spans : (at : ℕ) (es : List (ThreadEvent N)) → AreBefore at es → length es < 2 ^ 32 - 1 → HasRoom (thread_spans es)
  HasRoom-thread_spans at es before few =
      omega (arith, (from_there at [] es (All-nil (λ (b : Begin N). b.at < at), All-nil (λ (s : Span N). s.at < at)) before).1)

  pub IsBefore-later : (at later : ℕ) (e : ThreadEvent N) → at ≤ later → IsBefore at e → IsBefore later e
  IsBefore-later at later (opens b) up before = omega (arith, up, before)
  IsBefore-later at later (closes e) up before = tt
  IsBefore-later at later (closes_all ts) up before = tt
  IsBefore-later at later (other s) up before = omega (arith, up, before)

  -- what stands before a position stands before each later one
  pub AreBefore-later : (at later : ℕ) (es : List (ThreadEvent N)) → at ≤ later → AreBefore at es → AreBefore later es
  AreBefore-later at later [] up before = tt
  AreBefore-later at later (e ∷ es) up before = (IsBefore-later at later e up before.0, AreBefore-later at later es up before.1)

  pub AreBefore-push : (at : ℕ) (es : List (ThreadEvent N)) (e : ThreadEvent N) → AreBefore at es → IsBefore at e → AreBefore at (es ++ e ∷ [])
  AreBefore-push at [] e before latest = (latest, tt)
  AreBefore-push at (d ∷ es) e before latest = (before.0, AreBefore-push at es e before.1 latest)
