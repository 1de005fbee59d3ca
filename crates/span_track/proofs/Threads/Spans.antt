-- What the track of a thread keeps after one more event.
use Rattle.std.proofs.{Common.{ap, ◌∙◌, ◌≡◌, ℤ, List, [], ◌∷◌, ◌++◌, map, reverse, Option, Some, None, refl, sym, append-nil}, lemmas.List.{map-append, Sums.fold-append}}
use Rattle.span_keyed_tracks.proofs.{Lists.Last.{last_of-append, without_last-append}, Matching.{Closed.closed_of-append, Open.{opener-open_of, open_of-opens, open_of-closes, open_of-closes_all, open_of-other}}}
use Rattle.span_track.specs.{Span, Arguments, opens, closes, closes_all, other, last_of, without_last, Nesting.{Begin, ThreadEvent, began, ended, sealed, completed, span_between, span_sealed, whole_span, matched_span, last_time, later, greatest, seen_by, latest_time}, Thread.{ThreadSpans, thread_spans}}

module _ {N : Type 0} where
  -- the last time after a begin is that of the begin
  pub last_time-began : (es : List (ThreadEvent N)) (b : Begin N) → last_time (es ++ began b ∷ []) ≡ Some b.ts
  last_time-began [] b = refl
  last_time-began (opens c ∷ es) b = rw (last_time-began es b) refl
  last_time-began (closes e ∷ es) b = rw (last_time-began es b) refl
  last_time-began (closes_all ts ∷ es) b = rw (last_time-began es b) refl
  last_time-began (other s ∷ es) b = last_time-began es b

  -- the last time after an end is that of the end
  pub last_time-ended : (es : List (ThreadEvent N)) (ts : ℤ) (args : Arguments) → last_time (es ++ ended ts args ∷ []) ≡ Some ts
  last_time-ended [] ts args = refl
  last_time-ended (opens c ∷ es) ts args = rw (last_time-ended es ts args) refl
  last_time-ended (closes e ∷ es) ts args = rw (last_time-ended es ts args) refl
  last_time-ended (closes_all t ∷ es) ts args = rw (last_time-ended es ts args) refl
  last_time-ended (other s ∷ es) ts args = last_time-ended es ts args

  -- the last time after a seal is that of the seal
  last_time-sealed : (es : List (ThreadEvent N)) (ts : ℤ) → last_time (es ++ sealed ts ∷ []) ≡ Some ts
  last_time-sealed [] ts = refl
  last_time-sealed (opens c ∷ es) ts = rw (last_time-sealed es ts) refl
  last_time-sealed (closes e ∷ es) ts = rw (last_time-sealed es ts) refl
  last_time-sealed (closes_all t ∷ es) ts = rw (last_time-sealed es ts) refl
  last_time-sealed (other s ∷ es) ts = last_time-sealed es ts

  -- a whole span does not change the last time
  pub last_time-completed : (es : List (ThreadEvent N)) (s : Span N) → last_time (es ++ completed s ∷ []) ≡ last_time es
  last_time-completed [] s = refl
  last_time-completed (opens c ∷ es) s = rw (last_time-completed es s) refl
  last_time-completed (closes e ∷ es) s = rw (last_time-completed es s) refl
  last_time-completed (closes_all ts ∷ es) s = rw (last_time-completed es s) refl
  last_time-completed (other t ∷ es) s = last_time-completed es s

  -- one more event is seen
  latest_time-append : (es : List (ThreadEvent N)) (e : ThreadEvent N) → latest_time (es ++ e ∷ []) ≡ later (latest_time es) (seen_by e)
  latest_time-append es e =
      ap greatest (map-append seen_by es (e ∷ [])) ∙ fold-append later None (map seen_by es) (seen_by e ∷ [])

  -- what a track keeps after a begin
  abbrev pub with_begin : ThreadSpans N → Begin N → ThreadSpans N
  with_begin t b = record { opened = t.opened ++ b ∷ []; closed = t.closed; last = Some b.ts; latest = later t.latest b.ts }

  -- what a track keeps after an end
  abbrev pub with_end : ThreadSpans N → ℤ → Arguments → ThreadSpans N
  with_end t ts args = record { opened = without_last t.opened; closed = t.closed ++ matched_span (last_of t.opened) (record { ts = ts; args = args }); last = Some ts; latest = later t.latest ts }

  -- what a track keeps after a seal
  abbrev pub with_seal : ThreadSpans N → ℤ → ThreadSpans N
  with_seal t ts = record { opened = []; closed = t.closed ++ map (λ b. span_sealed b ts) (reverse t.opened); last = Some ts; latest = later t.latest ts }

  -- what a track keeps after a whole span
  abbrev pub with_whole : ThreadSpans N → Span N → ThreadSpans N
  with_whole t s = record { opened = t.opened; closed = t.closed ++ s ∷ []; last = t.last; latest = later t.latest s.until }

  -- a begin is the last open span
  pub thread_spans-began : (es : List (ThreadEvent N)) (b : Begin N) → thread_spans (es ++ began b ∷ []) ≡ with_begin (thread_spans es) b
  thread_spans-began es b = cc (open_of-opens es b, closed_of-append span_between span_sealed whole_span es (began b), append-nil (thread_spans es).closed, last_time-began es b, latest_time-append es (began b))

  -- an end closes the last open span, if there is one
  pub thread_spans-ended : (es : List (ThreadEvent N)) (ts : ℤ) (args : Arguments) → thread_spans (es ++ ended ts args ∷ []) ≡ with_end (thread_spans es) ts args
  thread_spans-ended es ts args = cc (open_of-closes es (record { ts = ts; args = args }), closed_of-append span_between span_sealed whole_span es (ended ts args), opener-open_of es, last_time-ended es ts args, latest_time-append es (ended ts args))

  -- a seal closes all open spans
  pub thread_spans-sealed : (es : List (ThreadEvent N)) (ts : ℤ) → thread_spans (es ++ sealed ts ∷ []) ≡ with_seal (thread_spans es) ts
  thread_spans-sealed es ts = cc (open_of-closes_all es ts, closed_of-append span_between span_sealed whole_span es (sealed ts), last_time-sealed es ts, latest_time-append es (sealed ts))

  -- a whole span is the last closed one
  pub thread_spans-completed : (es : List (ThreadEvent N)) (s : Span N) → thread_spans (es ++ completed s ∷ []) ≡ with_whole (thread_spans es) s
  thread_spans-completed es s = cc (open_of-other es s, closed_of-append span_between span_sealed whole_span es (completed s), last_time-completed es s, latest_time-append es (completed s))

  -- an end closes the last open span
  pub thread_spans-closing : (es : List (ThreadEvent N)) (all opened : List (Begin N)) (closed : List (Span N)) (last latest : Option ℤ) (b : Begin N) (ts : ℤ) (args : Arguments) → all ≡ opened ++ b ∷ [] → record { opened = all; closed = closed; last = last; latest = latest } ≡ thread_spans es →
      record { opened = opened; closed = closed ++ matched_span (Some b) (record { ts = ts; args = args }); last = Some ts; latest = later latest ts } ≡ thread_spans (es ++ ended ts args ∷ [])
  thread_spans-closing es all opened closed last latest b ts args split before =
      let popped : with_end (record { opened = all; closed = closed; last = last; latest = latest }) ts args ≡ record { opened = opened; closed = closed ++ matched_span (Some b) (record { ts = ts; args = args }); last = Some ts; latest = later latest ts } =
      rw split (λ i. record { opened = without_last-append opened b i; closed = closed ++ matched_span (last_of-append opened b i) (record { ts = ts; args = args }); last = Some ts; latest = later latest ts }) in
      sym popped ∙ ap (λ (t : ThreadSpans N). with_end t ts args) before ∙ sym (thread_spans-ended es ts args)
