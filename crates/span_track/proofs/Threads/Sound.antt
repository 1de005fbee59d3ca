-- That a track stays sound from event to event.
use Rattle.std.specs.Prelude.{int_lt}
use Rattle.std.proofs.{Common.{◌≡◌, ℕ, ◌+◌, ◌<◌, ◌^◌, ◌≢◌, ℤ, ◌≤ℤ◌, List, [], ◌∷◌, ◌++◌, Option, Some, None, true, false, cond, refl, arith, All, length-append, get_or, length}, lemmas.{Int.ints, List.Elements.{All-weaker, All-push, All-pop, All-head, All-tail, All-nil, All-cons}}}
use Rattle.span_track.specs.{IsTime, least_time, Span, Kept.{IsSound, IsUpTo, IsSeen, AreRising}, Nesting.{Begin, later}, Thread.{ThreadSpans, HasRoom, IsNext, IsSealTime, goes_back}}
use Rattle.span_track.proofs.Threads.Spans.{with_begin, with_whole}

AreRising-append : (bs : List (Begin ℕ)) (b : Begin ℕ) → AreRising bs → All (λ c. c.at < b.at) bs → AreRising (bs ++ b ∷ [])
AreRising-append [] b rising below = (All-nil _, tt)
AreRising-append (c ∷ bs) b rising below =
    let here = All-head (λ (d : Begin ℕ). d.at < b.at) c bs below in
    let later = All-tail (λ (d : Begin ℕ). d.at < b.at) c bs below in
    (All-push (λ (d : Begin ℕ). c.at < d.at) bs b rising.0 here, AreRising-append bs b rising.1 later)

AreRising-front : (bs : List (Begin ℕ)) (b : Begin ℕ) → AreRising (bs ++ b ∷ []) → AreRising bs × All (λ c. c.at < b.at) bs
AreRising-front [] b rising = (tt, All-nil _)
AreRising-front (c ∷ bs) b rising =
    let front = All-pop (λ (d : Begin ℕ). c.at < d.at) (bs ++ b ∷ []) bs (Some b) refl rising.0 in
    let rest = AreRising-front bs b rising.1 in
    ((front.0, rest.0), All-cons (λ (d : Begin ℕ). d.at < b.at) c bs front.1 rest.1)

-- a time that is not before the last is no earlier than what was up to it
pub IsUpTo-later : (t ts : ℤ) (last : Option ℤ) → IsUpTo t last → goes_back ts last ≡ false → t ≤ℤ ts
IsUpTo-later t ts None up_to later = absurd up_to
IsUpTo-later t ts (Some last) up_to later =
    let from : last ≤ℤ ts = grind (arith, ints) in omega (arith, ints)

All-IsUpTo-later : (ts : ℤ) (last : Option ℤ) (bs : List (Begin ℕ)) → goes_back ts last ≡ false → All (λ b. IsUpTo b.ts last) bs → All (λ b. IsUpTo b.ts (Some ts)) bs
All-IsUpTo-later ts last bs later up_to =
    All-weaker (λ (b : Begin ℕ). IsUpTo b.ts last) (λ (b : Begin ℕ). IsUpTo b.ts (Some ts)) (λ b h. IsUpTo-later b.ts ts last h later) bs up_to

-- of two times that a thread can have seen, so is the later
IsSeen-later : (latest : Option ℤ) (time : ℤ) → IsSeen latest → IsSealTime time → IsSeen (later latest time)
IsSeen-later None time seen in_time = in_time
IsSeen-later (Some earlier) time seen in_time =
    elim (int_lt earlier time) as (λ b. IsSeen (cond b (Some time) (Some earlier))) [ true ↦ in_time | false ↦ seen ]

-- a time of an event is one that a thread can have seen
IsSealTime-event : (ts : ℤ) → IsTime ts → IsSealTime ts
IsSealTime-event ts in_time = (in_time.0, omega (arith, ints, in_time.1))

-- a begin that may be taken keeps the track sound
pub IsSound-with_begin : (t : ThreadSpans ℕ) (b : Begin ℕ) → IsSound t → HasRoom t → IsNext b.at t → IsTime b.ts → goes_back b.ts t.last ≡ false → IsSound (with_begin t b)
IsSound-with_begin t b sound room next in_time later = record {
  from = All-push (λ (c : Begin ℕ). least_time ≤ℤ c.ts) t.opened b sound.from in_time.0;
  up_to = All-push (λ (c : Begin ℕ). IsUpTo c.ts (Some b.ts)) t.opened b (All-IsUpTo-later b.ts t.last t.opened later sound.up_to) (omega (arith, ints));
  apart = All-push (λ (c : Begin ℕ). All (λ s. s.at ≢ c.at) t.closed) t.opened b sound.apart (All-weaker (λ (s : Span ℕ). s.at < b.at) (λ (s : Span ℕ). s.at ≢ b.at) (λ s h same. omega arith) t.closed next.1);
  rising = AreRising-append t.opened b sound.rising next.0;
  few = omega (arith, length-append t.opened (b ∷ []));
  seen = IsSeen-later t.latest b.ts sound.seen (IsSealTime-event b.ts in_time);
}

-- a whole span that may be taken keeps the track sound
pub IsSound-with_whole : (t : ThreadSpans ℕ) (s : Span ℕ) → IsSound t → HasRoom t → IsNext s.at t → IsSealTime s.until → IsSound (with_whole t s)
IsSound-with_whole t s sound room next in_time = record {
  from = sound.from;
  up_to = sound.up_to;
  apart = All-weaker-apart t.opened sound.apart next.0;
  rising = sound.rising;
  few = omega (arith, length-append t.closed (s ∷ []));
  seen = IsSeen-later t.latest s.until sound.seen in_time;
}
  where
    All-weaker-apart : (bs : List (Begin ℕ)) → All (λ b. All (λ x. x.at ≢ b.at) t.closed) bs → All (λ b. b.at < s.at) bs → All (λ b. All (λ x. x.at ≢ b.at) (t.closed ++ s ∷ [])) bs
    All-weaker-apart bs apart below = λ k d within.
        All-push (λ (x : Span ℕ). x.at ≢ (get_or bs k d).at) t.closed s (apart k d within) (λ same. let h = below k d within in omega arith)

-- what may be said of the span that an end closes
pub record MayClose (b : Begin ℕ) (closed : List (Span ℕ)) (ts : ℤ) : Type 0 where
  pub from : least_time ≤ℤ b.ts
  pub lasts : b.ts ≤ℤ ts
  pub apart : All (λ s. s.at ≢ b.at) closed
  pub few : length closed + 1 < 2 ^ 32

-- the last open span of a sound track may close
pub MayClose-sound : (opened : List (Begin ℕ)) (closed : List (Span ℕ)) (last latest : Option ℤ) (b : Begin ℕ) (ts : ℤ) → IsSound (record { opened = opened ++ b ∷ []; closed = closed; last = last; latest = latest }) → goes_back ts last ≡ false → MayClose b closed ts
MayClose-sound opened closed last latest b ts sound later =
    let from = All-pop (λ (c : Begin ℕ). least_time ≤ℤ c.ts) (opened ++ b ∷ []) opened (Some b) refl sound.from in
    let up_to = All-pop (λ (c : Begin ℕ). IsUpTo c.ts last) (opened ++ b ∷ []) opened (Some b) refl sound.up_to in
    let apart = All-pop (λ (c : Begin ℕ). All (λ s. s.at ≢ c.at) closed) (opened ++ b ∷ []) opened (Some b) refl sound.apart in
    record {
      from = from.1;
      lasts = IsUpTo-later b.ts ts last up_to.1 later;
      apart = apart.1;
      few = omega (arith, length-append opened (b ∷ []), sound.few);
    }

-- the end of the last open span keeps the track sound
pub IsSound-with_end : (opened : List (Begin ℕ)) (closed : List (Span ℕ)) (last latest : Option ℤ) (b : Begin ℕ) (s : Span ℕ) (ts : ℤ) → s.at ≡ b.at → IsTime ts →
    IsSound (record { opened = opened ++ b ∷ []; closed = closed; last = last; latest = latest }) → goes_back ts last ≡ false → IsSound (record { opened = opened; closed = closed ++ s ∷ []; last = Some ts; latest = later latest ts })
IsSound-with_end opened closed last latest b s ts same_at in_time sound later =
    let from = All-pop (λ (c : Begin ℕ). least_time ≤ℤ c.ts) (opened ++ b ∷ []) opened (Some b) refl sound.from in
    let up_to = All-pop (λ (c : Begin ℕ). IsUpTo c.ts last) (opened ++ b ∷ []) opened (Some b) refl sound.up_to in
    let apart = All-pop (λ (c : Begin ℕ). All (λ x. x.at ≢ c.at) closed) (opened ++ b ∷ []) opened (Some b) refl sound.apart in
    let rising = AreRising-front opened b sound.rising in
    record {
      from = from.0;
      up_to = All-IsUpTo-later ts last opened later up_to.0;
      apart = λ k d within. All-push (λ (x : Span ℕ). x.at ≢ (get_or opened k d).at) closed s (apart.0 k d within) (λ same. let h = rising.1 k d within in omega arith);
      rising = rising.0;
      few = omega (arith, length-append opened (b ∷ []), length-append closed (s ∷ []), sound.few);
      seen = IsSeen-later latest ts sound.seen (IsSealTime-event ts in_time);
    }
