-- How many ticks a stretch and the frames in it have of a stack.
use Rattle.std.proofs.{Common.{◌≡◌, ℕ, zero, suc, ◌+◌, ◌<◌, ◌≤◌, ◌^◌, ℤ, pos, ◌+ℤ◌, ◌≤ℤ◌, ◌<ℤ◌, Bool, true, false, cond, List, [], ◌∷◌, ◌++◌, length, take, drop, refl, sym, ap, ap₂, ◌∙◌, arith, append_assoc, append-nil}, lemmas.{Int.ints, List.{length_push, length-take-le, take_all, Sums.sum_by_push}}}
use Rattle.span_self_time.proofs.Counts.{add-distance, count_from-add, count_from-same, count_from-unbroken, distance-add}
use Rattle.span_report.specs.{Bytes, distance, Span, count_from, Stacks.{Pending.{IsBare, IsFirstPending, IsSplit, left, pending_stack, times_on}, Ticks.{Stack, names_at, same_stack}}, declared.stacks.pending.{PendingFrame.PendingFrame, Stretch.Stretch}}
use Rattle.span_report.proofs.StackLemmas.Members.{same-itself}

-- the stretch from another time on, with the spans from another one on
abbrev pub rest_of : Stretch → ℤ → ℕ → Stretch
rest_of s from next = record { from = from; until = s.until; next = next }

cond-add : (b : Bool) (m n : ℕ) → cond b (m + n) 0 ≡ cond b m 0 + cond b n 0
cond-add true m n = refl
cond-add false m n = refl

-- the stack of a frame that stands on all of the last
pub pending_stack-on : (base : Stack) (frame : PendingFrame) → length base ≡ frame.below → pending_stack base frame ≡ base ++ frame.name.now ∷ []
pending_stack-on base frame deep = ap (λ (s : Stack). s ++ frame.name.now ∷ []) (take_all frame.below base (omega (arith, deep)))

module _ (spans : List (Span Bytes)) (base stack : Stack) where
  abbrev has_at : ℕ → ℤ → Bool
  has_at n u = same_stack stack (base ++ names_at (drop n spans) u)

  -- a stretch in which no span stands has the base alone
  pub times_on-bare : (s : Stretch) → s.from ≤ℤ s.until → IsBare spans s → times_on spans base s stack ≡ cond (same_stack stack base) (distance s.from s.until) 0
  times_on-bare s forward bare =
      let end = add-distance s.until s.until (omega (arith, ints)) in
      let none : distance s.until s.until ≡ 0 = omega (arith, ints, end) in
      count_from-unbroken (has_at s.next) (same_stack stack base) s.from s.until s.until forward (omega (arith, ints)) (λ u since before. ap (λ (l : Stack). same_stack stack (base ++ l)) (bare u since before) ∙ ap (same_stack stack) (append-nil base))
      ∙ ap (λ n. cond (same_stack stack base) (distance s.from s.until) 0 + count_from s.until n (has_at s.next)) none
      ∙ plain (cond (same_stack stack base) (distance s.from s.until) 0)
    where
      plain : (n : ℕ) → n + 0 ≡ n
      plain n = omega arith

  -- a stretch has the base alone up to its first frame, then what the frame has, and then what the rest has
  pub times_on-first : (s : Stretch) (frame : PendingFrame) → length base ≡ frame.below → IsFirstPending spans s frame →
      times_on spans base s stack ≡ cond (same_stack stack base) (distance s.from frame.over.from) 0 + (times_on spans (pending_stack base frame) frame.over stack + times_on spans base (rest_of s frame.over.until frame.over.next) stack)
  times_on-first s frame deep is =
      let from = frame.over.from in
      let until = frame.over.until in
      let here = add-distance from until (omega (arith, ints, is.lasts)) in
      let end = add-distance until s.until is.until in
      count_from-unbroken (has_at s.next) (same_stack stack base) s.from from s.until is.from (omega (arith, ints, is.lasts, is.until)) (λ u since before. ap (λ (l : Stack). same_stack stack (base ++ l)) (is.before u since before) ∙ ap (same_stack stack) (append-nil base))
      ∙ ap (λ n. cond (same_stack stack base) (distance s.from from) 0 + n)
      (
      ap (λ n. count_from from n (has_at s.next)) (distance-add from until s.until (omega (arith, ints, is.lasts)) is.until)
      ∙ count_from-add (has_at s.next) from (distance from until) (distance until s.until)
      ∙ ap₂ (λ a b. a + b)
      (count_from-same (has_at s.next) (λ u. same_stack stack (pending_stack base frame ++ names_at (drop frame.over.next spans) u)) from (distance from until) (λ u since before. ap (same_stack stack) (through u since (omega (arith, ints, before, here)))))
      (ap (λ t. count_from t (distance until s.until) (has_at s.next)) here
      ∙ count_from-same (has_at s.next) (has_at frame.over.next) until (distance until s.until) (λ u since before. ap (λ (l : Stack). same_stack stack (base ++ l)) (is.rest u since (omega (arith, ints, before, end)))))
      )
    where
      through : (u : ℤ) → frame.over.from ≤ℤ u → u <ℤ frame.over.until → base ++ names_at (drop s.next spans) u ≡ pending_stack base frame ++ names_at (drop frame.over.next spans) u
      through u since before =
          let rest = names_at (drop frame.over.next spans) u in
          ap (λ (l : Stack). base ++ l) (is.through u since before)
          ∙ sym (append_assoc base (frame.name.now ∷ []) rest)
          ∙ ap (λ (l : Stack). l ++ rest) (sym (pending_stack-on base frame deep))

  -- so what is counted stays when the first frame of the rest is put to those found
  pub counts-push : (found : List PendingFrame) (time whole : ℕ) (s : Stretch) (frame : PendingFrame) → length base ≡ frame.below → IsFirstPending spans s frame →
      left spans base found stack + (cond (same_stack stack base) time 0 + times_on spans base s stack) ≡ whole →
      left spans base (found ++ frame ∷ []) stack + (cond (same_stack stack base) (time + distance s.from frame.over.from) 0 + times_on spans base (rest_of s frame.over.until frame.over.next) stack) ≡ whole
  counts-push found time whole s frame deep is counted =
      let more = sum_by_push (λ (p : PendingFrame). times_on spans (pending_stack base p) p.over stack) found frame in
      let first = times_on-first s frame deep is in
      let both = cond-add (same_stack stack base) time (distance s.from frame.over.from) in
      omega (arith, counted, more, first, both)

  pub counts-bare : (found : List PendingFrame) (time whole : ℕ) (s : Stretch) → s.from ≤ℤ s.until → IsBare spans s →
      left spans base found stack + (cond (same_stack stack base) time 0 + times_on spans base s stack) ≡ whole →
      left spans base found stack + cond (same_stack stack base) (time + distance s.from s.until) 0 ≡ whole
  counts-bare found time whole s forward bare counted = omega (arith, counted, times_on-bare s forward bare, cond-add (same_stack stack base) time (distance s.from s.until))

-- a stretch that has a tick has the stack of its first one
pub times_on-own : (spans : List (Span Bytes)) (base : Stack) (s : Stretch) → s.from <ℤ s.until → 0 < times_on spans base s (base ++ names_at (drop s.next spans) s.from)
times_on-own spans base s lasts = by (distance s.from s.until) (add-distance s.from s.until (omega (arith, ints, lasts)))
  where
    by : (n : ℕ) → (s.from +ℤ pos n) ≡ s.until → 0 < count_from s.from n (λ u. same_stack (base ++ names_at (drop s.next spans) s.from) (base ++ names_at (drop s.next spans) u))
    by zero end = absurd (omega (arith, ints, end, lasts))
    by (suc n) end =
        let own = same-itself (base ++ names_at (drop s.next spans) s.from) in
        let one = ap {B = ℕ} (λ b. cond b 1 0) own in
        omega (arith, one)

-- a frame is taken off and split: what it had is had by those found, and as own time
pub counts-popped : (spans : List (Span Bytes)) (last stack : Stack) (first frame : PendingFrame) (pending found more : List PendingFrame) (time own whole : ℕ) → frame.below ≡ first.below → frame.name.now ≡ first.name.now → first.below ≤ length last →
    IsSplit spans (first.below + 1) frame.over own found more →
    left spans last (pending ++ frame ∷ []) stack + (left spans (pending_stack last first) found stack + cond (same_stack stack (pending_stack last first)) time 0) ≡ whole →
    left spans last pending stack + (left spans (pending_stack last first) more stack + cond (same_stack stack (pending_stack last first)) (time + own) 0) ≡ whole
counts-popped spans last stack first frame pending found more time own whole below name within split counted =
    let base = pending_stack last first in
    let deep : length base ≡ first.below + 1 = length_push (take first.below last) first.name.now ∙ ap (λ n. n + 1) (length-take-le first.below last within) in
    let same : pending_stack last frame ≡ base = ap₂ (λ n name. take n last ++ name ∷ []) below name in
    let off = sum_by_push (λ (p : PendingFrame). times_on spans (pending_stack last p) p.over stack) pending frame in
    let own_of = ap (λ (s : Stack). times_on spans s frame.over stack) same in
    let parted = split.counts base deep stack in
    omega (arith, counted, off, own_of, parted, cond-add (same_stack stack base) time own)

-- own time is no more than what was left of the stack
pub own-small : (base : Stack) (a b time whole : ℕ) → a + (b + cond (same_stack base base) time 0) ≡ whole → whole < 2 ^ 64 → time < 2 ^ 64
own-small base a b time whole counted small =
    let own : cond (same_stack base base) time 0 ≡ time = ap (λ c. cond c time 0) (same-itself base) in
    omega (arith, counted, small, own)
