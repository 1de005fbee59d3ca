-- The self times of one name, span by span.
use Rattle.std.specs.List.{sum_by}
use Rattle.std.proofs.{Common.{◌≡◌, ℕ, ◌+◌, ◌<◌, ◌≤◌, ◌≤ℤ◌, Bool, true, false, cond, List, [], ◌∷◌, length, map, get_or, nat_eq, refl, sym, ap, ◌∙◌, subst, arith, All}, lemmas.List.{get_or-map, length-map, Sums.sum_by-cons}}
use Rattle.span_self_time.specs.{Closed.{span_of, IsInTime, AreClosed}, Spans.{Span, named, self_time}, declared.span.ClosedSpan.ClosedSpan}
use Rattle.span_self_time.proofs.Apart.{All-lasts}

-- the self times of those of some spans that have the name
unfoldable pub self_sum : List (Span ℕ) → ℕ → List (Span ℕ) → ℕ
self_sum all name spans = sum_by (λ s. cond (nat_eq s.name name) (self_time all s) 0) spans

pub self_sum-self_of : (all : List (Span ℕ)) (name : ℕ) (spans : List (Span ℕ)) → self_sum all name spans ≡ sum_by (λ s. self_time all s) (named nat_eq name spans)
unfolding self_sum
self_sum-self_of all name [] = refl
self_sum-self_of all name (s ∷ spans) =
    sum_by-cons (λ s. cond (nat_eq s.name name) (self_time all s) 0) s spans ∙ by_test (nat_eq s.name name) (self_sum-self_of all name spans)
  where
    by_test : (b : Bool) → self_sum all name spans ≡ sum_by (λ s. self_time all s) (named nat_eq name spans) → cond b (self_time all s) 0 + self_sum all name spans ≡ sum_by (λ s. self_time all s) (cond b (s ∷ named nat_eq name spans) (named nat_eq name spans))
    by_test true rest = ap (λ n. self_time all s + n) rest ∙ sym (sum_by-cons (λ s. self_time all s) s (named nat_eq name spans))
    by_test false rest = omega (arith, rest)

pub cond-le : (b : Bool) (n : ℕ) → cond b n 0 ≤ n
cond-le true n = omega arith
cond-le false n = omega arith

-- what holds of all spans, at one of them
All-read : (P : Span ℕ → Type 0) (spans : List ClosedSpan) (i : ℕ) (s : ClosedSpan) → All P (map span_of spans) → i < length spans → s ≡ get_or spans i s → P (span_of s)
All-read P spans i s all within read =
    let here : get_or (map span_of spans) i (span_of s) ≡ span_of s = get_or-map span_of spans i s (span_of s) within ∙ ap span_of (sym read) in
    subst P here (all i (span_of s) (omega (arith, length-map spans span_of)))

pub lasts-read : (spans : List ClosedSpan) (i : ℕ) (s : ClosedSpan) → AreClosed (map span_of spans) → i < length spans → s ≡ get_or spans i s → s.start ≤ℤ s.until
lasts-read spans i s closed = All-read (λ (s : Span ℕ). s.start ≤ℤ s.until) spans i s (All-lasts (map span_of spans) closed.are)

pub IsInTime-read : (spans : List ClosedSpan) (i : ℕ) (s : ClosedSpan) → AreClosed (map span_of spans) → i < length spans → s ≡ get_or spans i s → IsInTime (span_of s)
IsInTime-read spans i s closed = All-read IsInTime spans i s closed.in_time
