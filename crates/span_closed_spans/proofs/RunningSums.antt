-- The self times of one name, summed span by span.
use Rattle.std.specs.List.{sum_by}
use Rattle.std.proofs.{Common.{◌≡◌, ℕ, ◌+◌, ◌<◌, ◌^◌, cond, List, [], ◌∷◌, ◌++◌, length, take, map, get_or, nat_eq, sym, ap, ◌∙◌, arith}, lemmas.List.{take_more, take-map, map_push, get_or-map, length-map, Sums.{sum_by_push, sum_by_more_le_part}}}
use Rattle.span_self_time.proofs.{SelfSums.{self_sum, cond-le}, SelfTimes.sum_by-self_time}
use Rattle.span_closed_spans.specs.{ClosedSpan, Span, self_time, span_of, AreClosed}
use Rattle.span_closed_spans.proofs.Unbroken.{busy_time-le}

pub self_sum-more : (all : List (Span ℕ)) (name : ℕ) (spans : List ClosedSpan) (i : ℕ) (s : ClosedSpan) → i < length spans → s ≡ get_or spans i s → self_sum all name (map span_of (take (i + 1) spans)) ≡ self_sum all name (map span_of (take i spans)) + cond (nat_eq s.name name) (self_time all (span_of s)) 0
unfolding self_sum
self_sum-more all name spans i s within read =
    let longer : take (i + 1) spans ≡ take i spans ++ s ∷ [] = take_more spans i s within ∙ ap (λ x. take i spans ++ x ∷ []) (sym read) in
    ap (λ l. sum_by (λ s. cond (nat_eq s.name name) (self_time all s) 0) (map span_of l)) longer
    ∙ ap (λ l. sum_by (λ s. cond (nat_eq s.name name) (self_time all s) 0) l) (map_push span_of (take i spans) s)
    ∙ sum_by_push (λ s. cond (nat_eq s.name name) (self_time all s) 0) (map span_of (take i spans)) (span_of s)

-- so far and the next of them stay within the busy time
pub self_sum-le : (name : ℕ) (spans : List ClosedSpan) (i : ℕ) (s : ClosedSpan) → AreClosed (map span_of spans) → i < length spans → s ≡ get_or spans i s → self_sum (map span_of spans) name (map span_of (take i spans)) + self_time (map span_of spans) (span_of s) < 2 ^ 64
unfolding self_sum
self_sum-le name spans i s closed within read =
    let all = map span_of spans in
    let there : i < length all = omega (arith, length-map spans span_of) in
    let parts = sum_by_more_le_part (λ s. cond (nat_eq s.name name) (self_time all s) 0) (λ s. self_time all s) all i (span_of s) there (λ s. cond-le (nat_eq s.name name) (self_time all s)) in
    let here : get_or all i (span_of s) ≡ span_of s = get_or-map span_of spans i s (span_of s) within ∙ ap span_of (sym read) in
    let front : take i all ≡ map span_of (take i spans) = take-map span_of i spans in
    omega (arith, rw (here, front) at parts, sum_by-self_time all closed.are, busy_time-le all closed.in_time)
