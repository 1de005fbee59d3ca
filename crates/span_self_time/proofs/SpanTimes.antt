-- That a span's self time is the time that the spans leave it, and that the owners are settled.
use Rattle.std.specs.{List.sum_by, Option.is_some}
use Rattle.std.proofs.{Common.{◌≡◌, ◌≢◌, ◌<◌, ◌+◌, map, take, length, get_or, arith, ℕ, nat_eq, Bool, true, false, cond, ◌&&◌, Option, None, Some, ℤ, ◌≤ℤ◌, List, refl, sym, ap, ◌∙◌, subst, true≢false, All, not, [], ◌∷◌}, lemmas.{Int.ints, Grind.common_steps, Bool.{false_from_ne_true, and_parts, not-true}, List.{take-map, get_or-map, length-map, Folds.{list_any_at, list_any_none}, Elements.{All-head, All-tail, All-nil, All-cons}, Sums.sum_by-cons}}}
use Rattle.span_self_time.specs.{distance, least_time, Closed.{greatest_until, span_of, AreClosed}, Division.{bare, claims, taken, owners_of, IsNew, AreSettled, OwnTimes.{has_name, time_of}}, Spans.{Span, covers, count_from, self_time, self_of, busy_time, outranks, is_outranked, is_covered}, declared.span.ClosedSpan.ClosedSpan, Laws.AreSpans}
use Rattle.span_self_time.proofs.{Apart.{IsApart-read, All-apart}, Owners.{list_any-owners_of, owners_of-All, owners_of-apart, covers-owners_of, at-owners_of}, SelfSums.{self_sum, self_sum-self_of}, SelfTimes.{sum_by-self_time, self_times-within}, Counts.sum_by-count_from, Ranks.{outranks-itself, outranks-trans, IsRanked-spans}, Tops.{one_if, sum_by-tops}}

-- a position is that of one span
same_span : (spans : List (Span ℕ)) → AreSpans spans → All (λ s. All (λ z. z.at ≡ s.at → z ≡ s) spans) spans
same_span [] are = All-nil (λ (s : Span ℕ). All (λ z. z.at ≡ s.at → z ≡ s) [])
same_span (x ∷ spans) are =
    let apart = All-apart x.at spans are.1 in
    let rest = same_span spans are.2 in
    All-cons (λ (s : Span ℕ). All (λ z. z.at ≡ s.at → z ≡ s) (x ∷ spans)) x spans
    (All-cons (λ (z : Span ℕ). z.at ≡ x.at → z ≡ x) x spans (λ same. refl) (λ k d within same. absurd (apart k d within same)))
    (λ k d within. let s = get_or spans k d in All-cons (λ (z : Span ℕ). z.at ≡ s.at → z ≡ s) x spans (λ same. absurd (apart k d within (sym same))) (rest k d within))

-- a span above which no span ranks is the owner of what it covers
owners_of-top : (spans : List (Span ℕ)) → AreSpans spans → (u : ℤ) → All (λ s. (covers s u && not (is_outranked spans s u)) ≡ true → owners_of spans u ≡ Some (bare s)) spans
owners_of-top spans are u = λ k d within top.
    let s = get_or spans k d in
    let parts = and_parts (covers s u) (not (is_outranked spans s u)) top in
    by_owner s (same_span spans are k d within) parts.0 (λ o found. at-owners_of spans u o found k d within parts.0 (not-true _ parts.1)) (λ none. true≢false (sym parts.0 ∙ covers-owners_of spans u none k d within)) (owners_of spans u) refl
  where
    by_owner : (s : Span ℕ) → All (λ z. z.at ≡ s.at → z ≡ s) spans → covers s u ≡ true → ((o : Span ℕ) → owners_of spans u ≡ Some o → s.at ≡ o.at) → (owners_of spans u ≡ None → ⊥) → (o : Option (Span ℕ)) → owners_of spans u ≡ o → o ≡ Some (bare s)
    by_owner s one here at owned None none = absurd (owned none)
    by_owner s one here at owned (Some o) found =
        let owner = owners_of-All (λ z. z.at ≡ s.at → z ≡ s) spans one u o found in
        ap Some (sym owner.is ∙ ap bare (owner.holds (ap (λ (z : Span ℕ). z.at) owner.is ∙ sym (at o found))))

-- some span covers what has an owner, and no other tick
pub is_covered-owners_of : (spans : List (Span ℕ)) (u : ℤ) → is_covered spans u ≡ is_some (owners_of spans u)
is_covered-owners_of spans u = by_owner (owners_of spans u) refl
  where
    by_owner : (o : Option (Span ℕ)) → owners_of spans u ≡ o → is_covered spans u ≡ is_some o
    by_owner None none = list_any_none (λ s. covers s u) spans (covers-owners_of spans u none)
    by_owner (Some o) found =
        let owner = owners_of-All (λ z. covers z u ≡ true → is_covered spans u ≡ true) spans (λ k d within. list_any_at (λ z. covers z u) spans k d within) u o found in
        owner.holds owner.covers

-- where the second test passes, the first agrees with a third
one_if-agreed : (a b t : Bool) → (t ≡ true → a ≡ b) → one_if (a && t) ≡ cond b (one_if t) 0
one_if-agreed true true t same = refl
one_if-agreed false false t same = refl
one_if-agreed true false true same = absurd (true≢false (same refl))
one_if-agreed true false false same = refl
one_if-agreed false true true same = absurd (true≢false (sym (same refl)))
one_if-agreed false true false same = refl

sum_by-agreed : {A : Type 0} (a : A → Bool) (b : Bool) (t : A → Bool) (xs : List A) → All (λ x. t x ≡ true → a x ≡ b) xs → sum_by (λ x. one_if (a x && t x)) xs ≡ cond b (sum_by (λ x. one_if (t x)) xs) 0
sum_by-agreed a true t [] same = refl
sum_by-agreed a false t [] same = refl
sum_by-agreed a true t (x ∷ xs) same = grind (arith, ints, common_steps, one_if-agreed, All-head, All-tail, sum_by-cons, sum_by-agreed a true t xs (All-tail (λ y. t y ≡ true → a y ≡ true) x xs same))
sum_by-agreed a false t (x ∷ xs) same = grind (arith, ints, common_steps, one_if-agreed, All-head, All-tail, sum_by-cons, sum_by-agreed a false t xs (All-tail (λ y. t y ≡ true → a y ≡ false) x xs same))

-- where the owner of u passes a test, it alone counts
sum_by-owners_of : (q : Option (Span ℕ) → Bool) → q None ≡ false → (spans : List (Span ℕ)) → AreSpans spans → (u : ℤ) → sum_by (λ s. one_if (q (Some (bare s)) && (covers s u && not (is_outranked spans s u)))) spans ≡ one_if (q (owners_of spans u))
sum_by-owners_of q none spans are u =
    sum_by-agreed (λ s. q (Some (bare s))) (q (owners_of spans u)) (λ s. covers s u && not (is_outranked spans s u)) spans (λ k d within top. ap q (sym (owners_of-top spans are u k d within top)))
    ∙ ap (λ n. cond (q (owners_of spans u)) n 0) (sum_by-tops outranks (λ a. covers a u) outranks-itself outranks-trans spans (IsRanked-spans spans are) ∙ ap one_if (is_covered-owners_of spans u))
    ∙ by_owner (owners_of spans u)
  where
    by_owner : (o : Option (Span ℕ)) → cond (q o) (one_if (is_some o)) 0 ≡ one_if (q o)
    by_owner None = ap (λ b. cond b 0 0) none ∙ sym (ap one_if none)
    by_owner (Some o) = refl

-- the self times of the spans that pass a test are together the time in which the owner passes it
pub sum_by-self_times : (q : Option (Span ℕ) → Bool) → q None ≡ false → (spans : List (Span ℕ)) → AreSpans spans → (a b : ℤ) → All (λ s. (a ≤ℤ s.start) × (s.until ≤ℤ b)) spans → sum_by (λ s. cond (q (Some (bare s))) (self_time spans s) 0) spans ≡ count_from a (distance a b) (λ u. q (owners_of spans u))
sum_by-self_times q none spans are a b within =
    self_times-within (λ s. q (Some (bare s))) a b spans spans are within
    ∙ sum_by-count_from (λ s u. q (Some (bare s)) && (covers s u && not (is_outranked spans s u))) (λ u. q (owners_of spans u)) spans (sum_by-owners_of q none spans are) a (distance a b)

-- the self times of the spans that pass a test are together the time in which the owner passes it
pub time_of-owners_of : (q : Option (Span ℕ) → Bool) → q None ≡ false → (spans : List (Span ℕ)) → AreClosed spans → time_of q (owners_of spans) ≡ sum_by (λ s. cond (q (Some (bare s))) (self_time spans s) 0) spans
unfolding time_of
time_of-owners_of q none spans closed = from least_time greatest_until closed.in_time
  where
    from : (a b : ℤ) → All (λ s. (a ≤ℤ s.start) × (s.until ≤ℤ b)) spans → count_from a (distance a b) (λ u. q (owners_of spans u)) ≡ sum_by (λ s. cond (q (Some (bare s))) (self_time spans s) 0) spans
    from a b within = sym (sum_by-self_times q none spans closed.are a b within)

pub time_of-self_of : (spans : List (Span ℕ)) → AreClosed spans → (name : ℕ) → time_of (has_name name) (owners_of spans) ≡ self_of nat_eq name spans
unfolding self_sum
time_of-self_of spans closed name = time_of-owners_of (has_name name) refl spans closed ∙ self_sum-self_of spans name spans

pub time_of-busy_time : (spans : List (Span ℕ)) → AreClosed spans → time_of is_some (owners_of spans) ≡ busy_time spans
time_of-busy_time spans closed = time_of-owners_of is_some refl spans closed ∙ sum_by-self_time spans closed.are

without : (a b : Bool) → a ≡ true → (a && b) ≡ false → b ≡ false
without true b here none = none
without false b here none = absurd (true≢false (sym here))

-- no span has a claim on the time that it covers
unclaimed : (spans : List (Span ℕ)) → All (λ z. (v : ℤ) → covers z v ≡ true → claims (bare z) (owners_of spans v) ≡ false) spans
unclaimed spans = λ k d within v here. without _ _ here (false_from_ne_true _ (λ claimed.
    true≢false (sym (list_any_at (λ s. covers s v && claims (bare s) (owners_of spans v)) spans k d within claimed) ∙ list_any-owners_of spans v)))

pub AreSettled-owners_of : (spans : List (Span ℕ)) → AreSettled (owners_of spans)
AreSettled-owners_of spans = record {
  own = λ u o is.
      let owner = owners_of-All (λ z. (v : ℤ) → covers z v ≡ true → claims (bare z) (owners_of spans v) ≡ false) spans (unclaimed spans) u o is in
      ap (λ (z : Span ℕ). covers z u) (sym owner.is) ∙ owner.covers;
  no_claim = λ u v o is here.
      let owner = owners_of-All (λ z. (v : ℤ) → covers z v ≡ true → claims (bare z) (owners_of spans v) ≡ false) spans (unclaimed spans) u o is in
      ap (λ (z : Span ℕ). claims z (owners_of spans v)) (sym owner.is) ∙ owner.holds v (ap (λ (z : Span ℕ). covers z v) owner.is ∙ here);
}

pub IsNew-read : (spans : List ClosedSpan) (i : ℕ) (s : ClosedSpan) → AreClosed (map span_of spans) → i < length spans → s ≡ get_or spans i s → IsNew (bare (span_of s)) (owners_of (map span_of (take i spans)))
IsNew-read spans i s closed within read =
    let all = map span_of spans in
    let here : span_of s ≡ get_or all i (span_of s) = sym (get_or-map span_of spans i s (span_of s) within ∙ ap span_of (sym read)) in
    let apart = IsApart-read all i (span_of s) closed.are (omega (arith, within, length-map spans span_of)) here in
    owners_of-apart (map span_of (take i spans)) s.at (subst (λ (l : List (Span ℕ)). All (λ x. x.at ≢ s.at) l) (take-map span_of i spans) apart)

pub owners_of-more : (spans : List ClosedSpan) (i : ℕ) (s : ClosedSpan) → i < length spans → s ≡ get_or spans i s → owners_of (map span_of (take (i + 1) spans)) ≡ taken (bare (span_of s)) (owners_of (map span_of (take i spans)))
owners_of-more spans i s within read = grind (arith, ints, common_steps)
