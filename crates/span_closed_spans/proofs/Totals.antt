-- The totals of the names of closed spans.
use Rattle.std.specs.{List.sum_by, Map.keys_of}
use Rattle.std.proofs.{Common.{◌<◌, ◌≡◌, ℕ, ◌+◌, ◌*◌, ◌≤◌, ◌^◌, ◌==◌, Bool, true, false, cond, ◌≤ℤ◌, List, [], ◌∷◌, ◌++◌, length, nat_eq, arith, All}, lemmas.{Grind.common_steps, Int.ints, List.{Elements.{All-head, All-tail}, Sums.{sum_by-cons, length-filter, count_by-le-length}}}}
use Rattle.indexmap.specs.IndexSet.{insert_key}
use Rattle.span_self_time.proofs.Counts.{add-distance}
use Rattle.span_closed_spans.specs.{Span, length_of, named, AreSpans, IsInTime, Totals.{Totals, AreTotals, total_in, total_for}}

-- no more spans have a name than there are
pub count-le-length : (spans : List (Span ℕ)) (name : ℕ) → (total_for spans name).count ≤ length spans
count-le-length spans name =
    omega (arith, length-filter (λ (s : Span ℕ). nat_eq s.name name) spans, count_by-le-length (λ (s : Span ℕ). nat_eq s.name name) spans)

-- each length is below 2 ^ 64
pub length_of-le : (s : Span ℕ) → s.start ≤ℤ s.until → IsInTime s → length_of s < 2 ^ 64
length_of-le s lasts in_time = let e = add-distance s.start s.until lasts in omega (arith, ints, e)

pub total-le : (spans : List (Span ℕ)) (name : ℕ) → AreSpans spans → All IsInTime spans → (total_for spans name).total ≤ length spans * 2 ^ 64
total-le [] name are in_time = omega arith
total-le (s ∷ spans) name are in_time =
    by_test (nat_eq s.name name) (length_of-le s are.0 (All-head IsInTime s spans in_time)) (total-le spans name are.2 (All-tail IsInTime s spans in_time))
  where
    by_test : (b : Bool) → length_of s < 2 ^ 64 → (total_for spans name).total ≤ length spans * 2 ^ 64 → sum_by (λ s. length_of s) (cond b (s ∷ named nat_eq name spans) (named nat_eq name spans)) ≤ length (s ∷ spans) * 2 ^ 64
    by_test true here rest = omega (arith, sum_by-cons (λ s. length_of s) s (named nat_eq name spans))
    by_test false here rest = omega arith

-- one more span adds its length to the total of its name, and its name at the end where it is new
pub AreTotals-append : (before after : Totals) (spans : List (Span ℕ)) (s : Span ℕ) (more : ℕ) → AreTotals before spans → more ≡ length_of s → keys_of after ≡ insert_key nat_eq (keys_of before) s.name → ((other : ℕ) → total_in after other ≡ cond (s.name == other) (record { count = (total_in before s.name).count + 1; total = (total_in before s.name).total + more }) (total_in before other)) → AreTotals after (spans ++ s ∷ [])
AreTotals-append before after spans s more held length named added = grind (arith, ints, common_steps)
