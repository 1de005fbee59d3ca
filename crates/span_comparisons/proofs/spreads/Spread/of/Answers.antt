use Rattle.std.proofs.Common.{◌≡◌, ◌-◌, ◌/◌, ℕ, List, get_or, length, ap, ap₂, ◌∙◌, arith}
use Rattle.span_comparisons.specs.Spreads.{sorted}
use Rattle.span_comparisons.proofs.Sorts.{sorted-ends, sorted-from_sort}
use Rattle.span_comparisons.proofs.spreads.Spread.of.Goals as goal

pub returns-clause-value : goal.returns-clause-value
returns-clause-value c =
    let values = c.args.values.now in
    let ordered = c.sort_unstable.new.self in
    let is : ordered ≡ sorted values =
    sorted-from_sort values ordered c.sort_unstable.ensures.permutation c.sort_unstable.ensures.sorted in
    let last : c.saturating_sub-last.result ≡ length values - 1 = omega (arith, c.saturating_sub-last.ensures, c.sort_unstable.ensures.len) in
    let median = c.number_at.ensures ∙ ap₂ (λ (ns : List ℕ) (n : ℕ). get_or ns (n / 2) 0) is last in
    let least = c.number_at-2.ensures ∙ ap (λ (ns : List ℕ). get_or ns 0 0) is in
    let greatest = c.number_at-3.ensures ∙ ap₂ (λ (ns : List ℕ) (n : ℕ). get_or ns n 0) is last in
    λ i. record { median = median i; least = least i; greatest = greatest i }

pub returns-clause-order : goal.returns-clause-order
returns-clause-order c =
    let values = c.args.values.now in
    let ordered = c.sort_unstable.new.self in
    let is : ordered ≡ sorted values =
    sorted-from_sort values ordered c.sort_unstable.ensures.permutation c.sort_unstable.ensures.sorted in
    let last : c.saturating_sub-last.result ≡ length values - 1 = omega (arith, c.saturating_sub-last.ensures, c.sort_unstable.ensures.len) in
    let least = c.number_at-2.ensures ∙ ap (λ (ns : List ℕ). get_or ns 0 0) is in
    let greatest = c.number_at-3.ensures ∙ ap₂ (λ (ns : List ℕ) (n : ℕ). get_or ns n 0) is last in
    omega (arith, least, greatest, sorted-ends values)
