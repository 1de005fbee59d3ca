-- The number that refused most, where one more refused more than those before it.
use Rattle.std.specs.Prelude.{nat_lt}
use Rattle.std.proofs.{Common.{◌≡◌, ◌<◌, ℕ, true, cond, List, [], ◌∷◌, ◌++◌, ap, ◌∙◌, arith}, lemmas.{Bool.Decides.nat_tests, List.Sums.fold_push}}
use Rattle.span_collect.specs.{Refusals.Warnings.{most_of, most_with}, declared.refusals.tally.Refused.Refused}

pub most_of-push : (rows : List (ℕ × Refused)) (row : ℕ × Refused) → (most_of rows).1 < row.1.count → most_of (rows ++ row ∷ []) ≡ (row.0, row.1.count)
most_of-push rows row more = fold_push most_with (0, 0) rows row ∙ ap (λ b. cond b (row.0, row.1.count) (most_of rows)) (yes (most_of rows).1 row.1.count more)
  where
    yes : (m n : ℕ) → m < n → nat_lt m n ≡ true
    yes m n less = grind (arith, nat_tests)
