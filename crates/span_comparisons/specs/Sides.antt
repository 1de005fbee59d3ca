-- What is known of a side of repeated runs while its keys are looked up.
use Rattle.std.specs.Prelude.{◌≡◌, ℕ, List, filter}
use Rattle.span_comparisons.specs.{SpanTable, Spreads.{Spreads, is_apart, overlap_count, same_spread_count}}

-- the tables of a side, and the values that were found last
pub record SideValues : Type 0 where
  pub tables : List SpanTable
  pub values : List ℕ

-- so many keys: those whose sides are apart, how many overlap, and how many are spread the same
pub record ClassifiesSpreads (spreads found : List Spreads) (overlap same : ℕ) : Type 0 where
  pub apart : found ≡ filter is_apart spreads
  pub overlaps : overlap ≡ overlap_count spreads
  pub sames : same ≡ same_spread_count spreads
