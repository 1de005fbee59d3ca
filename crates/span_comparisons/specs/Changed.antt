-- How what changed is found: key by key of the base, and then of the other where the base lacks it.
use Rattle.std.specs.Prelude.{◌≡◌, ℕ, Bool, if◌then◌else◌, [], ◌∷◌, List, filter, is_none, length, map}
use Rattle.span_comparisons.specs.{Row, Wanted, no_sums, found_at, Changes.{Change, compared_at, is_changed, same_count, shown_changes}}

-- the keys of the base
abbrev pub base_keys : List Row → List Row → List Change
base_keys base other = map (λ (row : Row). compared_at base other row.key) base

-- the base lacks the key of the row
abbrev pub is_new : List Row → Row → Bool
is_new base row = is_none (found_at base row.key)

-- a key that only the other has
abbrev pub from_other : Row → Change
from_other row = record { key = row.key; both = record { base = no_sums; other = row.sums } }

-- the key of a row of the other, where the base lacks it
abbrev pub new_key : List Row → Row → List Change
new_key base row = if is_new base row then from_other row ∷ [] else []

-- the keys of the other that the base lacks
abbrev pub new_keys : List Row → List Row → List Change
new_keys base other = map (λ (row : Row). compared_at base other row.key) (filter (is_new base) other)

-- so many keys: those that are shown and changed, how many that are shown did not, and how many keys there are
pub record Classifies (wanted : Wanted) (keys found : List Change) (unchanged count : ℕ) : Type 0 where
  pub changes : found ≡ filter is_changed (shown_changes wanted keys)
  pub same : unchanged ≡ same_count (shown_changes wanted keys)
  pub all : count ≡ length keys
