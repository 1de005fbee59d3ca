-- Steps of many keys: those of one key, and what is kept for each key that has one.
use Rattle.std.specs.{BTreeMap.{insert_entry, is_at}, BTreeSet.insert_key, List.IsDistinct, Map.{keys_of, lookup}, Ordering.{eq_by_cmp, is_eq}, Prelude.{List, [], map, filter, fold, unwrap_or}, declared.cmp.Ordering.Ordering}

-- a step of a key
pub record Keyed (K A : Type 0) : Type 0 where
  pub key : K
  pub step : A

-- the distinct keys, in ascending order
abbrev pub ascending : {K : Type 0} → (K → K → Ordering) → List K → List K
ascending cmp keys = fold (insert_key cmp) [] keys

module _ {K A : Type 0} (cmp : K → K → Ordering) where
  -- the steps of one key, in order
  abbrev pub steps_at : K → List (Keyed K A) → List A
  steps_at key es = map (λ e. e.step) (filter (λ e. is_eq (cmp e.key key)) es)

  -- the keys that have a step
  abbrev pub keys_in : List (Keyed K A) → List K
  keys_in es = ascending cmp (map (λ e. e.key) es)

-- a key with what a function gives at it
abbrev pub entry_of : {K X : Type 0} → (K → X) → K → K × X
entry_of f key = (key, f key)

-- each key that has a step, with what its steps give
abbrev pub entries_in : {K A X : Type 0} → (K → K → Ordering) → (List A → X) → List (Keyed K A) → List (K × X)
entries_in cmp give es = map (entry_of (λ key. give (steps_at cmp key es))) (keys_in cmp es)

-- what is kept at a key; `none` where nothing is
abbrev pub kept_at : {K X : Type 0} → (K → K → Ordering) → X → List (K × X) → K → X
kept_at cmp none kept key = unwrap_or (lookup (is_at (cmp key)) kept) none

-- entries in ascending order of keys, the last of each key
abbrev pub in_key_order : {K X : Type 0} → (K → K → Ordering) → List (K × X) → List (K × X)
in_key_order cmp entries = fold (λ done e. insert_entry cmp done e.0 e.1) [] entries

-- each key has one entry
abbrev pub AreDistinct : {K X : Type 0} → (K → K → Ordering) → List (K × X) → Type 0
AreDistinct cmp entries = IsDistinct (eq_by_cmp cmp) (keys_of entries)
