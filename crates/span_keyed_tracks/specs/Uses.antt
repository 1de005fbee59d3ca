-- What is kept for each key that events use, in the order of its first use.
use Rattle.std.specs.{Ordering.eq_by_cmp, Prelude.{List, [], map, fold, flat_map}, declared.cmp.Ordering.Ordering}
use Rattle.indexmap.specs.IndexSet.{insert_key}
use Rattle.span_keyed_tracks.specs.Keyed.{entry_of}

-- the distinct keys, in the order of their first use
abbrev pub first_uses : {K : Type 0} → (K → K → Ordering) → List K → List K
first_uses cmp keys = fold (insert_key (eq_by_cmp cmp)) [] keys

module _ {E K X : Type 0} (cmp : K → K → Ordering) (keys : E → List K) (give : List E → K → X) where
  -- each key that an event uses, with what the events give for it, in the order of its first use
  abbrev pub uses_in : List E → List (K × X)
  uses_in es = map (entry_of (give es)) (first_uses cmp (flat_map keys es))
