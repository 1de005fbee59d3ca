-- Where some columns stand among others.
use Rattle.std.specs.{List.cons_option, Prelude.slice_get}
use Rattle.std.proofs.Common.{◌≡◌, ℕ, zero, suc, ◌<◌, List, [], ◌∷◌, map, get_or, Option, Some, length, refl, ap, ◌∙◌, arith}
use Rattle.span_parts.specs.{Column, picked, Sum.AreAt}

-- what stands at the places of some columns are these
pub picked-at : (places : List ℕ) (wanted columns : List Column) → AreAt places wanted columns → picked places columns ≡ wanted
picked-at places wanted columns at = by places ∙ ap somes at ∙ back wanted
  where
    somes : List (Option Column) → List Column
    somes [] = []
    somes (column ∷ columns) = cons_option column (somes columns)

    by : (places : List ℕ) → picked places columns ≡ somes (map (slice_get columns) places)
    by [] = refl
    by (place ∷ places) = ap (cons_option (slice_get columns place)) (by places)

    back : (columns : List Column) → somes (map Some columns) ≡ columns
    back [] = refl
    back (column ∷ columns) = ap (λ l. column ∷ l) (back columns)

-- each of them stands somewhere
pub AreAt-each : (places : List ℕ) (wanted columns : List Column) → AreAt places wanted columns → (i : ℕ) (d : Column) → i < length wanted → (place : ℕ) × (slice_get columns place ≡ Some (get_or wanted i d))
AreAt-each places [] columns at i d lt = absurd (omega (arith, lt))
AreAt-each [] (column ∷ wanted) columns at i d lt = absurd cc
AreAt-each (place ∷ places) (column ∷ wanted) columns at zero d lt = (place, cc)
AreAt-each (place ∷ places) (column ∷ wanted) columns at (suc i) d lt =
    let rest : map (slice_get columns) places ≡ map Some wanted = cc in
    AreAt-each places wanted columns rest i d (omega (arith, lt))
