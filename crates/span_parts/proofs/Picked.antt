-- Values at some places.
use Rattle.std.specs.{List.cons_option, Prelude.slice_get}
use Rattle.std.proofs.{Common.{◌≡◌, ℕ, suc, ◌+◌, ◌<◌, List, [], ◌∷◌, ◌++◌, length, Option, Some, None, refl, sym, ap, ap₂, ◌∙◌, arith, append_assoc, length-append}, lemmas.Option.same_Some}
use Rattle.span_parts.specs.{picked}

-- at more places
pub picked-append : {A : Type 0} (xs : List A) (places more : List ℕ) → picked (places ++ more) xs ≡ picked places xs ++ picked more xs
picked-append xs [] more = refl
picked-append {A = A} xs (place ∷ places) more = by (slice_get xs place) (picked (places ++ more) xs) (picked places xs) (picked more xs) (picked-append xs places more)
  where
    by : (found : Option A) (l m k : List A) → l ≡ m ++ k → cons_option found l ≡ cons_option found m ++ k
    by None l m k same = same
    by (Some x) l m k same = ap (λ t. x ∷ t) same

-- the value behind those that were passed
slice_get-behind : {A : Type 0} (passed : List A) (x : A) (left : List A) → slice_get (passed ++ x ∷ left) (length passed) ≡ Some x
slice_get-behind [] x left = refl
slice_get-behind (y ∷ passed) x left = slice_get-behind passed x left

-- places that count up take each value, behind those that were passed
pub picked-each : {A : Type 0} (places : List ℕ) (passed left : List A) → ((n : ℕ) → n < length places → slice_get places n ≡ Some (n + length passed)) →
    length places ≡ length left → picked places (passed ++ left) ≡ left
picked-each [] passed [] counts same = refl
picked-each [] passed (x ∷ left) counts same = absurd (omega (arith, same))
picked-each (place ∷ places) passed [] counts same = absurd (omega (arith, same))
picked-each {A = A} (place ∷ places) passed (x ∷ left) counts same =
    let first : place ≡ length passed = same_Some _ _ (counts 0 (omega arith)) ∙ omega arith in
    let behind : (n : ℕ) → n < length places → slice_get places n ≡ Some (n + length (passed ++ x ∷ [])) =
    λ n below. counts (suc n) (omega (arith, below)) ∙ ap Some (omega (arith, length-append passed (x ∷ []))) in
    let rest = picked-each places (passed ++ x ∷ []) left behind (omega (arith, same)) in
    ap₂ cons_option (ap (slice_get (passed ++ x ∷ left)) first ∙ slice_get-behind passed x left) (ap (picked places) (sym (append_assoc passed (x ∷ []) left)) ∙ rest)
