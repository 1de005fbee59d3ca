-- The numbers of names.
use Rattle.std.specs.{List.find, Prelude.{Some}, Str.bytes_eq}
use Rattle.std.proofs.{Common.{Bor, ◌≡◌, ◌∙◌, ◌<◌, ◌+◌, ℕ, Bool, true, false, cond, zero, suc, refl, sym, ap, ap₂, arith, List, [], ◌∷◌, ◌++◌, drop, length, map, take, slice_index_or}, lemmas.{List.map-append, Slice.Eq.bytes_eq-Decides}}
use Rattle.span_request.specs.{Bytes, Number, number_name, number_named, Numbers.AreCalled}
use Rattle.span_request.proofs.ColumnNames.{take-next}
use Rattle.span_table.specs.Numbers.{all_numbers}
use Rattle.span_table.proofs.Numbers.{number-called}

-- what is found passes
find-passes : (p : Number → Bool) (numbers : List Number) (number : Number) → find p numbers ≡ Some number → p number ≡ true
find-passes p [] number e = cc
find-passes p (first ∷ numbers) number e = by (p first) refl (find-passes p numbers number) e
  where
    by : (b : Bool) → p first ≡ b → (find p numbers ≡ Some number → p number ≡ true) → cond b (Some first) (find p numbers) ≡ Some number → p number ≡ true
    by true is later e = let same : first ≡ number = cc in ap p (sym same) ∙ is
    by false is later e = later e

-- the number that is found has the name
called-named : (name : Bytes) (number : Number) → number_named name ≡ Some number → number_name number ≡ name
called-named name number e =
    (bytes_eq-Decides (number_name number) name).0 (find-passes (λ n. bytes_eq (number_name n) name) all_numbers number e)

-- where each name is that of a number, one is found for the name at a place
pub AreCalled-at : (names : List (Bor Bytes)) (numbers : List Number) (i : ℕ) (d : Bor Bytes) → i < length names → AreCalled (map (λ name. name.now) names) numbers
    → (number : Number) × (number_named (slice_index_or names i d).now ≡ Some number)
AreCalled-at [] numbers i d low are = absurd (omega arith)
AreCalled-at (name ∷ names) [] i d low are =
    let none : 0 ≡ suc (length (map (λ other. other.now) names)) = ap length are in
    absurd (omega arith)
AreCalled-at (name ∷ names) (number ∷ numbers) zero d low are =
    (number, sym (ap (λ all. number_named (slice_index_or all 0 [])) are) ∙ number-called number)
AreCalled-at (name ∷ names) (number ∷ numbers) (suc i) d low are = AreCalled-at names numbers i d (omega arith) (ap (drop 1) are)

-- one more name, and one more number
pub AreCalled-next : (names : List (Bor Bytes)) (i : ℕ) (d : Bor Bytes) (numbers new : List Number) (number : Number) → i < length names
    → AreCalled (map (λ name. name.now) (take i names)) numbers → number_named (slice_index_or names i d).now ≡ Some number → new ≡ numbers ++ number ∷ []
    → AreCalled (map (λ name. name.now) (take (i + 1) names)) new
AreCalled-next names i d numbers new number low are is pushed =
    ap (map number_name) pushed ∙ map-append number_name numbers (number ∷ []) ∙ ap₂ (λ a b. a ++ b ∷ []) are (called-named (slice_index_or names i d).now number is)
    ∙ sym (map-append (λ name. name.now) (take i names) (slice_index_or names i d ∷ [])) ∙ sym (ap (map (λ name. name.now)) (take-next names i d low))
