-- What a name's number says, and that it stays.
use Rattle.std.specs.Cmp.Lexicographic.{bytes_decides}
use Rattle.std.proofs.{Common.{◌≡◌, ℕ, Bool, true, false, cond, List, [], ◌∷◌, ◌++◌, get_or, Some, is_some, slice_get, ap, ◌∙◌}, lemmas.{List.Quantifiers.position-Some, Option.slice_get-get_or}}
use Rattle.span_names.specs.{same_text, Numbering.{number_in, with_name}}
use Rattle.span_names.proofs.Places.{position-front}

-- the text at its number
pub slice_get-number_in : (names : List (List ℕ)) (text : List ℕ) (n : ℕ) → number_in names text ≡ Some n → slice_get names n ≡ Some text
slice_get-number_in names text n found =
    let at = position-Some (λ name. same_text name text) names n text found in
    slice_get-get_or names n text at.0 ∙ ap Some ((bytes_decides (get_or names n text) text).0 at.1)

-- a number stays when a name is added
pub number_in-with_name : (names : List (List ℕ)) (text other : List ℕ) (n : ℕ) → number_in names text ≡ Some n → number_in (with_name names other) text ≡ Some n
number_in-with_name names text other n found = by_test (is_some (number_in names other))
  where
    by_test : (b : Bool) → number_in (cond b names (names ++ other ∷ [])) text ≡ Some n
    by_test true = found
    by_test false = position-front (λ name. same_text name text) names (other ∷ []) n found
