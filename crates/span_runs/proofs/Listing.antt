-- The names that are found byte by byte are those between the separators.
use Rattle.std.specs.{List.{slice_split, onto_first}, Prelude.filter}
use Rattle.std.proofs.Common.{◌≡◌, ℕ, ◌==◌, Bool, true, false, cond, List, [], ◌∷◌, ◌++◌, refl, sym, ap, ap₂, ◌∙◌, append-nil, append_assoc}
use Rattle.span_runs.specs.{Bytes, Listing.{kept, names_from}, Names.{is_name, names_in, separator_of}}

-- these bytes before the first of these
abbrev onto : Bytes → List Bytes → List Bytes
onto begun [] = begun ∷ []
onto begun (first ∷ others) = (begun ++ first) ∷ others

filter-cons : (begun : Bytes) (others : List Bytes) → filter is_name (begun ∷ others) ≡ kept begun ++ filter is_name others
filter-cons [] others = refl
filter-cons (byte ∷ begun) others = refl

filter-onto_nothing : (pieces : List Bytes) → filter is_name (onto [] pieces) ≡ filter is_name pieces
filter-onto_nothing [] = refl
filter-onto_nothing (first ∷ others) = refl

onto-onto_first : (begun : Bytes) (byte : ℕ) (pieces : List Bytes) → onto (begun ++ byte ∷ []) pieces ≡ onto begun (onto_first byte pieces)
onto-onto_first begun byte [] = refl
onto-onto_first begun byte (first ∷ others) = ap (λ (p : Bytes). p ∷ others) (append_assoc begun (byte ∷ []) first)

module _ (separator : ℕ) where
  abbrev pieces_of : Bytes → List Bytes
  pieces_of bytes = slice_split (λ byte. byte == separator) bytes

  -- one more byte ends the name, or belongs to it
  step : (begun rest : Bytes) (byte : ℕ) → names_from separator [] rest ≡ filter is_name (onto [] (pieces_of rest)) →
      names_from separator (begun ++ byte ∷ []) rest ≡ filter is_name (onto (begun ++ byte ∷ []) (pieces_of rest)) → (ends : Bool) →
      cond ends (kept begun ++ names_from separator [] rest) (names_from separator (begun ++ byte ∷ []) rest)
      ≡ filter is_name (onto begun (cond ends ([] ∷ pieces_of rest) (onto_first byte (pieces_of rest))))
  step begun rest byte ended longer true =
      ap₂ (λ (xs ys : List Bytes). xs ++ ys) (ap kept (sym (append-nil begun))) (ended ∙ filter-onto_nothing (pieces_of rest))
      ∙ sym (filter-cons (begun ++ []) (pieces_of rest))
  step begun rest byte ended longer false = longer ∙ ap (filter is_name) (onto-onto_first begun byte (pieces_of rest))

  names_from-pieces_of : (begun rest : Bytes) → names_from separator begun rest ≡ filter is_name (onto begun (pieces_of rest))
  names_from-pieces_of begun [] = ap kept (sym (append-nil begun)) ∙ sym (append-nil (kept (begun ++ []))) ∙ sym (filter-cons (begun ++ []) [])
  names_from-pieces_of begun (byte ∷ rest) = step begun rest byte (names_from-pieces_of [] rest) (names_from-pieces_of (begun ++ byte ∷ []) rest) (byte == separator)

-- all of them
pub names_from-names_in : (bytes : Bytes) → names_from (separator_of bytes) [] bytes ≡ names_in bytes
names_from-names_in bytes = names_from-pieces_of (separator_of bytes) [] bytes ∙ filter-onto_nothing (pieces_of (separator_of bytes) bytes)
