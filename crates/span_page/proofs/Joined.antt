-- Texts with commas between them.
use Rattle.std.specs.List.{join_with_byte}
use Rattle.std.proofs.Common.{◌≡◌, ℕ, List, [], ◌∷◌, ◌++◌, flat_map, refl, sym, ap, ◌∙◌, append_assoc, append-nil}

-- the first, and each other with a comma before it
pub join_with_byte_cons : (text : List ℕ) (texts : List (List ℕ)) → join_with_byte 44 (text ∷ texts) ≡ text ++ flat_map (λ t. 44 ∷ t) texts
join_with_byte_cons text [] = sym (append-nil text)
join_with_byte_cons text (next ∷ texts) = ap (λ t. text ++ (44 ∷ t)) (join_with_byte_cons next texts)

-- texts of which the first has this before it, and each other a comma
abbrev pub joined_after : List ℕ → List (List ℕ) → List ℕ
joined_after before [] = []
joined_after before (text ∷ texts) = before ++ (text ++ flat_map (λ t. 44 ∷ t) texts)

-- with nothing before the first they are just separated by commas
pub joined_after-nothing : (texts : List (List ℕ)) → joined_after [] texts ≡ join_with_byte 44 texts
joined_after-nothing [] = refl
joined_after-nothing (text ∷ texts) = sym (join_with_byte_cons text texts)

-- the first of them, and the others with commas
pub joined_after-cons : (out before text : List ℕ) (texts : List (List ℕ)) → out ++ joined_after before (text ∷ texts) ≡ ((out ++ before) ++ text) ++ joined_after (44 ∷ []) texts
joined_after-cons out before text texts = ap (λ t. out ++ (before ++ (text ++ t))) (commas texts) ∙ sym (append_assoc (out ++ before) text (joined_after (44 ∷ []) texts) ∙ append_assoc out before (text ++ joined_after (44 ∷ []) texts))
  where
    commas : (ts : List (List ℕ)) → flat_map (λ t. 44 ∷ t) ts ≡ joined_after (44 ∷ []) ts
    commas [] = refl
    commas (t ∷ ts) = refl
