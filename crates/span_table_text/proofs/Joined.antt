-- Texts with a byte between them.
use Rattle.std.specs.{List.join_with_byte, Prelude.flat_map}
use Rattle.std.proofs.{Common.{◌≡◌, ℕ, List, [], ◌∷◌, ◌++◌, map, sym, ap}, lemmas.List.append-nil}
use Rattle.span_table_text.specs.{Bytes}

-- texts with a byte between them, from the first and the others with the byte before each
pub join_with_byte-each : {A : Type 0} (b : ℕ) (f : A → Bytes) (x : A) (xs : List A) → join_with_byte b (map f (x ∷ xs)) ≡ f x ++ flat_map (λ y. b ∷ f y) xs
join_with_byte-each b f x [] = sym (append-nil (f x))
join_with_byte-each b f x (y ∷ ys) = ap (λ l. f x ++ b ∷ l) (join_with_byte-each b f y ys)
