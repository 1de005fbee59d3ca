-- Selecting twice, and selecting before or after elements give others.
use Rattle.std.specs.{List.cons_option, Prelude.{filter, filter_map}}
use Rattle.std.proofs.{Common.{◌≡◌, List, [], ◌∷◌, Bool, true, false, cond, map, Option, Some, None, All, refl, sym, ap, ap₂, ◌∙◌}, lemmas.List.Elements.{All-head, All-tail}}

-- functions that agree at each element
pub map-same : {A B : Type 0} (f g : A → B) (xs : List A) → All (λ x. f x ≡ g x) xs → map f xs ≡ map g xs
map-same f g [] same = refl
map-same f g (x ∷ xs) same = ap₂ (λ y ys. y ∷ ys) (All-head (λ z. f z ≡ g z) x xs same) (map-same f g xs (All-tail (λ z. f z ≡ g z) x xs same))

module _ {A : Type 0} (p q : A → Bool) (wider : (x : A) → p x ≡ true → q x ≡ true) where
  -- a selection of what a wider one selects
  pub filter-filter : (xs : List A) → filter p (filter q xs) ≡ filter p xs
  filter-filter [] = refl
  filter-filter (x ∷ xs) = by (p x) (q x) refl refl (filter-filter xs)
    where
      by : (b c : Bool) → p x ≡ b → q x ≡ c → filter p (filter q xs) ≡ filter p xs → filter p (cond c (x ∷ filter q xs) (filter q xs)) ≡ cond b (x ∷ filter p xs) (filter p xs)
      by b true h k rest = ap (λ t. cond t (x ∷ filter p (filter q xs)) (filter p (filter q xs))) h ∙ ap (λ l. cond b (x ∷ l) l) rest
      by true false h k rest = let clash : true ≡ false = sym (wider x h) ∙ k in absurd cc
      by false false h k rest = rest

module _ {A B : Type 0} (h : A → Option B) (p : A → Bool) (q : B → Bool) (selected : (x : A) (y : B) → h x ≡ Some y → q y ≡ true → p x ≡ true) where
  -- where p selects each element that gives one that q selects
  pub filter-filter_map : (xs : List A) → filter q (filter_map h (filter p xs)) ≡ filter q (filter_map h xs)
  filter-filter_map [] = refl
  filter-filter_map (x ∷ xs) = by (p x) refl (h x) refl (filter-filter_map xs)
    where
      kept : (o : Option B) → filter q (filter_map h (filter p xs)) ≡ filter q (filter_map h xs) → filter q (cons_option o (filter_map h (filter p xs))) ≡ filter q (cons_option o (filter_map h xs))
      kept None rest = rest
      kept (Some y) rest = ap (λ l. cond (q y) (y ∷ l) l) rest

      dropped : (y : B) (c : Bool) → h x ≡ Some y → q y ≡ c → p x ≡ false → filter q (filter_map h (filter p xs)) ≡ filter q (filter_map h xs) → filter q (filter_map h (filter p xs)) ≡ cond c (y ∷ filter q (filter_map h xs)) (filter q (filter_map h xs))
      dropped y true gives test none rest = let clash : true ≡ false = sym (selected x y gives test) ∙ none in absurd cc
      dropped y false gives test none rest = rest

      by : (b : Bool) → p x ≡ b → (o : Option B) → h x ≡ o → filter q (filter_map h (filter p xs)) ≡ filter q (filter_map h xs) → filter q (filter_map h (cond b (x ∷ filter p xs) (filter p xs))) ≡ filter q (cons_option o (filter_map h xs))
      by true e o gives rest = ap (λ o. filter q (cons_option o (filter_map h (filter p xs)))) gives ∙ kept o rest
      by false e None gives rest = rest
      by false e (Some y) gives rest = dropped y (q y) gives refl e rest
