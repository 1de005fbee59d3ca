-- Lists that are made of sorted keys are sorted.
use Rattle.std.specs.{Cmp.{IsTotalOrder, tied_itself}, List.{AllByRecursion, cons_option, Sorted.IsStrictlySortedBy}, Ordering.ordering_then, Prelude.{flat_map, filter_map}, declared.cmp.Ordering.{Ordering, TheVariants.Less}}
use Rattle.std.proofs.Common.{◌≡◌, List, [], ◌∷◌, ◌++◌, refl, ap, ap₂, ◌∙◌, map, Option, Some, None}
pub use Rattle.span_keyed_tracks.proofs.Sorted.{AllByRecursion-map, insert_key-sorted, ascending-sorted}
use Rattle.span_journal.specs.{entry_of}

-- what holds of all of two lists holds of all of both together
pub AllByRecursion-append : {A : Type 0} (P : A → Type 0) (xs ys : List A) → AllByRecursion P xs → AllByRecursion P ys → AllByRecursion P (xs ++ ys)
AllByRecursion-append P [] ys first second = second
AllByRecursion-append P (x ∷ xs) ys first second = (first.0, AllByRecursion-append P xs ys first.1 second)

-- what holds of all that each gives holds of all that they give
pub AllByRecursion-flat_map : {A B : Type 0} (P : B → Type 0) (f : A → List B) → ((x : A) → AllByRecursion P (f x)) → (xs : List A) → AllByRecursion P (flat_map f xs)
AllByRecursion-flat_map P f each [] = tt
AllByRecursion-flat_map P f each (x ∷ xs) = AllByRecursion-append P (f x) (flat_map f xs) (each x) (AllByRecursion-flat_map P f each xs)

-- a function of what another gives for each
pub map-map : {A B C : Type 0} (f : B → C) (g : A → B) (xs : List A) → map f (map g xs) ≡ map (λ x. f (g x)) xs
map-map f g [] = refl
map-map f g (x ∷ xs) = ap (λ ys. f (g x) ∷ ys) (map-map f g xs)

module _ {K A : Type 0} (R : K → K → Ordering) (key : A → K) where
  -- one row for each of sorted keys
  pub map-sorted : (f : K → A) → ((k : K) → key (f k) ≡ k) → (keys : List K) → IsStrictlySortedBy R keys → IsStrictlySortedBy (λ a b. R (key a) (key b)) (map f keys)
  unfolding IsStrictlySortedBy
  map-sorted f made [] sorted = tt
  map-sorted f made (k ∷ keys) sorted = (below keys sorted.0, map-sorted f made keys sorted.1)
    where
      below : (ks : List K) → AllByRecursion (λ y. R k y ≡ Less) ks → AllByRecursion (λ b. R (key (f k)) (key b) ≡ Less) (map f ks)
      below [] h = tt
      below (y ∷ ys) h = (ap₂ R (made k) (made y) ∙ h.0, below ys h.1)

  -- one row for each entry of sorted keys
  pub entries-sorted : {X : Type 0} (row : K × X → A) (f : K → X) → ((k : K) → key (row (k, f k)) ≡ k) → (keys : List K) → IsStrictlySortedBy R keys →
      IsStrictlySortedBy (λ a b. R (key a) (key b)) (map row (map (entry_of f) keys))
  entries-sorted row f made keys sorted = rw (map-map row (entry_of f) keys) (map-sorted (λ k. row (k, f k)) made keys sorted)

  -- at most one row for each of sorted keys
  module _ (f : K → Option A) (made : (k : K) (a : A) → f k ≡ Some a → key a ≡ k) where
    below-kept : (k : K) (a : A) → key a ≡ k → (keys : List K) → AllByRecursion (λ y. R k y ≡ Less) keys → AllByRecursion (λ b. R (key a) (key b) ≡ Less) (filter_map f keys)
    below-kept k a is [] h = tt
    below-kept k a is (y ∷ ys) h = by (f y) refl (below-kept k a is ys h.1)
      where
        by : (o : Option A) → f y ≡ o → AllByRecursion (λ b. R (key a) (key b) ≡ Less) (filter_map f ys) → AllByRecursion (λ b. R (key a) (key b) ≡ Less) (cons_option o (filter_map f ys))
        by None e more = more
        by (Some b) e more = (ap₂ R is (made y b e) ∙ h.0, more)

    pub filter_map-sorted : (keys : List K) → IsStrictlySortedBy R keys → IsStrictlySortedBy (λ a b. R (key a) (key b)) (filter_map f keys)
    unfolding IsStrictlySortedBy
    filter_map-sorted [] sorted = tt
    filter_map-sorted (k ∷ keys) sorted = by (f k) refl (filter_map-sorted keys sorted.1)
      where
        by : (o : Option A) → f k ≡ o → IsStrictlySortedBy (λ a b. R (key a) (key b)) (filter_map f keys) → IsStrictlySortedBy (λ a b. R (key a) (key b)) (cons_option o (filter_map f keys))
        by None e more = more
        by (Some a) e more = (below-kept k a (made k a e) keys sorted.0, more)

-- to keep of what is made is to make and keep at once
pub filter_map-map : {A B C : Type 0} (f : B → Option C) (g : A → B) (xs : List A) → filter_map f (map g xs) ≡ filter_map (λ x. f (g x)) xs
filter_map-map f g [] = refl
filter_map-map f g (x ∷ xs) = ap (cons_option (f (g x))) (filter_map-map f g xs)

-- rows of sorted keys, each with sorted rows of its own
module _ {K A : Type 0} {R : K → K → Ordering} (o : IsTotalOrder R) (key : A → K) (T : A → A → Ordering)
    (f : K → List A) (made : (k : K) → AllByRecursion (λ a. key a ≡ k) (f k)) (inner : (k : K) → IsStrictlySortedBy T (f k)) where
  -- by key, and then in the order of one key's rows
  abbrev first_by_key : A → A → Ordering
  first_by_key a b = ordering_then (R (key a) (key b)) (T a b)

  of_one_key : (k : K) (xs : List A) → AllByRecursion (λ a. key a ≡ k) xs → IsStrictlySortedBy T xs → IsStrictlySortedBy first_by_key xs
  unfolding IsStrictlySortedBy
  of_one_key k [] same sorted = tt
  of_one_key k (x ∷ xs) same sorted = (each xs same.1 sorted.0, of_one_key k xs same.1 sorted.1)
    where
      each : (ys : List A) → AllByRecursion (λ a. key a ≡ k) ys → AllByRecursion (λ y. T x y ≡ Less) ys → AllByRecursion (λ y. first_by_key x y ≡ Less) ys
      each [] g h = tt
      each (y ∷ ys) g h = (ap₂ (λ r t. ordering_then r t) (ap₂ R same.0 g.0 ∙ tied_itself o k) h.0, each ys g.1 h.1)

  below-all : (a : A) (k : K) → key a ≡ k → (keys : List K) → AllByRecursion (λ y. R k y ≡ Less) keys → AllByRecursion (λ b. first_by_key a b ≡ Less) (flat_map f keys)
  below-all a k is [] h = tt
  below-all a k is (y ∷ ys) h = AllByRecursion-append _ (f y) (flat_map f ys) (each (f y) (made y)) (below-all a k is ys h.1)
    where
      each : (bs : List A) → AllByRecursion (λ b. key b ≡ y) bs → AllByRecursion (λ b. first_by_key a b ≡ Less) bs
      each [] g = tt
      each (b ∷ bs) g = (ap (λ r. ordering_then r (T a b)) (ap₂ R is g.0 ∙ h.0), each bs g.1)

  then-greater : (k : K) (xs ys : List A) → AllByRecursion (λ a. key a ≡ k) xs → IsStrictlySortedBy first_by_key xs →
      ((a : A) → key a ≡ k → AllByRecursion (λ b. first_by_key a b ≡ Less) ys) → IsStrictlySortedBy first_by_key ys → IsStrictlySortedBy first_by_key (xs ++ ys)
  unfolding IsStrictlySortedBy
  then-greater k [] ys same sorted below later = later
  then-greater k (x ∷ xs) ys same sorted below later =
      (AllByRecursion-append _ xs ys sorted.0 (below x same.0), then-greater k xs ys same.1 sorted.1 below later)

  pub flat_map-sorted : (keys : List K) → IsStrictlySortedBy R keys → IsStrictlySortedBy first_by_key (flat_map f keys)
  unfolding IsStrictlySortedBy
  flat_map-sorted [] sorted = tt
  flat_map-sorted (k ∷ keys) sorted =
      then-greater k (f k) (flat_map f keys) (made k) (of_one_key k (f k) (made k) (inner k)) (λ a is. below-all a k is keys sorted.0) (flat_map-sorted keys sorted.1)
