-- The last element of a list, and the others.
use Rattle.std.specs.Option.{option_or, option_map}
use Rattle.std.proofs.{Common.{◌≡◌, suc, ◌-◌, List, [], ◌∷◌, ◌++◌, length, take, slice_get, map, Option, Some, None, refl, sym, ap, subst, ◌∙◌, arith, All}, lemmas.List.Elements.{All-head, All-tail}}
use Rattle.span_keyed_tracks.specs.Last.{last_of, without_last}

-- the element that was added is the last
pub last_of-append : {A : Type 0} (xs : List A) (x : A) → last_of (xs ++ x ∷ []) ≡ Some x
last_of-append [] x = refl
last_of-append (y ∷ ys) x = rw (last_of-append ys x) refl

-- without the element that was added the list is as before
pub without_last-append : {A : Type 0} (xs : List A) (x : A) → without_last (xs ++ x ∷ []) ≡ xs
without_last-append [] x = refl
without_last-append (y ∷ []) x = refl
without_last-append (y ∷ z ∷ zs) x = ap (λ l. y ∷ l) (without_last-append (z ∷ zs) x)

-- the same in the words of `Vec::pop`
pub take-without_last : {A : Type 0} (xs : List A) → take (length xs - 1) xs ≡ without_last xs
take-without_last [] = refl
take-without_last (x ∷ []) = refl
take-without_last (x ∷ y ∷ ys) =
    let fewer : length (x ∷ y ∷ ys) - 1 ≡ suc (length (y ∷ ys) - 1) = omega arith in
    rw fewer (ap (λ l. x ∷ l) (take-without_last (y ∷ ys)))

-- a second default is never taken
pub option_or-some : {A : Type 0} (o : Option A) (x : A) (other : Option A) → option_or (option_or o (Some x)) other ≡ option_or o (Some x)
option_or-some None x other = refl
option_or-some (Some y) x other = refl

-- the same in the words of `slice::last`
pub slice_get-last : {A : Type 0} (xs : List A) → slice_get xs (length xs - 1) ≡ last_of xs
slice_get-last [] = refl
slice_get-last (x ∷ []) = refl
slice_get-last (x ∷ y ∷ ys) =
    let fewer : length (x ∷ y ∷ ys) - 1 ≡ suc (length (y ∷ ys) - 1) = omega arith in
    ap (λ n. slice_get (x ∷ y ∷ ys) n) fewer ∙ slice_get-last (y ∷ ys)
    ∙ elim (last_of ys) as (λ o. option_or o (Some y) ≡ option_or (option_or o (Some y)) (Some x)) [ None ↦ refl | Some z ↦ refl ]

-- a map keeps the place of the last
pub last_of-map : {A B : Type 0} (f : A → B) (xs : List A) → last_of (map f xs) ≡ option_map f (last_of xs)
last_of-map f [] = refl
last_of-map f (x ∷ xs) = ap (λ o. option_or o (Some (f x))) (last_of-map f xs) ∙ elim (last_of xs) as (λ o. option_or (option_map f o) (Some (f x)) ≡ option_map f (option_or o (Some x))) [ None ↦ refl | Some z ↦ refl ]

-- the list is the others and then the element that `slice::last` reads
pub take-last : {A : Type 0} (xs : List A) (x : A) → Some x ≡ slice_get xs (length xs - 1) → xs ≡ take (length xs - 1) xs ++ x ∷ []
take-last [] x read = absurd cc
take-last (y ∷ []) x read = let same : x ≡ y = cc in ap (λ z. z ∷ []) (sym same)
take-last (y ∷ z ∷ ys) x read =
    let fewer : length (y ∷ z ∷ ys) - 1 ≡ suc (length (z ∷ ys) - 1) = omega arith in
    let rest : Some x ≡ slice_get (z ∷ ys) (length (z ∷ ys) - 1) = subst (λ n. Some x ≡ slice_get (y ∷ z ∷ ys) n) fewer read in
    rw fewer (ap (λ l. y ∷ l) (take-last (z ∷ ys) x rest))

-- what holds of all elements holds of the last
pub All-last_of : {A : Type 0} (P : A → Type 0) (xs : List A) → All P xs → (x : A) → last_of xs ≡ Some x → P x
All-last_of {A = A} P [] all x found = absurd (cc)
All-last_of {A = A} P (y ∷ ys) all x found = by_rest (last_of ys) (λ z. All-last_of P ys (All-tail P y ys all) z) found
  where
    by_rest : (o : Option A) → ((z : A) → o ≡ Some z → P z) → option_or o (Some y) ≡ Some x → P x
    by_rest None rest found = let same : y ≡ x = cc in subst P same (All-head P y ys all)
    by_rest (Some z) rest found = rest x found
