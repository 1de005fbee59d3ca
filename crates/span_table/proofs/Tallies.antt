-- What sums under keys come to: it is decided by which keys there are, and by what those of each key come to.
use Rattle.std.specs.{Cmp.IsTotalOrder, List.{AllByRecursion, Sorted.IsStrictlySortedBy}, Ordering.is_eq, Prelude.{filter, max, nat_lt, sum_by}, declared.cmp.Ordering.{Ordering, TheVariants.{Less, Equal}}}
use Rattle.std.proofs.{Common.{◌≡◌, ℕ, ◌+◌, Bool, true, false, ◌||◌, cond, List, [], ◌∷◌, ◌++◌, map, refl, sym, ap, ap₂, ◌∙◌, arith}, lemmas.List.{map-append, Elements.filter-append, Sums.sum_by-cons}}
use Rattle.span_keyed_tracks.proofs.Keyed.{has_key, same_from_is_eq}
use Rattle.span_table.specs.{Keyed, steps_at, Sums.{no_sums, number_by, sums_together, with_sums}, declared.{number.Number.{Number, TheVariants.SelfTime}, sums.Sums.Sums}}
use Rattle.span_table.proofs.Numbers.{same_numbers}

-- those of nothing change nothing
pub with_sums-none : (a : Sums) → with_sums no_sums a ≡ a
with_sums-none a = same_numbers (with_sums no_sums a) a each
  where
    each : (n : Number) → number_by n (with_sums no_sums a) ≡ number_by n a
    each SelfTime = omega arith
    each n = omega arith

-- sums may be added in either order
pub with_sums-turned : (a b : Sums) → with_sums a b ≡ with_sums b a
with_sums-turned a b = same_numbers (with_sums a b) (with_sums b a) each
  where
    each : (n : Number) → number_by n (with_sums a b) ≡ number_by n (with_sums b a)
    each SelfTime = omega arith
    each n = omega arith

-- and grouped as one likes
pub with_sums-grouped : (a b c : Sums) → with_sums (with_sums a b) c ≡ with_sums a (with_sums b c)
with_sums-grouped a b c = same_numbers (with_sums (with_sums a b) c) (with_sums a (with_sums b c)) each
  where
    each : (n : Number) → number_by n (with_sums (with_sums a b) c) ≡ number_by n (with_sums a (with_sums b c))
    each SelfTime = omega arith
    each n = omega arith

pub with_sums-nothing : (a : Sums) → with_sums a no_sums ≡ a
with_sums-nothing a = with_sums-turned a no_sums ∙ with_sums-none a

with_sums-mixed : (a b c d : Sums) → with_sums (with_sums a b) (with_sums c d) ≡ with_sums (with_sums a c) (with_sums b d)
with_sums-mixed a b c d =
    with_sums-grouped a b (with_sums c d)
    ∙ ap (with_sums a) (sym (with_sums-grouped b c d) ∙ ap (λ s. with_sums s d) (with_sums-turned b c) ∙ with_sums-grouped c b d)
    ∙ sym (with_sums-grouped a c (with_sums b d))

-- one alone stays as it is
pub sums_together-one : (s : Sums) → sums_together (s ∷ []) ≡ s
sums_together-one s = with_sums-nothing s

pub sums_together-append : (sums more : List Sums) → sums_together (sums ++ more) ≡ with_sums (sums_together sums) (sums_together more)
sums_together-append [] more = sym (with_sums-none (sums_together more))
sums_together-append (s ∷ sums) more = ap (with_sums s) (sums_together-append sums more) ∙ sym (with_sums-grouped s (sums_together sums) (sums_together more))

-- one more is added to the others
pub sums_together-push : (sums : List Sums) (more : Sums) → sums_together (sums ++ more ∷ []) ≡ with_sums (sums_together sums) more
sums_together-push sums more = sums_together-append sums (more ∷ []) ∙ ap (with_sums (sums_together sums)) (sums_together-one more)

-- what items have together
abbrev pub total : {A : Type 0} → (A → Sums) → List A → Sums
total f xs = sums_together (map f xs)

-- a number that is added is that of all together
pub number-together : (n : Sums → ℕ) → ((a b : Sums) → n (with_sums a b) ≡ n a + n b) → n no_sums ≡ 0 → (sums : List Sums) → n (sums_together sums) ≡ sum_by n sums
number-together n adds none [] = none
number-together n adds none (s ∷ sums) = adds s (sums_together sums) ∙ ap (λ m. n s + m) (number-together n adds none sums) ∙ sym (sum_by-cons n s sums)

pub number-total : {A : Type 0} (n : Sums → ℕ) → ((a b : Sums) → n (with_sums a b) ≡ n a + n b) → n no_sums ≡ 0 → (f : A → Sums) (xs : List A) → n (total f xs) ≡ sum_by (λ x. n (f x)) xs
number-total n adds none f [] = none
number-total n adds none f (x ∷ xs) = adds (f x) (total f xs) ∙ ap (λ m. n (f x) + m) (number-total n adds none f xs) ∙ sym (sum_by-cons (λ y. n (f y)) x xs)

-- what is below the greater of two is below one of them
pub above-max : (n a b : ℕ) → nat_lt n (max a b) ≡ (nat_lt n a || nat_lt n b)
above-max n a b = grind arith

-- numbers above the same ones are the same
pub nat-same : (a b : ℕ) → ((n : ℕ) → nat_lt n a ≡ nat_lt n b) → a ≡ b
nat-same a b same = let one = same a in let other = same b in grind (arith, one, other)

-- what the steps of one key come to
module _ {K : Type 0} (cmp : K → K → Ordering) where
  abbrev pub tally : K → List (Keyed K Sums) → Sums
  tally key es = sums_together (steps_at cmp key es)

  -- a step, where it is of the key
  abbrev own : K → Keyed K Sums → Sums
  own key e = cond (is_eq (cmp e.key key)) e.step no_sums

  pub tally-cons : (key : K) (e : Keyed K Sums) (es : List (Keyed K Sums)) → tally key (e ∷ es) ≡ with_sums (own key e) (tally key es)
  tally-cons key e es = by (is_eq (cmp e.key key))
    where
      by : (b : Bool) → sums_together (map (λ (x : Keyed K Sums). x.step) (cond b (e ∷ filter (λ x. is_eq (cmp x.key key)) es) (filter (λ x. is_eq (cmp x.key key)) es))) ≡ with_sums (cond b e.step no_sums) (tally key es)
      by true = refl
      by false = sym (with_sums-none (tally key es))

  pub tally-append : (key : K) (es fs : List (Keyed K Sums)) → tally key (es ++ fs) ≡ with_sums (tally key es) (tally key fs)
  tally-append key es fs =
      ap sums_together
      (ap (map (λ (e : Keyed K Sums). e.step)) (filter-append (λ (e : Keyed K Sums). is_eq (cmp e.key key)) es fs)
      ∙ map-append (λ (e : Keyed K Sums). e.step) (filter (λ e. is_eq (cmp e.key key)) es) (filter (λ e. is_eq (cmp e.key key)) fs))
      ∙ sums_together-append (steps_at cmp key es) (steps_at cmp key fs)

-- what two of each come to together
pub total-both : {A : Type 0} (f g : A → Sums) (xs : List A) → total (λ x. with_sums (f x) (g x)) xs ≡ with_sums (total f xs) (total g xs)
total-both f g [] = refl
total-both f g (x ∷ xs) = ap (with_sums (with_sums (f x) (g x))) (total-both f g xs) ∙ with_sums-mixed (f x) (g x) (total f xs) (total g xs)

-- the same step under another key
abbrev pub under : {K J A : Type 0} → (K → J) → Keyed K A → Keyed J A
under g e = record { key = g e.key; step = e.step }

-- a key with what its steps are put together to
abbrev pub made_of : {K A : Type 0} → (K → A) → K → Keyed K A
made_of F k = record { key = k; step = F k }

-- steps that are put together by their keys, and then under other keys, come to what they come to under these at once
module _ {K J : Type 0} {cmp : K → K → Ordering} (o : IsTotalOrder cmp) (same : (a b : K) → cmp a b ≡ Equal → a ≡ b) (other : J → J → Ordering) (g : K → J) where
  -- these sums, where a key is this one and is put under j
  abbrev here : J → K → Sums → K → Sums
  here j key s k = cond (is_eq (other (g k) j)) (cond (is_eq (cmp key k)) s no_sums) no_sums

  nothing : (b : Bool) → cond b no_sums no_sums ≡ no_sums
  nothing true = refl
  nothing false = refl

  -- none of these keys is this one
  none_here : (j : J) (key : K) (s : Sums) (ks : List K) → AllByRecursion (λ k. is_eq (cmp key k) ≡ false) ks → total (here j key s) ks ≡ no_sums
  none_here j key s [] none = refl
  none_here j key s (k ∷ ks) none =
      ap₂ with_sums (ap (λ b. cond (is_eq (other (g k) j)) (cond b s no_sums) no_sums) none.0 ∙ nothing (is_eq (other (g k) j))) (none_here j key s ks none.1) ∙ with_sums-none no_sums

  later_none : (key k : K) (ks : List K) → is_eq (cmp key k) ≡ true → AllByRecursion (λ y. cmp k y ≡ Less) ks → AllByRecursion (λ y. is_eq (cmp key y) ≡ false) ks
  later_none key k [] is below = tt
  later_none key k (y ∷ ys) is below = (ap (λ x. is_eq (cmp x y)) (same_from_is_eq o same key k is) ∙ ap is_eq below.0, later_none key k ys is below.1)

  -- of keys that rise, just one is this one
  one_here : (j : J) (key : K) (s : Sums) (ks : List K) → IsStrictlySortedBy cmp ks → has_key cmp key ks ≡ true → total (here j key s) ks ≡ cond (is_eq (other (g key) j)) s no_sums
  unfolding IsStrictlySortedBy
  one_here j key s [] sorted has = cc
  one_here j key s (k ∷ ks) sorted has = by (is_eq (cmp key k)) refl (one_here j key s ks sorted.1) has
    where
      by : (b : Bool) → is_eq (cmp key k) ≡ b → (has_key cmp key ks ≡ true → total (here j key s) ks ≡ cond (is_eq (other (g key) j)) s no_sums) → has_key cmp key (k ∷ ks) ≡ true → total (here j key s) (k ∷ ks) ≡ cond (is_eq (other (g key) j)) s no_sums
      by true e rest has =
          let found : here j key s k ≡ cond (is_eq (other (g key) j)) s no_sums =
          ap (λ b. cond (is_eq (other (g k) j)) (cond b s no_sums) no_sums) e ∙ ap (λ x. cond (is_eq (other (g x) j)) s no_sums) (sym (same_from_is_eq o same key k e)) in
          ap₂ with_sums found (none_here j key s ks (later_none key k ks e sorted.0)) ∙ with_sums-nothing (cond (is_eq (other (g key) j)) s no_sums)
      by false e rest has =
          let none : here j key s k ≡ no_sums = ap (λ b. cond (is_eq (other (g k) j)) (cond b s no_sums) no_sums) e ∙ nothing (is_eq (other (g k) j)) in
          ap₂ with_sums none (rest (ap (λ b. b || has_key cmp key ks) (sym e) ∙ has)) ∙ with_sums-none (cond (is_eq (other (g key) j)) s no_sums)

  -- what the steps of those keys come to that are put under j
  abbrev put_under : J → List (Keyed K Sums) → List K → Sums
  put_under j es ks = total (λ k. cond (is_eq (other (g k) j)) (tally cmp k es) no_sums) ks

  put_under-nil : (j : J) (ks : List K) → put_under j [] ks ≡ no_sums
  put_under-nil j [] = refl
  put_under-nil j (k ∷ ks) = ap₂ with_sums (nothing (is_eq (other (g k) j))) (put_under-nil j ks) ∙ with_sums-none no_sums

  put_under-cons : (j : J) (e : Keyed K Sums) (es : List (Keyed K Sums)) (ks : List K) → put_under j (e ∷ es) ks ≡ with_sums (total (here j e.key e.step) ks) (put_under j es ks)
  put_under-cons j e es ks =
      ap (λ (f : K → Sums). total f ks) (λ i k. (ap (λ s. cond (is_eq (other (g k) j)) s no_sums) (tally-cons cmp k e es) ∙ apart (is_eq (other (g k) j)) (own cmp k e) (tally cmp k es)) i)
      ∙ total-both (here j e.key e.step) (λ k. cond (is_eq (other (g k) j)) (tally cmp k es) no_sums) ks
    where
      apart : (b : Bool) (m n : Sums) → cond b (with_sums m n) no_sums ≡ with_sums (cond b m no_sums) (cond b n no_sums)
      apart true m n = refl
      apart false m n = sym (with_sums-none no_sums)

  -- each step is put under one key
  put_under-all : (j : J) (es : List (Keyed K Sums)) (ks : List K) → IsStrictlySortedBy cmp ks → AllByRecursion (λ (e : Keyed K Sums). has_key cmp e.key ks ≡ true) es → put_under j es ks ≡ tally other j (map (under g) es)
  put_under-all j [] ks sorted known = put_under-nil j ks
  put_under-all j (e ∷ es) ks sorted known =
      put_under-cons j e es ks ∙ ap₂ with_sums (one_here j e.key e.step ks sorted known.0) (put_under-all j es ks sorted known.1)
      ∙ sym (tally-cons other j (under g e) (map (under g) es))

  put_under-made : (j : J) (es : List (Keyed K Sums)) (ks : List K) → tally other j (map (under g) (map (made_of (λ k. tally cmp k es)) ks)) ≡ put_under j es ks
  put_under-made j es [] = refl
  put_under-made j es (k ∷ ks) =
      tally-cons other j (under g (made_of (λ x. tally cmp x es) k)) (map (under g) (map (made_of (λ x. tally cmp x es)) ks))
      ∙ ap (with_sums (cond (is_eq (other (g k) j)) (tally cmp k es) no_sums)) (put_under-made j es ks)

  -- steps that were put together first come to the same
  pub tally-made : (j : J) (es : List (Keyed K Sums)) (ks : List K) → IsStrictlySortedBy cmp ks → AllByRecursion (λ (e : Keyed K Sums). has_key cmp e.key ks ≡ true) es →
      tally other j (map (under g) (map (made_of (λ k. tally cmp k es)) ks)) ≡ tally other j (map (under g) es)
  tally-made j es ks sorted known = put_under-made j es ks ∙ put_under-all j es ks sorted known
