-- The highest of the spans that pass a test.
use Rattle.std.specs.{List.list_any, Option.IfSome}
use Rattle.std.proofs.{Common.{◌≡◌, ℕ, zero, suc, ◌⊎◌, inl, inr, Bool, true, false, ◌&&◌, ◌||◌, cond, List, [], ◌∷◌, Option, Some, None, filter, slice_get, refl, sym, ap, ◌∙◌, true≢false}}
use Rattle.span_self_time.proofs.Ranks.{outranks-itself, outranks-trans}
use Rattle.span_parents.specs.{Span, outranks, Holding.{higher, highest}}

module _ {N : Type 0} where
  pub outranks-back : (a b : Span N) → outranks a b ≡ true → outranks b a ≡ false
  outranks-back a b above = by (outranks b a) refl
    where
      by : (r : Bool) → outranks b a ≡ r → r ≡ false
      by false is = refl
      by true is = absurd (true≢false (sym (outranks-trans a b a above is) ∙ outranks-itself a))

  -- u is t, or t ranks above it
  abbrev IsUpTo : Span N → Span N → Type 0
  IsUpTo t u = (u ≡ t) ⊎ (outranks t u ≡ true)

  -- each of these that passes the test is t, or t ranks above it
  abbrev pub AreUpTo : (Span N → Bool) → Span N → List (Span N) → Type 0
  AreUpTo test t spans = (q : ℕ) (u : Span N) → slice_get spans q ≡ Some u → test u ≡ true → IsUpTo t u

  higher-up_to : (t u : Span N) (other : Option (Span N)) → IsUpTo t u → IfSome other (IsUpTo t) → IsUpTo t (higher u other)
  higher-up_to t u None one rest = one
  higher-up_to t u (Some o) one rest = by (outranks u o)
    where
      by : (r : Bool) → IsUpTo t (cond r u o)
      by true = one
      by false = rest

  highest-up_to : (test : Span N → Bool) (t : Span N) (spans : List (Span N)) → AreUpTo test t spans → IfSome (highest (filter test spans)) (IsUpTo t)
  highest-up_to test t [] are = tt
  highest-up_to test t (u ∷ spans) are = by (test u) refl (highest-up_to test t spans (λ q v. are (suc q) v))
    where
      by : (r : Bool) → test u ≡ r → IfSome (highest (filter test spans)) (IsUpTo t) → IfSome (highest (cond r (u ∷ filter test spans) (filter test spans))) (IsUpTo t)
      by true passes rest = higher-up_to t u (highest (filter test spans)) (are 0 u refl passes) rest
      by false fails rest = rest

  higher-top : (t : Span N) (other : Option (Span N)) → IfSome other (IsUpTo t) → higher t other ≡ t
  higher-top t None rest = refl
  higher-top t (Some o) rest =
      elim rest [
        | inl same ↦ by_same (outranks t o) same
        | inr above ↦ ap (λ r. cond r t o) above
      ]
    where
      by_same : (r : Bool) → o ≡ t → cond r t o ≡ t
      by_same true same = refl
      by_same false same = same

  higher-below : (t u : Span N) → IsUpTo t u → higher u (Some t) ≡ t
  higher-below t u (inl same) = by (outranks u t)
    where
      by : (r : Bool) → cond r u t ≡ t
      by true = same
      by false = refl
  higher-below t u (inr above) = ap (λ r. cond r u t) (outranks-back t u above)

  -- t, which passes the test and which all others are up to, is the highest
  pub highest-filter : (test : Span N → Bool) (t : Span N) (spans : List (Span N)) (p : ℕ) → slice_get spans p ≡ Some t → test t ≡ true → AreUpTo test t spans → highest (filter test spans) ≡ Some t
  highest-filter test t [] p there passes are = absurd cc
  highest-filter test t (u ∷ spans) zero there passes are =
      let same : u ≡ t = cc in
      let here : test u ≡ true = ap test same ∙ passes in
      ap (λ r. highest (cond r (u ∷ filter test spans) (filter test spans))) here
      ∙ ap (λ v. Some (higher v (highest (filter test spans)))) same
      ∙ ap Some (higher-top t (highest (filter test spans)) (highest-up_to test t spans (λ q v. are (suc q) v)))
  highest-filter test t (u ∷ spans) (suc p) there passes are = by (test u) refl (highest-filter test t spans p there passes (λ q v. are (suc q) v))
    where
      by : (r : Bool) → test u ≡ r → highest (filter test spans) ≡ Some t → highest (cond r (u ∷ filter test spans) (filter test spans)) ≡ Some t
      by true passes_too rest = ap (λ other. Some (higher u other)) rest ∙ ap Some (higher-below t u (are 0 u refl passes_too))
      by false fails rest = rest

-- none passes
pub filter-none : {A : Type 0} (test : A → Bool) (xs : List A) → ((q : ℕ) (x : A) → slice_get xs q ≡ Some x → test x ≡ false) → filter test xs ≡ []
filter-none test [] none = refl
filter-none test (x ∷ xs) none = ap (λ r. cond r (x ∷ filter test xs) (filter test xs)) (none 0 x refl) ∙ filter-none test xs (λ q y. none (suc q) y)

pub list_any-none : {A : Type 0} (test : A → Bool) (xs : List A) → ((q : ℕ) (x : A) → slice_get xs q ≡ Some x → test x ≡ false) → list_any test xs ≡ false
list_any-none test [] none = refl
list_any-none test (x ∷ xs) none = ap (λ r. r || list_any test xs) (none 0 x refl) ∙ list_any-none test xs (λ q y. none (suc q) y)

pub list_any-at : {A : Type 0} (test : A → Bool) (x : A) (xs : List A) (p : ℕ) → slice_get xs p ≡ Some x → test x ≡ true → list_any test xs ≡ true
list_any-at test x [] p there passes = absurd cc
list_any-at test x (y ∷ xs) zero there passes = let same : y ≡ x = cc in ap (λ z. test z || list_any test xs) same ∙ ap (λ r. r || list_any test xs) passes
list_any-at test x (y ∷ xs) (suc p) there passes = by (test y) (list_any-at test x xs p there passes)
  where
    by : (r : Bool) → list_any test xs ≡ true → (r || list_any test xs) ≡ true
    by true rest = refl
    by false rest = rest

pub list_any-filter : {A : Type 0} (keeps test : A → Bool) (xs : List A) → list_any test (filter keeps xs) ≡ list_any (λ x. keeps x && test x) xs
list_any-filter keeps test [] = refl
list_any-filter keeps test (x ∷ xs) = by (keeps x) (list_any-filter keeps test xs)
  where
    by : (r : Bool) → list_any test (filter keeps xs) ≡ list_any (λ y. keeps y && test y) xs → list_any test (cond r (x ∷ filter keeps xs) (filter keeps xs)) ≡ ((r && test x) || list_any (λ y. keeps y && test y) xs)
    by true rest = ap (λ r. test x || r) rest
    by false rest = rest
