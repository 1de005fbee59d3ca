-- What holds of the elements of a list.
use Rattle.std.specs.Prelude.{All, IsTrue}
use Rattle.std.proofs.{Common.{◌≡◌, suc, Option, Some, List, [], ◌∷◌, ◌++◌, length, refl, ap, sym, ◌∙◌, ◌==◌, subst, arith, Bool, true, false, true≢false}, Math.Seq.get_or-append_seam, lemmas.{Bool.ne_eqb, List.length-append}}

-- what holds of all holds of one among them
pub All-at : {A : Type 0} (P : A → Type 0) (xs : List A) (x : A) (ys : List A) → All P (xs ++ x ∷ ys) → P x
All-at P xs x ys all = subst P (get_or-append_seam xs x ys x) (all (length xs) x (omega (arith, length-append xs (x ∷ ys))))

pub All-tail : {A : Type 0} (P : A → Type 0) (x : A) (xs : List A) → All P (x ∷ xs) → All P xs
All-tail P x xs all = λ k d lt. all (suc k) d (omega (arith, lt))

-- what is in a pair that is there
pub Some-pair : {A B : Type 0} (a c : A) (b d : B) → ◌≡◌ {A = Option (A × B)} (Some (a, b)) (Some (c, d)) → (a ≡ c) × (b ≡ d)
Some-pair {A = A} {B = B} a c b d same =
    let pair : ◌≡◌ {A = A × B} (a, b) (c, d) = cc in
    (ap (λ p. p.0) pair, ap (λ p. p.1) pair)

pub Some-same : {A : Type 0} (a b : A) → ◌≡◌ {A = Option A} (Some a) (Some b) → a ≡ b
Some-same a b same = cc

-- nothing is false and true
pub no-both : (b : Bool) → b ≡ false → IsTrue b → ⊥
no-both true isnt is = true≢false isnt
no-both false isnt is = true≢false (sym is)

-- a list without elements
pub nothing-left : {A : Type 0} (xs : List A) → true ≡ (length xs == 0) → xs ≡ []
nothing-left [] is = refl
nothing-left (x ∷ xs) is = absurd (true≢false (is ∙ ne_eqb (length (x ∷ xs)) 0 (λ same. omega (arith, same))))
