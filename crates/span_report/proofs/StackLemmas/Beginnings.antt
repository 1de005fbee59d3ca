-- What stacks begin with.
use Rattle.std.specs.List.{list_any}
use Rattle.std.proofs.{Common.{◌≡◌, Bool, true, ◌||◌, List, [], ◌∷◌, ◌++◌, map, flat_map, get_or, refl, sym, ap, ◌∙◌, inl, inr, ◌⊎◌}, lemmas.List.{Concat.flat_map-cons, Folds.{list_any-append, list_any_at}}}
use Rattle.span_report.specs.{Bytes, Stacks.{Bounds.beginnings, Ticks.{Stack, same_stack}}}
use Rattle.span_report.proofs.StackLemmas.Members.{Has, any-index, has-first, has-later, or-either, or-left, or-right, same-itself, same-true}

-- a list passes a test where one of its stacks does
pub any-has : (p : Stack → Bool) (x : Stack) (xs : List Stack) → Has xs x → p x ≡ true → list_any p xs ≡ true
any-has p x xs has passes =
    let at = any-index (same_stack x) xs has in
    list_any_at p xs at.0 [] at.1 (ap p (sym (same-true x (get_or xs at.0 []) at.2)) ∙ passes)

pub list_any-flat_map : {A B : Type 0} (p : B → Bool) (f : A → List B) (xs : List A) → list_any p (flat_map f xs) ≡ list_any (λ x. list_any p (f x)) xs
list_any-flat_map p f [] = refl
list_any-flat_map p f (x ∷ xs) =
    ap (list_any p) (flat_map-cons f x xs) ∙ list_any-append p (f x) (flat_map f xs) ∙ ap (λ b. list_any p (f x) || b) (list_any-flat_map p f xs)

-- a list that has a stack has it with one name before it, where all do
pub has-under : (name : Bytes) (k : Stack) (xs : List Stack) → Has xs k → Has (map (λ b. name ∷ b) xs) (name ∷ k)
has-under name k [] has = has
has-under name k (y ∷ ys) has = by (or-either (same_stack k y) (list_any (same_stack k) ys) has) (λ later. has-under name k ys later)
  where
    by : (same_stack k y ≡ true) ⊎ Has ys k → (Has ys k → Has (map (λ b. name ∷ b) ys) (name ∷ k)) → Has (map (λ b. name ∷ b) (y ∷ ys)) (name ∷ k)
    by (inl same) rest = or-left (same_stack (name ∷ k) (name ∷ y)) (list_any (same_stack (name ∷ k)) (map (λ b. name ∷ b) ys)) (ap (λ (s : Stack). same_stack (name ∷ k) (name ∷ s)) (sym (same-true k y same)) ∙ same-itself (name ∷ k))
    by (inr later) rest = or-right (same_stack (name ∷ k) (name ∷ y)) (list_any (same_stack (name ∷ k)) (map (λ b. name ∷ b) ys)) (rest later)

-- what a stack begins with is among its beginnings
pub has-beginning : (start : Stack) (name : Bytes) (rest : Stack) → Has (beginnings (start ++ name ∷ rest)) (start ++ name ∷ [])
has-beginning [] name rest = has-first (name ∷ []) (map (λ b. name ∷ b) (beginnings rest))
has-beginning (x ∷ start) name rest =
    has-later (x ∷ []) (map (λ b. x ∷ b) (beginnings (start ++ name ∷ rest))) (x ∷ (start ++ name ∷ [])) (has-under x (start ++ name ∷ []) (beginnings (start ++ name ∷ rest)) (has-beginning start name rest))
