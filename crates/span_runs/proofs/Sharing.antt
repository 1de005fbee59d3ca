-- What comes of a list whose places jobs share.
use Rattle.std.proofs.{Common.{◌≡◌, ℕ, ◌+◌, ◌-◌, ◌≤◌, List, ◌++◌, length, take, drop, ap, sym, subst, ◌∙◌, arith}, Math.Seq.take-add, lemmas.List.{drop-drop, take_all}}
use Rattle.span_runs.specs.Jobs.{Divided, Taken, Parted, places}

-- one part, and then the next
places-append : {N : Type 0} (from middle to : ℕ) (list : List N) → from ≤ middle → middle ≤ to → places from middle list ++ places middle to list ≡ places from to list
places-append from middle to list low high =
    let begins : middle ≡ from + (middle - from) = omega arith in
    let long : (middle - from) + (to - middle) ≡ to - from = omega arith in
    let first = take (middle - from) (drop from list) in
    ap (λ n. first ++ take (to - middle) (drop n list)) begins
    ∙ ap (λ rest. first ++ take (to - middle) rest) (sym (drop-drop (middle - from) from list))
    ∙ sym (take-add (middle - from) (to - middle) (drop from list))
    ∙ ap (λ n. take n (drop from list)) long

module _ {N X : Type 0} {Takes : ℕ → ℕ → X → Type 0} {Joins : X → X → X → Type 0} (Becomes : List N → X → Type 0) (list : List N)
    (takes : (from to : ℕ) (result : X) → Takes from to result → Becomes (places from to list) result)
    (joins : (items more : List N) (first second result : X) → Becomes items first → Becomes more second → Joins first second result → Becomes (items ++ more) result) where
  Becomes-places : (from to : ℕ) (result : X) → Divided Takes Joins from to result → Becomes (places from to list) result
  Becomes-places from to result (Taken _ _ _ is) = takes from to result is
  Becomes-places from to result (Parted _ middle _ first second _ low high one other is) =
      subst (λ items. Becomes items result) (places-append from middle to list low high)
      (joins (places from middle list) (places middle to list) first second result (Becomes-places from middle first one) (Becomes-places middle to second other) is)

-- what becomes of each part that is taken, and of two that are joined, becomes of all
pub Becomes-divided : {N X : Type 0} {Takes : ℕ → ℕ → X → Type 0} {Joins : X → X → X → Type 0} (Becomes : List N → X → Type 0) (list : List N) (count : ℕ) (result : X) →
    count ≡ length list → Divided Takes Joins 0 count result →
    ((from to : ℕ) (part : X) → Takes from to part → Becomes (places from to list) part) →
    ((items more : List N) (first second both : X) → Becomes items first → Becomes more second → Joins first second both → Becomes (items ++ more) both) → Becomes list result
Becomes-divided {N} {X} {Takes} {Joins} Becomes list count result long divided takes joins =
    subst (λ items. Becomes items result) (take_all (count - 0) list (omega arith)) (Becomes-places Becomes list takes joins 0 count result divided)
