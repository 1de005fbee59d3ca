-- The keys that a loop over a set has passed, in ascending order.
use Rattle.std.specs.{BTreeSet.insert_key, Prelude.fold, declared.cmp.Ordering.Ordering}
use Rattle.std.proofs.{Common.{◌≡◌, List, [], ◌∷◌, ◌++◌, ap, ◌∙◌, map, Bor}, lemmas.List.{map_push, Sums.fold-append}}
use Rattle.span_ledger.specs.{ascending}

-- one more key is passed
pub ascending-passed : {K : Type 0} (R : K → K → Ordering) (passed : List (Bor K)) (k : Bor K) → ascending R (map (λ x. x.now) (passed ++ k ∷ [])) ≡ insert_key R (ascending R (map (λ x. x.now) passed)) k.now
ascending-passed R passed k = ap (fold (insert_key R) []) (map_push (λ x. x.now) passed k) ∙ fold-append (insert_key R) [] (map (λ x. x.now) passed) (k.now ∷ [])
