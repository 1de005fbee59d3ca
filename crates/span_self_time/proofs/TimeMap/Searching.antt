-- What a search of an ordered map finds.
use Rattle.std.specs.{BTreeMap.{BTreeMap, get, Range.IsRangeOf}, Ordering.{int_cmp, is_gt, is_lt, is_eq}, Result.OnErr, declared.{ops.Bound.TheVariants.{Excluded, Unbounded}, result.Result.TheVariants.{Ok, Err}}}
use Rattle.std.proofs.{Common.{◌≡◌, ◌≢◌, ℤ, false, List, ◌∷◌, IsSome, Option, Some, Result, arith}, lemmas.{Grind.common_steps, Int.ints}}
use Rattle.span_self_time.specs.{Division.TimeMap.Stretches.{Starts, IsLast, IsNext}, declared.segment.OwnedSegment.OwnedSegment}

pub differs : (a b : ℤ) → b ≢ a → is_eq (int_cmp a b) ≡ false
differs a b h = grind (arith, ints)

pub IsLast-greatest : (m : Starts) (t k : ℤ) (v : Option OwnedSegment) → m k ≡ Some v → is_gt (int_cmp k t) ≡ false → ((q : ℤ) → is_gt (int_cmp q t) ≡ false → IsSome (m q) → is_lt (int_cmp k q) ≡ false) → IsLast m t k v
IsLast-greatest m t k v is upto greatest = grind (arith, ints, common_steps)

pub IsNext-first : (m : BTreeMap ℤ (Option OwnedSegment)) (t n : ℤ) (v : Option OwnedSegment) (found rest : List (ℤ × Option OwnedSegment)) → IsRangeOf int_cmp (Excluded t) Unbounded m found → found ≡ (n, v) ∷ rest → IsNext (λ q. get int_cmp m q) t n
IsNext-first m t n v found rest range is = grind (arith, ints, common_steps)

pub on_err : {T E P : Type 0} (r : Result T E) → P → OnErr r P
on_err (Ok x) p = tt
on_err (Err e) p = p
