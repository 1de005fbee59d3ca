-- What spans that start together keep from others.
use Rattle.std.proofs.{Common.{◌≡◌, ℕ, Bool, true, false, ◌&&◌, cond, ℤ, ◌≤ℤ◌, List, [], ◌∷◌, ◌++◌, Option, Some, None, refl, sym, ◌∙◌, true≢false, arith, All}, lemmas.{Grind.common_steps, Bool.false_from_ne_true, Int.ints, List.Elements.{All-head, All-tail}}}
use Rattle.span_self_time.specs.{Division.{Owners, claims, taken, TimeMap.Ties.{IsBarred, AreBarred}}, Spans.{Span, covers, outranks}, declared.division.time_map.ties.Ties.Ties}
use Rattle.span_self_time.proofs.Ranks.{outranks-trans}

-- what the span has taken is out of reach of those who could not take it before
claims-taken : (s x : Span ℕ) (owners : Owners) (u : ℤ) → claims x (owners u) ≡ false → claims x (taken s owners u) ≡ false
claims-taken s x owners u none = by_owner (owners u) none
  where
    by_owner : (o : Option (Span ℕ)) → claims x o ≡ false → claims x (cond (covers s u && claims s o) (Some s) o) ≡ false
    by_owner None h = absurd (true≢false h)
    by_owner (Some o) h = by_test (covers s u) (outranks s o) refl
      where
        by_test : (c b : Bool) → outranks s o ≡ b → claims x (cond (c && b) (Some s) (Some o)) ≡ false
        by_test false b above = h
        by_test true false above = h
        by_test true true above =
            false_from_ne_true (outranks x s) (λ higher. true≢false (sym (outranks-trans x s o higher above) ∙ h))

pub IsBarred-taken : (s : Span ℕ) (owners : Owners) (a e : ℤ) → IsBarred owners a e → IsBarred (taken s owners) a e
IsBarred-taken s owners a e barred = λ x u from before below. claims-taken s x owners u (barred x u from before below)

pub AreBarred-taken : (s : Span ℕ) (owners : Owners) (t : Ties) → AreBarred owners t → AreBarred (taken s owners) t
AreBarred-taken s owners t are = λ k d within. IsBarred-taken s owners _ _ (are k d within)

-- a span bars what it covers from those below it
pub IsBarred-own : (s : Span ℕ) (owners : Owners) → IsBarred (taken s owners) s.start s.until
IsBarred-own s owners = grind (arith, ints, common_steps)

pub All-last : {K : Type 0} (P : K → Type 0) (ks : List K) (k : K) → All P (ks ++ k ∷ []) → P k
All-last P [] k all = All-head P k [] all
All-last P (x ∷ ks) k all = All-last P ks k (All-tail P x (ks ++ k ∷ []) all)

-- who doesn't rank above starts no later
pub outranks-start : (s o : Span ℕ) → outranks s o ≡ false → s.start ≤ℤ o.start
outranks-start s o below = grind (arith, ints, below)
