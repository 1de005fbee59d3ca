-- The names of spans: what they are once one more span is added, and how many they are at most.
use Rattle.std.specs.List.{fold, list_any}
use Rattle.std.proofs.{Common.{ℕ, ◌+◌, ◌≤◌, Bool, true, false, cond, List, [], ◌∷◌, ◌++◌, length, nat_eq, arith}, lemmas.List.{length_push}}
use Rattle.indexmap.specs.IndexSet.{insert_key}
use Rattle.span_closed_spans.specs.{Span, names_of}

-- the names, once one more span comes after these
abbrev with_span : List ℕ → Span ℕ → List ℕ
with_span names s = insert_key nat_eq names s.name

length-cond : (b : Bool) (names : List ℕ) (name : ℕ) → length (cond b names (names ++ name ∷ [])) ≤ length names + 1
length-cond true names name = omega arith
length-cond false names name = omega (arith, length_push names name)

length-fold : (names : List ℕ) (spans : List (Span ℕ)) → length (fold with_span names spans) ≤ length names + length spans
length-fold names [] = omega arith
length-fold names (s ∷ spans) =
    omega (arith, length-cond (list_any (nat_eq s.name) names) names s.name, length-fold (with_span names s) spans)

-- there are no more names than spans
pub length-names_of-le : (spans : List (Span ℕ)) → length (names_of nat_eq spans) ≤ length spans
length-names_of-le spans = omega (arith, length-fold [] spans)
