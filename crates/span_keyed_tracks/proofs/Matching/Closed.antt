-- What the steps close, from one step to the next.
use Rattle.std.specs.{List.list_all, Option.option_or}
use Rattle.std.proofs.{Common.{◌≡◌, ◌+◌, length, arith, Bool, true, false, ◌&&◌, cond, List, [], ◌∷◌, ◌++◌, map, reverse, Option, Some, None, refl, sym, ap, subst, ◌∙◌, append_assoc, append-nil}, lemmas.List.{reverse-append, Folds.list_all-append}}
use Rattle.span_keyed_tracks.specs.{Last.{last_of, without_last}, Matching.{Step, opens, closes, closes_all, other, is_balanced, is_matched_after, opener, open_of, closed_with, closed_by, closed_after, closed_of}}
use Rattle.span_keyed_tracks.proofs.Lists.Last.{option_or-some}

-- each of two tests that pass together passes
pub both_true : (a b : Bool) → (a && b) ≡ true → (a ≡ true) × (b ≡ true)
both_true true b h = (refl, h)
both_true false b h = cc

-- two tests that pass pass together
pub and_true : (a b : Bool) → a ≡ true → b ≡ true → (a && b) ≡ true
and_true true b p q = q
and_true false b p q = p

-- where all elements pass a test, all pass it in reverse
list_all-reverse : {A : Type 0} (p : A → Bool) (xs : List A) → list_all p xs ≡ true → list_all p (reverse xs) ≡ true
list_all-reverse p [] all = refl
list_all-reverse p (x ∷ xs) all =
    let parts = both_true (p x) (list_all p xs) all in
    ap (list_all p) (reverse-append (x ∷ []) xs) ∙ list_all-append p (reverse xs) (x ∷ [])
    ∙ and_true (list_all p (reverse xs)) (p x && true) (list_all-reverse p xs parts.1) (and_true (p x) true parts.0 refl)

module _ {B E A O S : Type 0} (close : B → E → List S) (seal : B → A → S) (whole : O → List S) where
  closed_after-append : (earlier later : List (Step B E A O)) (step : Step B E A O) → closed_after close seal whole earlier (later ++ step ∷ []) ≡ closed_after close seal whole earlier later ++ closed_by close seal whole (earlier ++ later) step
  closed_after-append earlier [] step = rw (append-nil earlier, append-nil (closed_by close seal whole earlier step))
  closed_after-append earlier (first ∷ later) step =
      rw (closed_after-append (earlier ++ first ∷ []) later step, append_assoc earlier (first ∷ []) later) (sym (append_assoc (closed_by close seal whole earlier first) (closed_after close seal whole (earlier ++ first ∷ []) later) (closed_by close seal whole (earlier ++ first ∷ later) step)))

  -- one more step closes what it closes
  pub closed_of-append : (steps : List (Step B E A O)) (step : Step B E A O) → closed_of close seal whole (steps ++ step ∷ []) ≡ closed_of close seal whole steps ++ closed_by close seal whole steps step
  closed_of-append steps step = closed_after-append [] steps step

-- where an end closes one thing with its begin, it takes a begin for each thing that it closes
pub length-closed_with : {B E A O S : Type 0} (close : B → E → List S) (seal : B → A → S) (whole : O → List S) (e : E) → ((b : B) → length (close b e) ≡ 1) → (opened : List B) →
    length (without_last opened) + length (closed_with close seal whole (last_of opened) e) ≡ length opened
length-closed_with close seal whole e one [] = refl
length-closed_with close seal whole e one (b ∷ []) = omega (arith, one b)
length-closed_with close seal whole e one (b ∷ c ∷ opened) =
    rw (option_or-some (last_of opened) c (Some b)) (omega (arith, length-closed_with close seal whole e one (c ∷ opened)))

-- a test of what a step carries; an end, of one or of all, passes every test
abbrev pub step_passes : {B E A O : Type 0} → (B → Bool) → (O → Bool) → Step B E A O → Bool
step_passes p q (opens b) = p b
step_passes p q (closes e) = true
step_passes p q (closes_all a) = true
step_passes p q (other o) = q o

module _ {B E A O : Type 0} (p : B → Bool) (q : O → Bool) where
  -- the begin that an end matches passes a test that all begins pass
  pub opener-passes : (steps : List (Step B E A O)) (b : B) → list_all (step_passes p q) steps ≡ true → opener steps ≡ Some b → p b ≡ true
  opener-passes [] b all e = cc
  opener-passes (opens c ∷ steps) b all e =
      let parts = both_true (p c) (list_all (step_passes p q) steps) all in
      by (opener steps) refl (is_balanced steps) parts.0 (λ (r : opener steps ≡ Some b). opener-passes steps b parts.1 r) e
    where
      by : (o : Option B) → opener steps ≡ o → (t : Bool) → p c ≡ true → (opener steps ≡ Some b → p b ≡ true) → option_or o (cond t (Some c) None) ≡ Some b → p b ≡ true
      by None h true here later r = let same : c ≡ b = cc in subst (λ (x : B). p x ≡ true) same here
      by None h false here later r = cc
      by (Some d) h t here later r = later (h ∙ r)
  opener-passes (closes x ∷ steps) b all e = opener-passes steps b all e
  opener-passes (closes_all a ∷ steps) b all e = opener-passes steps b all e
  opener-passes (other o ∷ steps) b all e = opener-passes steps b (both_true (q o) (list_all (step_passes p q) steps) all).1 e

  -- so do the begins that are open
  open_of-passes : (steps : List (Step B E A O)) → list_all (step_passes p q) steps ≡ true → list_all p (open_of steps) ≡ true
  open_of-passes [] all = refl
  open_of-passes (opens b ∷ steps) all =
      let parts = both_true (p b) (list_all (step_passes p q) steps) all in
      let rest = open_of-passes steps parts.1 in
      elim (is_matched_after [] steps) as (λ t. list_all p (cond t (open_of steps) (b ∷ open_of steps)) ≡ true)
      [ true ↦ rest | false ↦ and_true (p b) (list_all p (open_of steps)) parts.0 rest ]
  open_of-passes (closes x ∷ steps) all = open_of-passes steps all
  open_of-passes (closes_all a ∷ steps) all = open_of-passes steps all
  open_of-passes (other o ∷ steps) all = open_of-passes steps (both_true (q o) (list_all (step_passes p q) steps) all).1

-- what is closed passes a test that it passes wherever its begin, or the step that is neither, passes one
module _ {B E A O S : Type 0} (close : B → E → List S) (seal : B → A → S) (whole : O → List S) (p : B → Bool) (q : O → Bool) (r : S → Bool)
    (closed_passes : (b : B) (e : E) → p b ≡ true → list_all r (close b e) ≡ true) (sealed_passes : (b : B) (a : A) → p b ≡ true → r (seal b a) ≡ true) (whole_passes : (o : O) → q o ≡ true → list_all r (whole o) ≡ true) where
  closed_by-passes : (earlier : List (Step B E A O)) (step : Step B E A O) → list_all (step_passes p q) earlier ≡ true → step_passes p q step ≡ true → list_all r (closed_by close seal whole earlier step) ≡ true
  closed_by-passes earlier (opens b) all here = refl
  closed_by-passes earlier (closes e) all here = by (opener earlier) refl
    where
      by : (o : Option B) → opener earlier ≡ o → list_all r (closed_with close seal whole o e) ≡ true
      by None h = refl
      by (Some b) h = closed_passes b e (opener-passes p q earlier b all h)
  closed_by-passes earlier (closes_all a) all here =
      sealed (reverse (open_of earlier)) (list_all-reverse p (open_of earlier) (open_of-passes p q earlier all))
    where
      sealed : (bs : List B) → list_all p bs ≡ true → list_all r (map (λ b. seal b a) bs) ≡ true
      sealed [] h = refl
      sealed (b ∷ bs) h =
          let parts = both_true (p b) (list_all p bs) h in
          and_true (r (seal b a)) (list_all r (map (λ b. seal b a) bs)) (sealed_passes b a parts.0) (sealed bs parts.1)
  closed_by-passes earlier (other o) all here = whole_passes o here

  closed_after-passes : (earlier later : List (Step B E A O)) → list_all (step_passes p q) earlier ≡ true → list_all (step_passes p q) later ≡ true → list_all r (closed_after close seal whole earlier later) ≡ true
  closed_after-passes earlier [] before after = refl
  closed_after-passes earlier (step ∷ later) before after =
      let parts = both_true (step_passes p q step) (list_all (step_passes p q) later) after in
      let all = list_all-append (step_passes p q) earlier (step ∷ []) ∙ and_true (list_all (step_passes p q) earlier) (step_passes p q step && true) before (and_true (step_passes p q step) true parts.0 refl) in
      list_all-append r (closed_by close seal whole earlier step) (closed_after close seal whole (earlier ++ step ∷ []) later)
      ∙ and_true (list_all r (closed_by close seal whole earlier step)) (list_all r (closed_after close seal whole (earlier ++ step ∷ []) later))
      (closed_by-passes earlier step before parts.0) (closed_after-passes (earlier ++ step ∷ []) later all parts.1)

  -- all that closes passes the test
  pub closed_of-passes : (steps : List (Step B E A O)) → list_all (step_passes p q) steps ≡ true → list_all r (closed_of close seal whole steps) ≡ true
  closed_of-passes steps all = closed_after-passes [] steps refl all
