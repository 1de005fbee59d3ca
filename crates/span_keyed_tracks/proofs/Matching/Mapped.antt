-- What steps carry changes nothing about which of them belong together.
use Rattle.std.specs.{Option.option_or, Prelude.option_map}
use Rattle.std.proofs.{Common.{◌≡◌, ◌+◌, List, [], ◌∷◌, ◌++◌, map, Bool, true, false, cond, ◌&&◌, ◌||◌, Option, Some, None, is_none, not, reverse, refl, sym, ap, ap₂, ◌∙◌, nat_eq}, lemmas.List.map-append}
pub use Rattle.indexmap.proofs.ReorderLemmas.{map-reverse}
use Rattle.span_keyed_tracks.specs.Matching.{Step, opens, closes, closes_all, other, begins, ends, has_end_of_all, is_balanced, opener, is_match, is_matched_after, open_of, closed_with, closed_by, closed_after, closed_of, map_step}

option_map-or : {A B : Type 0} (g : A → B) (o p : Option A) → option_map g (option_or o p) ≡ option_or (option_map g o) (option_map g p)
option_map-or g None p = refl
option_map-or g (Some x) p = refl

option_map-cond : {A B : Type 0} (g : A → B) (t : Bool) (x : A) → option_map g (cond t (Some x) None) ≡ cond t (Some (g x)) None
option_map-cond g true x = refl
option_map-cond g false x = refl

is_none-option_map : {A B : Type 0} (g : A → B) (o : Option A) → is_none (option_map g o) ≡ is_none o
is_none-option_map g None = refl
is_none-option_map g (Some x) = refl

map-cond : {A B : Type 0} (g : A → B) (t : Bool) (xs ys : List A) → map g (cond t xs ys) ≡ cond t (map g xs) (map g ys)
map-cond g true xs ys = refl
map-cond g false xs ys = refl

module _ {B C E A O P : Type 0} (f : B → C) (g : O → P) where
  begins-map_step : (steps : List (Step B E A O)) → begins (map (map_step f g) steps) ≡ begins steps
  begins-map_step [] = refl
  begins-map_step (opens b ∷ steps) = ap (λ n. n + 1) (begins-map_step steps)
  begins-map_step (closes e ∷ steps) = begins-map_step steps
  begins-map_step (closes_all a ∷ steps) = begins-map_step steps
  begins-map_step (other o ∷ steps) = begins-map_step steps

  ends-map_step : (steps : List (Step B E A O)) → ends (map (map_step f g) steps) ≡ ends steps
  ends-map_step [] = refl
  ends-map_step (opens b ∷ steps) = ends-map_step steps
  ends-map_step (closes e ∷ steps) = ap (λ n. n + 1) (ends-map_step steps)
  ends-map_step (closes_all a ∷ steps) = ends-map_step steps
  ends-map_step (other o ∷ steps) = ends-map_step steps

  has_end_of_all-map_step : (steps : List (Step B E A O)) → has_end_of_all (map (map_step f g) steps) ≡ has_end_of_all steps
  has_end_of_all-map_step [] = refl
  has_end_of_all-map_step (opens b ∷ steps) = has_end_of_all-map_step steps
  has_end_of_all-map_step (closes e ∷ steps) = has_end_of_all-map_step steps
  has_end_of_all-map_step (closes_all a ∷ steps) = refl
  has_end_of_all-map_step (other o ∷ steps) = has_end_of_all-map_step steps

  is_balanced-map_step : (steps : List (Step B E A O)) → is_balanced (map (map_step f g) steps) ≡ is_balanced steps
  is_balanced-map_step steps = ap₂ (λ a b. not a && b) (has_end_of_all-map_step steps) (ap₂ nat_eq (begins-map_step steps) (ends-map_step steps))

  -- the begin that an end matches is the same one
  pub opener-map_step : (steps : List (Step B E A O)) → opener (map (map_step f g) steps) ≡ option_map f (opener steps)
  opener-map_step [] = refl
  opener-map_step (opens b ∷ steps) =
      ap₂ (λ o t. option_or o (cond t (Some (f b)) None)) (opener-map_step steps) (is_balanced-map_step steps)
      ∙ ap (λ o. option_or (option_map f (opener steps)) o) (sym (option_map-cond f (is_balanced steps) b))
      ∙ sym (option_map-or f (opener steps) (cond (is_balanced steps) (Some b) None))
  opener-map_step (closes e ∷ steps) = opener-map_step steps
  opener-map_step (closes_all a ∷ steps) = opener-map_step steps
  opener-map_step (other o ∷ steps) = opener-map_step steps

  is_match-map_step : (steps : List (Step B E A O)) → is_match (map (map_step f g) steps) ≡ is_match steps
  is_match-map_step steps = ap₂ (λ a b. a && b) (ap is_none (opener-map_step steps) ∙ is_none-option_map f (opener steps)) (is_balanced-map_step steps)

  next-map_step : (between : List (Step B E A O)) (step : Step B E A O) → map (map_step f g) between ++ map_step f g step ∷ [] ≡ map (map_step f g) (between ++ step ∷ [])
  next-map_step between step = sym (map-append (map_step f g) between (step ∷ []))

  is_matched_after-map_step : (between later : List (Step B E A O)) → is_matched_after (map (map_step f g) between) (map (map_step f g) later) ≡ is_matched_after between later
  is_matched_after-map_step between [] = refl
  is_matched_after-map_step between (opens b ∷ later) =
      ap (λ steps. is_matched_after steps (map (map_step f g) later)) (next-map_step between (opens b)) ∙ is_matched_after-map_step (between ++ opens b ∷ []) later
  is_matched_after-map_step between (closes e ∷ later) =
      ap₂ (λ a b. a || b) (is_match-map_step between)
      (ap (λ steps. is_matched_after steps (map (map_step f g) later)) (next-map_step between (closes e)) ∙ is_matched_after-map_step (between ++ closes e ∷ []) later)
  is_matched_after-map_step between (closes_all a ∷ later) = refl
  is_matched_after-map_step between (other o ∷ later) =
      ap (λ steps. is_matched_after steps (map (map_step f g) later)) (next-map_step between (other o)) ∙ is_matched_after-map_step (between ++ other o ∷ []) later

  -- the same begins are open
  pub open_of-map_step : (steps : List (Step B E A O)) → open_of (map (map_step f g) steps) ≡ map f (open_of steps)
  open_of-map_step [] = refl
  open_of-map_step (opens b ∷ steps) =
      ap₂ (λ t bs. cond t bs (f b ∷ bs)) (is_matched_after-map_step [] steps) (open_of-map_step steps)
      ∙ sym (map-cond f (is_matched_after [] steps) (open_of steps) (b ∷ open_of steps))
  open_of-map_step (closes e ∷ steps) = open_of-map_step steps
  open_of-map_step (closes_all a ∷ steps) = open_of-map_step steps
  open_of-map_step (other o ∷ steps) = open_of-map_step steps

-- where what closes commutes with the maps, the same closes
module _ {B C E A O P S T : Type 0} (f : B → C) (g : O → P) (close : B → E → List S) (seal : B → A → S) (whole : O → List S)
    (close_mapped : C → E → List T) (seal_mapped : C → A → T) (whole_mapped : P → List T) (h : S → T)
    (closed_same : (b : B) (e : E) → close_mapped (f b) e ≡ map h (close b e)) (sealed_same : (b : B) (a : A) → seal_mapped (f b) a ≡ h (seal b a))
    (whole_same : (o : O) → whole_mapped (g o) ≡ map h (whole o)) where
  closed_with-map_step : (o : Option B) (e : E) → closed_with close_mapped seal_mapped whole_mapped (option_map f o) e ≡ map h (closed_with close seal whole o e)
  closed_with-map_step None e = refl
  closed_with-map_step (Some b) e = closed_same b e

  -- a step closes the same
  pub closed_by-map_step : (earlier : List (Step B E A O)) (step : Step B E A O) → closed_by close_mapped seal_mapped whole_mapped (map (map_step f g) earlier) (map_step f g step) ≡ map h (closed_by close seal whole earlier step)
  closed_by-map_step earlier (opens b) = refl
  closed_by-map_step earlier (closes e) = ap (λ o. closed_with close_mapped seal_mapped whole_mapped o e) (opener-map_step f g earlier) ∙ closed_with-map_step (opener earlier) e
  closed_by-map_step earlier (closes_all a) =
      ap (λ bs. map (λ c. seal_mapped c a) (reverse bs)) (open_of-map_step f g earlier)
      ∙ ap (map (λ c. seal_mapped c a)) (sym (map-reverse f (open_of earlier)))
      ∙ sealed (reverse (open_of earlier))
    where
      sealed : (bs : List B) → map (λ c. seal_mapped c a) (map f bs) ≡ map h (map (λ b. seal b a) bs)
      sealed [] = refl
      sealed (b ∷ bs) = ap₂ (λ x xs. x ∷ xs) (sealed_same b a) (sealed bs)
  closed_by-map_step earlier (other o) = whole_same o

  closed_after-map_step : (earlier later : List (Step B E A O)) → closed_after close_mapped seal_mapped whole_mapped (map (map_step f g) earlier) (map (map_step f g) later) ≡ map h (closed_after close seal whole earlier later)
  closed_after-map_step earlier [] = refl
  closed_after-map_step earlier (step ∷ later) =
      ap₂ (λ xs ys. xs ++ ys) (closed_by-map_step earlier step)
      (ap (λ steps. closed_after close_mapped seal_mapped whole_mapped steps (map (map_step f g) later)) (next-map_step f g earlier step) ∙ closed_after-map_step (earlier ++ step ∷ []) later)
      ∙ sym (map-append h (closed_by close seal whole earlier step) (closed_after close seal whole (earlier ++ step ∷ []) later))

  -- all steps together close the same
  pub closed_of-map_step : (steps : List (Step B E A O)) → closed_of close_mapped seal_mapped whole_mapped (map (map_step f g) steps) ≡ map h (closed_of close seal whole steps)
  closed_of-map_step steps = closed_after-map_step [] steps
