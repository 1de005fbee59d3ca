-- Which begins and which ends belong together, whatever they carry.
use Rattle.std.specs.{Option.option_or, Prelude.{ℕ, ◌+◌, ◌==◌, Bool, true, false, not, ◌&&◌, ◌||◌, if◌then◌else◌, List, [], ◌∷◌, ◌++◌, map, reverse, Option, Some, None, is_none}}

-- a begin, an end, an end of all that is open, or a step that is none of these
pub data Step (B E A O : Type 0) : Type 0 where
  opens : B → Step B E A O
  closes : E → Step B E A O
  closes_all : A → Step B E A O
  other : O → Step B E A O

module _ {B E A O : Type 0} where
  -- how many begins there are
  abbrev pub begins : List (Step B E A O) → ℕ
  begins [] = 0
  begins (opens b ∷ steps) = begins steps + 1
  begins (closes e ∷ steps) = begins steps
  begins (closes_all a ∷ steps) = begins steps
  begins (other o ∷ steps) = begins steps

  -- how many ends there are
  abbrev pub ends : List (Step B E A O) → ℕ
  ends [] = 0
  ends (opens b ∷ steps) = ends steps
  ends (closes e ∷ steps) = ends steps + 1
  ends (closes_all a ∷ steps) = ends steps
  ends (other o ∷ steps) = ends steps

  -- one of the steps ends all that is open
  abbrev pub has_end_of_all : List (Step B E A O) → Bool
  has_end_of_all [] = false
  has_end_of_all (opens b ∷ steps) = has_end_of_all steps
  has_end_of_all (closes e ∷ steps) = has_end_of_all steps
  has_end_of_all (closes_all a ∷ steps) = true
  has_end_of_all (other o ∷ steps) = has_end_of_all steps

  -- as many begin as end, and none of the steps ends all
  abbrev pub is_balanced : List (Step B E A O) → Bool
  is_balanced steps = not (has_end_of_all steps) && (begins steps == ends steps)

  -- the begin that an end right after these steps matches: the latest one after which as many begin as end, and nothing ends all
  abbrev pub opener : List (Step B E A O) → Option B
  opener [] = None
  opener (opens b ∷ later) = option_or (opener later) (if is_balanced later then Some b else None)
  opener (closes e ∷ later) = opener later
  opener (closes_all a ∷ later) = opener later
  opener (other o ∷ later) = opener later

  -- an end after these steps matches a begin right before them
  abbrev pub is_match : List (Step B E A O) → Bool
  is_match between = is_none (opener between) && is_balanced between

  -- one of the later steps is an end that matches a begin right before `between`, or ends all that is open
  abbrev pub is_matched_after : List (Step B E A O) → List (Step B E A O) → Bool
  is_matched_after between [] = false
  is_matched_after between (opens b ∷ later) = is_matched_after (between ++ opens b ∷ []) later
  is_matched_after between (closes e ∷ later) = is_match between || is_matched_after (between ++ closes e ∷ []) later
  is_matched_after between (closes_all a ∷ later) = true
  is_matched_after between (other o ∷ later) = is_matched_after (between ++ other o ∷ []) later

  -- the begins that no end matches, after which nothing ends all
  abbrev pub open_of : List (Step B E A O) → List B
  open_of [] = []
  open_of (opens b ∷ later) = if is_matched_after [] later then open_of later else b ∷ open_of later
  open_of (closes e ∷ later) = open_of later
  open_of (closes_all a ∷ later) = open_of later
  open_of (other o ∷ later) = open_of later

-- what closes: with an end, `close` of it and the begin that it matches; with an end of all, `seal` of it and each begin that is
-- open, the last first; with a step that is none of these, `whole` of it
module _ {B E A O S : Type 0} (close : B → E → List S) (seal : B → A → S) (whole : O → List S) where
  -- what an end closes with the begin that it matches, if there is one
  abbrev pub closed_with : Option B → E → List S
  closed_with None e = []
  closed_with (Some b) e = close b e

  -- what a step closes, after the steps before it
  abbrev pub closed_by : List (Step B E A O) → Step B E A O → List S
  closed_by earlier (opens b) = []
  closed_by earlier (closes e) = closed_with (opener earlier) e
  closed_by earlier (closes_all a) = map (λ b. seal b a) (reverse (open_of earlier))
  closed_by earlier (other o) = whole o

  -- what the later steps close, in their order
  abbrev pub closed_after : List (Step B E A O) → List (Step B E A O) → List S
  closed_after earlier [] = []
  closed_after earlier (step ∷ later) = closed_by earlier step ++ closed_after (earlier ++ step ∷ []) later

  -- what all steps close, in the order of the steps that close it
  abbrev pub closed_of : List (Step B E A O) → List S
  closed_of steps = closed_after [] steps

-- a step that carries something else in its place
abbrev pub map_step : {B C E A O P : Type 0} → (B → C) → (O → P) → Step B E A O → Step C E A P
map_step f g (opens b) = opens (f b)
map_step f g (closes e) = closes e
map_step f g (closes_all a) = closes_all a
map_step f g (other o) = other (g o)
