-- What comes of a list whose places jobs share.
use Rattle.std.specs.Prelude.{ℕ, ◌-◌, ◌≤◌, List, take, drop}

-- what stands at the places from here to there
abbrev pub places : {N : Type 0} → ℕ → ℕ → List N → List N
places from to list = take (to - from) (drop from list)

-- the places from here to there may be taken, of so many
abbrev pub TakesUpTo : (ℕ → ℕ → Type 0) → ℕ → Type 0
TakesUpTo May long = (from to : ℕ) → from ≤ to → to ≤ long → May from to

-- What comes of the places from here to there: they were taken one after another, or in two parts that were joined.
pub data Divided {X : Type 0} (Takes : ℕ → ℕ → X → Type 0) (Joins : X → X → X → Type 0) : ℕ → ℕ → X → Type 0 where
  Taken : (from to : ℕ) (result : X) → Takes from to result → Divided Takes Joins from to result
  Parted : (from middle to : ℕ) (first second result : X) → from ≤ middle → middle ≤ to → Divided Takes Joins from middle first → Divided Takes Joins middle to second → Joins first second result → Divided Takes Joins from to result
