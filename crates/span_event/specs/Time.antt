-- How far times lie apart, in the unit of the run.
use Rattle.std.specs.Prelude.{ℕ, ℤ, pos, negsuc, ◌-ℤ◌}

-- a whole number, but 0 in the place of a negative one
abbrev pub natural : ℤ → ℕ
natural (pos n) = n
natural (negsuc n) = 0

-- how many whole numbers lie from a to before b
abbrev pub distance : ℤ → ℤ → ℕ
distance a b = natural (b -ℤ a)
