-- The words of faults, by their numbers.
use Rattle.std.specs.{Option.option_map, Prelude.{ℕ, List, ◌∷◌, ◌++◌, Option, Some, None, decimal}}
use Rattle.span_collect.specs.{fault_of, word_of}

-- the word of a fault's number
abbrev pub word_of_number : ℕ → Option (List ℕ)
word_of_number code = option_map word_of (fault_of code)

abbrev pub with_word : Option (List ℕ) → ℕ → List ℕ
with_word None code = decimal code
with_word (Some word) code = decimal code ++ 32 ∷ word

-- the number, and its word where it has one
unfoldable pub numbered : ℕ → List ℕ
numbered code = with_word (word_of_number code) code
