-- What is kept of the answers to each caller.
use Rattle.std.specs.{Ordering.nat_cmp, Prelude.{◌≡◌, ℕ, ◌-◌, ◌^◌, ◌<◌, List, [], ◌∷◌, ◌++◌, length, map}}
use Rattle.span_collect.specs.{Keyed, entries_in, Answer, CountRow, Entry, Refusals.{counts_in, refused_by}, declared.refusals.tally.Refused.Refused}

-- how many items a caller told, what became of them, and what refused some of them
pub record Tallied : Type 0 where
  pub items : ℕ
  pub counts : CountRow
  pub refused : List (ℕ × Refused)

-- what these answers give
abbrev pub tally_of : List Answer → Tallied
tally_of answers = record { items = length answers; counts = counts_in answers; refused = refused_by answers }

-- it stands for answers of which there can be one more
abbrev pub HasRoom : Tallied → Type 0
HasRoom tally = (answers : List Answer) × (tally ≡ tally_of answers) × (length answers < 2 ^ 32 - 1)

-- it stands for one more answer
abbrev pub Takes : Answer → Tallied → Tallied → Type 0
Takes answer old new = (answers : List Answer) → old ≡ tally_of answers → new ≡ tally_of (answers ++ answer ∷ [])

-- an entry, as an answer to its caller
abbrev pub answer_in : Entry → Keyed ℕ Answer
answer_in entry = record { key = entry.caller; step = entry.answer }

-- each caller of a journal, with what the answers to it give
abbrev pub tallies_of : List Entry → List (ℕ × Tallied)
tallies_of journal = entries_in nat_cmp tally_of (map answer_in journal)

-- these stand for a journal that can have one more entry
abbrev pub HasRoomFor : List (ℕ × Tallied) → Type 0
HasRoomFor tallies = (journal : List Entry) × (tallies ≡ tallies_of journal) × (length journal < 2 ^ 32 - 1)
