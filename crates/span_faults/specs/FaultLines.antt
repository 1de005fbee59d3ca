-- What is said where files or runs failed.
use Rattle.std.specs.Prelude.{◌≡◌, ℕ, ◌⊎◌, List, [], ◌∷◌, ◌++◌, codes, Option, Some, None}
use Rattle.span_faults.specs.{NotOpened, number_of, code_of, Cause, Input, RunEnd, end_lines, fault_line, numbered}

-- the line of a run as a whole
abbrev pub run_line : ℕ → List ℕ
run_line code = codes "tracebook: " ++ (numbered code ++ 10 ∷ [])

-- the line of a seal that was not taken
abbrev pub seal_line : Option Cause → List ℕ
seal_line None = []
seal_line (Some cause) = run_line (code_of cause)

-- the line of a file that could not be read
abbrev pub unread_line : List ℕ → List ℕ
unread_line name = fault_line name (number_of NotOpened)

-- the lines of a run's files, and that of a seal
abbrev pub fault_text : List Input → RunEnd → List ℕ
fault_text files run = end_lines files run.ends.items ++ seal_line run.sealing.cause

-- nothing, or a text that says that it is a hint
abbrev pub IsHint : List ℕ → Type 0
IsHint text = (text ≡ []) ⊎ ((rest : List ℕ) × (text ≡ codes "hint: " ++ rest))
