-- The text that says which items were refused.
use Rattle.std.specs.Prelude.{ℕ, List, [], ◌∷◌, ◌++◌, flat_map, Option, Some, None, codes, decimal}
use Rattle.span_collect.specs.{Unit, Entry, count_row, json_text_of, line_of, right_in, head_lines, Account.caller_named, FaultLines.of_each_end, InTurn.answers_of, Refusals.refused_by, Words.numbered, declared.{files.{FileEnd.FileEnd, Input.Input}, refusals.tally.Refused.Refused}}

-- the line of a file and a number
unfoldable pub refused_line : List ℕ → ℕ × Refused → List ℕ
refused_line name (code, refused) =
    line_of (codes "refused" ∷ right_in 8 (decimal refused.count) ∷ numbered code ∷ codes "first" ∷ decimal refused.first ∷ json_text_of name ∷ [])

-- the lines of a file whose items this caller told
abbrev pub caller_lines : List Entry → List ℕ → Option ℕ → List ℕ
caller_lines journal name None = []
caller_lines journal name (Some caller) = flat_map (refused_line name) (refused_by (answers_of journal caller))

-- the lines of a file that ended so
abbrev pub file_lines : List Entry → List ℕ → FileEnd → List ℕ
file_lines journal name end = caller_lines journal name (caller_named end)

-- the head of the report, and then the lines of the files
abbrev pub refusals_of : Unit → List Input → List FileEnd → List Entry → List ℕ
refusals_of unit files ends journal = head_lines unit (count_row journal) ++ of_each_end (file_lines journal) files ends
