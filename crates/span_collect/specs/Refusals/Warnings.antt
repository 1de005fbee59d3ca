-- Which files have refused events.
use Rattle.std.specs.Prelude.{ℕ, ◌==◌, if◌then◌else◌, nat_lt, fold, List, [], ◌∷◌, Option, Some, None}
use Rattle.span_collect.specs.{CountRow, Entry, Account.caller_named, FaultLines.of_each_end, InTurn.answers_of, Refusals.{counts_in, refused_by}, declared.{files.{FileEnd.FileEnd, Input.Input}, refusals.{tally.Refused.Refused, warnings.Warning.Warning}}}

-- a number and how many items it refused, or the next one, if it refused more
abbrev pub most_with : ℕ × ℕ → ℕ × Refused → ℕ × ℕ
most_with most row = if nat_lt most.1 row.1.count then (row.0, row.1.count) else most

-- the number that refused most, the first of equal ones, and how many; 0, where there is none
abbrev pub most_of : List (ℕ × Refused) → ℕ × ℕ
most_of rows = fold most_with (0, 0) rows

-- the warning of a file of whose events so many were accepted and refused, the latter by these numbers; none, where none was refused
abbrev pub warning_in : List ℕ → CountRow → List (ℕ × Refused) → List Warning
warning_in name counts refused =
    if counts.refused == 0 then [] else record { name = name; refused = counts.refused; accepted = counts.accepted; code = (most_of refused).0 } ∷ []

-- that of a file whose items this caller told
abbrev pub caller_warnings : List Entry → List ℕ → Option ℕ → List Warning
caller_warnings journal name None = []
caller_warnings journal name (Some caller) = let answers = answers_of journal caller in warning_in name (counts_in answers) (refused_by answers)

-- that of a file that ended so
abbrev pub file_warnings : List Entry → List ℕ → FileEnd → List Warning
file_warnings journal name end = caller_warnings journal name (caller_named end)

-- those of all files, each with its end
abbrev pub warnings_of : List Input → List FileEnd → List Entry → List Warning
warnings_of files ends journal = of_each_end (file_warnings journal) files ends
