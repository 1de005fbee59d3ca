-- The lines that say how files failed.
use Rattle.std.specs.Prelude.{ℕ, List, [], ◌∷◌, ◌++◌, codes, decimal}
use Rattle.span_journal.specs.Refusal.{code_of}
use Rattle.span_collect.specs.{NotStarted as NotStartedFault, number_of, line_of, json_text_of, Words.numbered, declared.files.{FileEnd.{FileEnd, TheVariants.{Read, Refused, Stopped, NotStarted}}, Input.Input}}

-- the program, and the file's name as JSON text
abbrev pub about_file : List ℕ → List ℕ → List ℕ
about_file name rest = codes "tracebook: " ++ (json_text_of name ++ (codes ": " ++ rest))

-- the line of a file and a fault
unfoldable pub fault_line : List ℕ → ℕ → List ℕ
fault_line name code = about_file name (line_of (numbered code ∷ []))

-- the same where some items were taken before
unfoldable pub stop_line : List ℕ → ℕ → ℕ → List ℕ
stop_line name code done = about_file name (line_of (numbered code ∷ codes "after" ∷ decimal done ∷ []))

-- the line of a file's end; a file that was read whole has none
abbrev pub end_line : List ℕ → FileEnd → List ℕ
end_line name (Read caller items) = []
end_line name (Refused caller code) = fault_line name code
end_line name (Stopped caller done cause) = stop_line name (code_of cause) done
end_line name NotStarted = fault_line name (number_of NotStartedFault)

-- what each file gives by its name and its end, in the files' order
abbrev pub of_each_end : {A : Type 0} → (List ℕ → FileEnd → List A) → List Input → List FileEnd → List A
of_each_end given [] ends = []
of_each_end given (file ∷ files) [] = []
of_each_end given (file ∷ files) (end ∷ ends) = given file.name end ++ of_each_end given files ends

-- the lines of all files, each with its end
abbrev pub end_lines : List Input → List FileEnd → List ℕ
end_lines files ends = of_each_end end_line files ends
