-- A run of files, as a table takes it.
use Rattle.std.specs.Prelude.{ℕ, List, [], ◌∷◌, drop, length, map, option_map, Option, Some, None}
use Rattle.span_runs.specs.{Bytes, Entry, FileEnd, Input, Settings, ends_from, journal_in_turn, unread_of, Schema, Run, run_of, SpanTable, table_of}

-- the name of the only file
abbrev pub only_name : List Input → Option Bytes
only_name (file ∷ []) = Some file.name
only_name files = None

-- the run of these files, which ended so, and whose journal is this
abbrev pub run_of_files : List Input → List FileEnd → List Entry → Run
run_of_files files ends journal = run_of journal (length files) (unread_of ends) (only_name files)

-- the run of these files where they are read in turn
abbrev pub run_in_turn : Settings → List Input → Run
run_in_turn settings files = run_of_files files (ends_from settings.format 1 files) (journal_in_turn settings files [])

-- the same run, of which the column of files has this
abbrev pub labelled : Bytes → Run → Run
labelled label run = record { journal = run.journal; files = run.files; unread = run.unread; file = Some label }

-- the run of a file, where that column leaves out so many bytes of its name
abbrev pub shorter : ℕ → Run → Run
shorter cut run = record { journal = run.journal; files = run.files; unread = run.unread; file = option_map (drop cut) run.file }

-- what such runs come to
abbrev pub shortened : {T : Type 0} → ℕ → (List Run → T → Type 0) → List Run → T → Type 0
shortened cut ComeTo runs value = ComeTo (map (shorter cut) runs) value

abbrev pub table_of_run : Schema → Run → SpanTable
table_of_run schema run = table_of schema (run ∷ [])
