-- What is said of files behind the text of their runs.
use Rattle.std.specs.Prelude.{◌≡◌, List, [], ◌∷◌, ◌++◌, flat_map}
use Rattle.span_runs.specs.{Bytes, Format, doc, Input, Settings, Warning, end_by, end_line, end_lines, ends_from, journal_in_turn, warnings_of, declared.{file_run.FileRun.FileRun, said.Said.Said}}

-- all of it is said: of the first files, and then of the others
pub record IsBehind (first others all : Said) : Type 0 where
  pub lines : all.lines.items ≡ first.lines.items ++ others.lines.items
  pub warnings : all.warnings.items ≡ first.warnings.items ++ others.warnings.items

-- what is said of a file that was a run of its own stands behind what was said before
pub record SaysOfRun (run : FileRun) (old new : Said) : Type 0 where
  pub lines : new.lines.items ≡ old.lines.items ++ end_lines (run.file ∷ []) run.collected.end.ends.items
  pub warnings : new.warnings.items ≡ old.warnings.items ++ warnings_of (run.file ∷ []) run.collected.end.ends.items run.collected.ledger.journal

-- the fault line of a file that is no trace; another has none
abbrev pub refusal_line : Format → Input → Bytes
refusal_line format file = end_line file.name (end_by 1 (doc format file.bytes.items))

-- the warning of a file of which events are refused, where its items stand in their order; another has none
abbrev pub warnings_alone : Settings → Input → List Warning
warnings_alone settings file = warnings_of (file ∷ []) (ends_from settings.format 1 (file ∷ [])) (journal_in_turn settings (file ∷ []) [])

-- it is what is said of files each of which was a run of its own
pub record SaysOfFiles (settings : Settings) (files : List Input) (said : Said) : Type 0 where
  pub lines : said.lines.items ≡ flat_map (refusal_line settings.format) files
  pub warnings : said.warnings.items ≡ flat_map (warnings_alone settings) files

-- what is said of one more such file stands behind it
pub record SaysMore (settings : Settings) (file : Input) (old new : Said) : Type 0 where
  pub lines : new.lines.items ≡ old.lines.items ++ refusal_line settings.format file
  pub warnings : new.warnings.items ≡ old.warnings.items ++ warnings_alone settings file
