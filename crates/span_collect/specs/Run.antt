-- What a run does.
use Rattle.std.specs.{List.list_any, Option.is_some, Prelude.{◌≡◌, ℕ, ◌<◌, ◌≤◌, Bool, true, false, ◌||◌, if◌then◌else◌, ⊤, List, [], ◌∷◌, filter, length, map, take, Ok, Err}}
use Rattle.span_event.specs.declared.fault.Fault.TheVariants.{Memory as MemoryFault, Output as OutputFault}
use Rattle.span_collect.specs.{FileCount as FileCountFault, Unaccounted as UnaccountedFault, number_of, Format, doc, code_of, Entry, Query, sequential, SinkState, TakesBytes, Fails, Account.{Document, telling}, Collection.{AreNoneOrTooMany, HasMore}, Seals.SealedAccount, declared.{files.{FileEnd.{FileEnd, TheVariants.{Read, Refused, Stopped, NotStarted}}, Input.Input}, queries.Asked.Asked, runs.{RunEnd.RunEnd, RunError.{RunError, TheVariants.{FileCount, Memory, Unaccounted, Output}}}, sealing.Sealing.Sealing, settings.Settings.Settings}}

abbrev pub run_code : RunError → ℕ
run_code FileCount = number_of FileCountFault
run_code Memory = number_of MemoryFault
run_code (Unaccounted entries calls) = number_of UnaccountedFault
run_code (Output written) = number_of OutputFault

-- the file stopped, or was not started
abbrev pub is_cut : FileEnd → Bool
is_cut (Stopped caller done cause) = true
is_cut NotStarted = true
is_cut end = false

abbrev pub is_refused : FileEnd → Bool
is_refused (Refused caller code) = true
is_refused end = false

-- how many files were refused as a whole
abbrev pub unread_of : List FileEnd → ℕ
unread_of ends = length (filter is_refused ends)

-- 2 where a file stopped or was not started, or a query or a seal was not taken; else 1 where a file was refused, else 0
abbrev pub status_of : List FileEnd → Asked → Sealing → ℕ
status_of ends asked sealing = if list_any is_cut ends || is_some asked.cause || is_some sealing.cause then 2 else if list_any is_refused ends then 1 else 0

-- a text of what was collected: of how the files ended, and of their journal
abbrev pub TextOf : Type 0
TextOf = List FileEnd → List Entry → List ℕ

-- one of the journal alone, as the report is
abbrev pub of_journal : (List Entry → List ℕ) → TextOf
of_journal text ends journal = text journal

-- a journal accounts for the files, the queries and the seals; unless the status is 2 its text was written, else nothing
pub record IsRunOf (text : TextOf) (files : List Input) (asks : List Query) (settings : Settings) (run : RunEnd) (old new : SinkState) : Type 0 where
  pub journal : List Entry
  pub account : SealedAccount files asks settings run.ends.items run.asked run.sealing journal
  pub status : run.status ≡ status_of run.ends.items run.asked run.sealing
  pub written : run.status < 2 → TakesBytes old new (text run.ends.items journal)
  pub silent : run.status ≡ 2 → new ≡ old

-- a journal accounts for the files, each read or refused, and for all queries and seals, and just the first `written` bytes of its
-- text were written
pub record IsCutShort (text : TextOf) (files : List Input) (asks : List Query) (settings : Settings) (written : ℕ) (old new : SinkState) : Type 0 where
  pub ends : List FileEnd
  pub asked : Asked
  pub sealing : Sealing
  pub journal : List Entry
  pub account : SealedAccount files asks settings ends asked sealing journal
  pub status : status_of ends asked sealing < 2
  pub within : written ≤ length (text ends journal)
  pub output : Fails old new (take written (text ends journal))

-- why files are not collected
abbrev pub IsNotCollected : RunError → List Input → List Query → Settings → Type 0
IsNotCollected FileCount files asks settings = AreNoneOrTooMany files
IsNotCollected Memory files asks settings = ⊤
IsNotCollected (Unaccounted entries calls) files asks settings = HasMore files asks settings entries calls
IsNotCollected (Output written) files asks settings = ⊥

-- why a run that writes this text is refused, and what it leaves: only a failed output took bytes
abbrev pub RunLeaves : TextOf → RunError → List Input → List Query → Settings → SinkState → SinkState → Type 0
RunLeaves text FileCount files asks settings old new = AreNoneOrTooMany files × (new ≡ old)
RunLeaves text Memory files asks settings old new = new ≡ old
RunLeaves text (Unaccounted entries calls) files asks settings old new = HasMore files asks settings entries calls × (new ≡ old)
RunLeaves text (Output written) files asks settings old new = IsCutShort text files asks settings written old new

-- the journal that one caller makes of a document: of all its items, and of none where it is refused
abbrev pub journal_by : Bool → ℕ → Document → List Entry
journal_by strict caller (Ok items) = sequential strict (map (λ op. (caller, op)) (telling items))
journal_by strict caller (Err error) = []

-- how the file ends of which this caller tells the whole document, or which is refused
abbrev pub end_by : ℕ → Document → FileEnd
end_by caller (Ok items) = Read caller (length items)
end_by caller (Err error) = Refused caller (code_of error)

-- the text of a file that caller 1 alone tells to an empty ledger was written
abbrev pub TakesTextOf : TextOf → Format → Bool → Input → SinkState → SinkState → Type 0
TakesTextOf text format strict file old new = let document = doc format file.bytes.items in TakesBytes old new (text (end_by 1 document ∷ []) (journal_by strict 1 document))

-- where one file is given, no query and no wish to seal, and the status isn't 2, the text of that file was written
abbrev pub WritesOneFile : TextOf → List Input → List Query → Settings → ℕ → SinkState → SinkState → Type 0
WritesOneFile text files asks settings status old new =
    status < 2 → settings.seal ≡ false → (file : Input) → files ≡ file ∷ [] → asks ≡ [] → TakesTextOf text settings.format settings.strict file old new
