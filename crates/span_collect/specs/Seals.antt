-- The seals of a journal: what closes the spans that are still open once all is told.
use Rattle.std.specs.{Option.option_map, Prelude.{◌≡◌, ◌⊎◌, ℕ, ◌<◌, ◌≤◌, ◌==◌, Bool, true, false, if◌then◌else◌, List, length, map, take, filter_map, Option, Some, None, MatchOption}}
use Rattle.span_collect.specs.{latest_time, Entry, Op, Seal, Memory, ThreadRow, Query, IsLegal, journal_after, thread_of_row, thread_rows, thread_events, Account.{Account, IsCause}, declared.{files.{FileEnd.FileEnd, Input.Input}, queries.Asked.Asked, sealing.Sealing.Sealing, settings.Settings.Settings}}

-- the seal of a thread that has an open span, at the latest time that the thread has seen
abbrev pub seal_for : List Entry → ThreadRow → Option Op
seal_for journal row =
    if row.unclosed == 0 then None else option_map (λ ts. Seal row.pid row.tid ts) (latest_time (thread_events (thread_of_row row) journal))

-- one for each thread that has an open span, in ascending order of process and thread
abbrev pub seals_of : List Entry → List Op
seals_of journal = filter_map (seal_for journal) (thread_rows journal)

-- the journal with these operations after it, under caller 0, each with the answer that the entries before it give
abbrev pub with_seals : Bool → List Entry → List Op → List Entry
with_seals strict journal seals = journal_after strict journal (map (λ seal. (0, seal)) seals)

-- the telling ended with all of so many seals, or for a cause before that
abbrev pub StopsSealing : List Entry → ℕ → ℕ → Sealing → Type 0
StopsSealing journal limit count sealing = MatchOption sealing.cause (sealing.done ≡ count) (λ c. (sealing.done < count) × IsCause journal limit c)

-- the journal is another with the first `done` of these seals after it, and they are all unless there is a cause
pub record AddsSeals (seals : List Op) (strict : Bool) (limit : ℕ) (told journal : List Entry) (sealing : Sealing) : Type 0 where
  pub added : journal ≡ with_seals strict told (take sealing.done seals)
  pub stop : StopsSealing journal limit (length seals) sealing

-- memory for the list of seals was refused, and none was told
pub record HasNoList (told journal : List Entry) (sealing : Sealing) : Type 0 where
  pub same : journal ≡ told
  pub none : sealing.done ≡ 0
  pub memory : sealing.cause ≡ Some Memory

-- where seals are wanted, the journal is another with its seals after it, as far as `sealing` says; else it is that journal
abbrev pub SealsAfter : Bool → Bool → ℕ → List Entry → List Entry → Sealing → Type 0
SealsAfter true strict limit told journal sealing = AddsSeals (seals_of told) strict limit told journal sealing ⊎ HasNoList told journal sealing
SealsAfter false strict limit told journal sealing = (journal ≡ told) × (sealing ≡ record { done = 0; cause = None })

-- The journal accounts for the files, the queries and the seals: what was told and asked stands in it first, as another journal
-- that accounts for the files and the queries, and behind that stand the seals of that journal, if they are wanted.
pub record SealedAccount (files : List Input) (asks : List Query) (settings : Settings) (ends : List FileEnd) (asked : Asked) (sealing : Sealing) (journal : List Entry) : Type 0 where
  pub told : List Entry
  pub account : Account files asks settings ends asked told
  pub seals : SealsAfter settings.seal settings.strict settings.limit told journal sealing
  pub legal : IsLegal settings.strict journal
  pub within_limit : length journal ≤ settings.limit
