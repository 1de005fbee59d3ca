-- What a collection gives, and its refusals.
use Rattle.std.specs.Prelude.{◌≡◌, ℕ, ◌+◌, ◌<◌, ◌≤◌, ◌⊎◌, ⊤, List, ◌∷◌, length, sum_by}
use Rattle.span_event.specs.declared.fault.Fault.TheVariants.{Memory as MemoryFault}
use Rattle.span_collect.specs.{FileCount as FileCountFault, Unaccounted as UnaccountedFault, number_of, Query, Entry, IsLegal, Kept, AreDistinct, ShareId, Seated, Closes, Account.{EachEndsAs, IsAsked, callers_named}, Work.HasMet, declared.{collection.CollectError.{CollectError, TheVariants.{FileCount, Memory, Unaccounted}}, files.{FileEnd.{FileEnd, TheVariants.{Read, Refused, Stopped, NotStarted}}, Input.Input}, queries.Asked.Asked, settings.Settings.Settings}}

abbrev pub collect_code : CollectError → ℕ
collect_code FileCount = number_of FileCountFault
collect_code Memory = number_of MemoryFault
collect_code (Unaccounted entries calls) = number_of UnaccountedFault

-- there are none, or more than 64
abbrev pub AreNoneOrTooMany : List Input → Type 0
AreNoneOrTooMany files = (length files ≡ 0) ⊎ (64 < length files)

-- how many items of its file an end says stand in the journal
abbrev pub told_by : FileEnd → ℕ
told_by (Read caller items) = items
told_by (Refused caller code) = 0
told_by (Stopped caller done cause) = done
told_by NotStarted = 0

-- how many items and queries stand in the journal, by the ends and by what was asked
abbrev pub calls_told : List FileEnd → Asked → ℕ
calls_told ends asked = asked.done + sum_by told_by ends

-- The journal has all that the ends and `asked` name, and more: so many entries, of which so many calls are told.
pub record HasMore (files : List Input) (asks : List Query) (settings : Settings) (entries told : ℕ) : Type 0 where
  pub journal : List Entry
  pub ends : List FileEnd
  pub asked : Asked
  pub legal : IsLegal settings.strict journal
  pub within_limit : length journal ≤ settings.limit
  pub each_file_once_in_order : EachEndsAs settings.format journal settings.limit files ends
  pub each_query_once_in_order : IsAsked journal settings.limit asks asked
  pub distinct_callers : AreDistinct (0 ∷ callers_named ends)
  pub entries_are : entries ≡ length journal
  pub told_are : told ≡ calls_told ends asked
  pub more : told < entries

-- why there is no outcome
abbrev pub IsRefused : List Input → List Query → Settings → CollectError → Type 0
IsRefused files asks settings FileCount = AreNoneOrTooMany files
IsRefused files asks settings Memory = ⊤
IsRefused files asks settings (Unaccounted entries calls) = HasMore files asks settings entries calls

-- the main seat met all workers, and closed the share that these settings started
pub record IsClosed (files : List Input) (asks : List Query) (settings : Settings) (ends : List FileEnd) (asked : Asked) (ledger : Kept) : Type 0 where
  pub share : ShareId
  pub seat : Seated
  pub met : HasMet settings.format share files asks ends asked seat
  pub closes : Closes share seat ledger
  pub terms_are : share.terms ≡ record { limit = settings.limit; strict = settings.strict }
