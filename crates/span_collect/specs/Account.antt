-- The account of a collection: how each file ended, what was asked, and what stands in the journal.
use Rattle.std.specs.{List.AllZip, Prelude.{◌≡◌, ℕ, ◌<◌, ◌≤◌, ◌⊎◌, ⊤, List, [], ◌∷◌, length, map, take, filter_map, All, Contains, Option, Some, None, MatchOption, Result, IsOkAnd, IsErrAnd}}
use Rattle.span_collect.specs.{Item, Format, ReadError, doc, code_of, Entry, Op, One, Ask, Query, Cause, Memory, Full, Busy, IsLegal, calls, AreDistinct, caller_of, declared.{files.{FileEnd.{FileEnd, TheVariants.{Read, Refused, Stopped, NotStarted}}, Input.Input}, queries.Asked.Asked, settings.Settings.Settings}}

-- what a file gives: its items, or why it is refused
abbrev pub Document : Type 0
Document = Result (List Item) ReadError

-- the operations that tell these items, and those that ask these queries
abbrev pub telling : List Item → List Op
telling items = map (λ item. One item) items

abbrev pub asking : List Query → List Op
asking queries = map (λ query. Ask query) queries

-- the operations of a caller's entries, in order
abbrev pub operations : List Entry → ℕ → List Op
operations journal caller = map (λ entry. entry.op) (calls caller_of caller journal)

-- the document has this many items, and all of them stand in the journal under this caller
abbrev pub IsRead : List Entry → Document → ℕ → ℕ → Type 0
IsRead journal document caller count = IsOkAnd document (λ items. (count ≡ length items) × (operations journal caller ≡ telling items))

-- the document is refused with this number, and this caller has no entry
abbrev pub IsRefused : List Entry → Document → ℕ → ℕ → Type 0
IsRefused journal document caller code = IsErrAnd document (λ error. (code ≡ code_of error) × (operations journal caller ≡ []))

-- the document has more items than these, and just its first `done` stand in the journal under this caller
abbrev pub HasFirst : List Entry → Document → ℕ → ℕ → Type 0
HasFirst journal document caller done = IsOkAnd document (λ items. (done < length items) × (operations journal caller ≡ telling (take done items)))

-- reading found no memory: this caller has no entry
abbrev pub IsUnread : List Entry → ℕ → ℕ → Cause → Type 0
IsUnread journal caller done cause = (done ≡ 0) × (cause ≡ Memory) × (operations journal caller ≡ [])

-- memory was refused, or the journal has all the entries that the limit allows
abbrev pub IsCause : List Entry → ℕ → Cause → Type 0
IsCause journal limit Memory = ⊤
IsCause journal limit Full = limit ≤ length journal
IsCause journal limit (Busy front) = ⊥

-- a file that gives this document ended like this
abbrev pub EndsAs : List Entry → ℕ → Document → FileEnd → Type 0
EndsAs journal limit document (Read caller items) = IsRead journal document caller items
EndsAs journal limit document (Refused caller code) = IsRefused journal document caller code
EndsAs journal limit document (Stopped caller done cause) = (HasFirst journal document caller done ⊎ IsUnread journal caller done cause) × IsCause journal limit cause
EndsAs journal limit document NotStarted = ⊤

-- each file ended as its end says, and there is one end for each, in order
abbrev pub EachEndsAs : Format → List Entry → ℕ → List Input → List FileEnd → Type 0
EachEndsAs format journal limit files ends = AllZip (λ file end. EndsAs journal limit (doc format file.bytes.items) end) files ends

-- the asking ended with all queries, or for a cause before that
abbrev pub StopsAsking : List Entry → ℕ → List Query → ℕ → Option Cause → Type 0
StopsAsking journal limit asks done cause = MatchOption cause (done ≡ length asks) (λ c. (done < length asks) × IsCause journal limit c)

-- the first `done` queries stand in the journal under caller 0, and they are all unless there is a cause
pub record IsAsked (journal : List Entry) (limit : ℕ) (asks : List Query) (asked : Asked) : Type 0 where
  pub recorded : operations journal 0 ≡ asking (take asked.done asks)
  pub stop : StopsAsking journal limit asks asked.done asked.cause

-- the caller that an end names
abbrev pub caller_named : FileEnd → Option ℕ
caller_named (Read caller items) = Some caller
caller_named (Refused caller code) = Some caller
caller_named (Stopped caller done cause) = Some caller
caller_named NotStarted = None

abbrev pub callers_named : List FileEnd → List ℕ
callers_named ends = filter_map caller_named ends

-- The journal accounts for the files and the queries. Each file has one end, which says how many of its items stand in the journal,
-- once and in order; so does each query; nothing else stands there. The files' callers are distinct, and none is 0, which asks.
pub record Account (files : List Input) (asks : List Query) (settings : Settings) (ends : List FileEnd) (asked : Asked) (journal : List Entry) : Type 0 where
  pub legal : IsLegal settings.strict journal
  pub within_limit : length journal ≤ settings.limit
  pub each_file_once_in_order : EachEndsAs settings.format journal settings.limit files ends
  pub each_query_once_in_order : IsAsked journal settings.limit asks asked
  pub distinct_callers : AreDistinct (0 ∷ callers_named ends)
  pub nothing_else : All (λ entry. Contains (0 ∷ callers_named ends) entry.caller) journal
