-- Files of which no two have a topic in common, and the journal in which they stand one after another.
use Rattle.std.specs.{List.{list_any, range_with_len}, Prelude.{◌≡◌, ◌≢◌, ℕ, ◌+◌, ◌<◌, ◌≤◌, Bool, true, false, if◌then◌else◌, List, [], ◌∷◌, ◌++◌, length, map, take, filter_map, slice_get, Contains, ⊤, Option, Some, None, Ok, Err}}
use Rattle.span_collect.specs.{Event, Item, Good, Format, doc, Answer, Entry, Op, Query, an_event, sequential, AreAlike, Topic, concerns, SinkState, TakesBytes, Fails, calls, caller_of, Account.{Document, asking, callers_named, telling}, Run.{TextOf, end_by, is_cut}, Seals.{seals_of, with_seals}, declared.{files.{FileEnd.FileEnd, Input.Input}, runs.RunError.{RunError, TheVariants.Output}, settings.Settings.Settings}}

-- the items of a document; none where it is refused
abbrev pub items_in : Document → List Item
items_in (Ok items) = items
items_in (Err error) = []

abbrev pub good_event : Item → Option Event
good_event (Good event) = Some event
good_event item = None

-- the good events of a document
abbrev pub events_in : Document → List Event
events_in document = filter_map good_event (items_in document)

-- no topic, which is a process, an asynchronous key or a flow key, concerns a good event of both; nor then has both a counter in
-- common, which belongs to its process
abbrev pub AreApart : Document → Document → Type 0
AreApart one other = (topic : Topic) (e f : Event) → Contains (events_in one) e → Contains (events_in other) f →
    concerns topic (an_event e) ≡ true → concerns topic (an_event f) ≡ false

-- so it is of each two of these files
abbrev pub AreSeparate : Format → List Input → Type 0
AreSeparate format files = (v w : ℕ) (one other : Input) → v ≢ w → slice_get files v ≡ Some one → slice_get files w ≡ Some other →
    AreApart (doc format one.bytes.items) (doc format other.bytes.items)

-- the calls that tell the files one after another, the first under this caller and each other under the next
abbrev pub calls_from : Format → ℕ → List Input → List (ℕ × Op)
calls_from format caller [] = []
calls_from format caller (file ∷ files) =
    map (λ op. (caller, op)) (telling (items_in (doc format file.bytes.items))) ++ calls_from format (caller + 1) files

-- the files one after another, the first under caller 1, and then the queries under caller 0
abbrev pub calls_in_turn : Format → List Input → List Query → List (ℕ × Op)
calls_in_turn format files asks = calls_from format 1 files ++ map (λ op. (0, op)) (asking asks)

-- the sequential journal of these calls
abbrev pub told_in_turn : Format → Bool → List Input → List Query → List Entry
told_in_turn format strict files asks = sequential strict (calls_in_turn format files asks)

-- the same with its seals behind it, where they are wanted
abbrev pub journal_in_turn : Settings → List Input → List Query → List Entry
journal_in_turn settings files asks =
    let told = told_in_turn settings.format settings.strict files asks in
    if settings.seal then with_seals settings.strict told (seals_of told) else told

-- the answers that a caller got, in order
abbrev pub answers_of : List Entry → ℕ → List Answer
answers_of journal caller = map (λ entry. entry.answer) (calls caller_of caller journal)

-- where the files are separate and none was cut, their callers, in the files' order, got the answers that the callers 1, 2 and so on
-- get where the files are read in turn
abbrev pub AnswersAsInTurn : List Input → List Query → Settings → List FileEnd → List Entry → Type 0
AnswersAsInTurn files asks settings ends journal = AreSeparate settings.format files → list_any is_cut ends ≡ false →
    map (answers_of journal) (callers_named ends) ≡ map (answers_of (journal_in_turn settings files asks)) (range_with_len 1 (length files))

-- where the files are separate, and the status isn't 2, the journal is like the one that they give where they are read in turn: it has
-- the same accepted acts on each topic, in their order, and as many entries of each kind
abbrev pub StandsAsInTurn : List Input → List Query → Settings → ℕ → List Entry → Type 0
StandsAsInTurn files asks settings status journal = AreSeparate settings.format files → status < 2 → AreAlike journal (journal_in_turn settings files asks)

-- how the files end where they are read in turn, the first under this caller and each other under the next
abbrev pub ends_from : Format → ℕ → List Input → List FileEnd
ends_from format caller [] = []
ends_from format caller (file ∷ files) = end_by caller (doc format file.bytes.items) ∷ ends_from format (caller + 1) files

-- the text that the files give where they are read in turn
abbrev pub text_in_turn : TextOf → List Input → List Query → Settings → List ℕ
text_in_turn text files asks settings = text (ends_from settings.format 1 files) (journal_in_turn settings files asks)

-- where the files are separate, and the status isn't 2, that text was written
abbrev pub WritesAsInTurn : TextOf → List Input → List Query → Settings → ℕ → SinkState → SinkState → Type 0
WritesAsInTurn text files asks settings status old new = AreSeparate settings.format files → status < 2 → TakesBytes old new (text_in_turn text files asks settings)

-- where the files are separate, and the output failed, just the first bytes of that text were written
abbrev pub FailsAsInTurn : TextOf → RunError → List Input → List Query → Settings → SinkState → SinkState → Type 0
FailsAsInTurn text (Output written) files asks settings old new = AreSeparate settings.format files →
    (written ≤ length (text_in_turn text files asks settings)) × Fails old new (take written (text_in_turn text files asks settings))
FailsAsInTurn text error files asks settings old new = ⊤
