-- The faults, each with its number and its word.
use Rattle.std.specs.Prelude.{ℕ, List, [], ◌∷◌, Option, ◌==◌, find, codes}
use Rattle.span_event.specs.declared.fault.Fault.{Fault, TheVariants.{NotJson, NotTrace, TooLarge, TooMany, NotObject, NoPhase, NoTime, NotWhole, NoDuration, BadField, NoId, BadReach, BadSeries, NoOpenSpan, TimeGoesBack, NoOpenAsync, EndBeforeBegin, FlowOpen, NoFlow, NameDiffers, Memory, Full, Busy, CallersFull, FileCount, NotStarted, Unaccounted, Output, NotOpened, NotTable, OtherColumns, TooGreat, StacksTooLarge, PageTooLarge}}

abbrev pub number_of : Fault → ℕ
number_of NotJson = 1
number_of NotTrace = 2
number_of TooLarge = 3
number_of TooMany = 4
number_of NotObject = 11
number_of NoPhase = 12
number_of NoTime = 13
number_of NotWhole = 14
number_of NoDuration = 15
number_of BadField = 16
number_of NoId = 17
number_of BadReach = 18
number_of BadSeries = 19
number_of NoOpenSpan = 21
number_of TimeGoesBack = 22
number_of NoOpenAsync = 23
number_of EndBeforeBegin = 24
number_of FlowOpen = 25
number_of NoFlow = 26
number_of NameDiffers = 27
number_of Memory = 31
number_of Full = 32
number_of Busy = 33
number_of CallersFull = 34
number_of FileCount = 41
number_of NotStarted = 42
number_of Unaccounted = 43
number_of Output = 51
number_of NotOpened = 52
number_of NotTable = 53
number_of OtherColumns = 54
number_of TooGreat = 55
number_of StacksTooLarge = 56
number_of PageTooLarge = 57

abbrev pub word_of : Fault → List ℕ
word_of NotJson = codes "NotJson"
word_of NotTrace = codes "NotTrace"
word_of TooLarge = codes "TooLarge"
word_of TooMany = codes "TooMany"
word_of NotObject = codes "NotObject"
word_of NoPhase = codes "NoPhase"
word_of NoTime = codes "NoTime"
word_of NotWhole = codes "NotWhole"
word_of NoDuration = codes "NoDuration"
word_of BadField = codes "BadField"
word_of NoId = codes "NoId"
word_of BadReach = codes "BadReach"
word_of BadSeries = codes "BadSeries"
word_of NoOpenSpan = codes "NoOpenSpan"
word_of TimeGoesBack = codes "TimeGoesBack"
word_of NoOpenAsync = codes "NoOpenAsync"
word_of EndBeforeBegin = codes "EndBeforeBegin"
word_of FlowOpen = codes "FlowOpen"
word_of NoFlow = codes "NoFlow"
word_of NameDiffers = codes "NameDiffers"
word_of Memory = codes "Memory"
word_of Full = codes "Full"
word_of Busy = codes "Busy"
word_of CallersFull = codes "CallersFull"
word_of FileCount = codes "FileCount"
word_of NotStarted = codes "NotStarted"
word_of Unaccounted = codes "Unaccounted"
word_of Output = codes "Output"
word_of NotOpened = codes "NotOpened"
word_of NotTable = codes "NotTable"
word_of OtherColumns = codes "OtherColumns"
word_of TooGreat = codes "TooGreat"
word_of StacksTooLarge = codes "StacksTooLarge"
word_of PageTooLarge = codes "PageTooLarge"

abbrev pub faults : List Fault
faults =
    NotJson ∷ NotTrace ∷ TooLarge ∷ TooMany ∷ NotObject ∷ NoPhase ∷ NoTime ∷ NotWhole ∷
    NoDuration ∷ BadField ∷ NoId ∷ BadReach ∷ BadSeries ∷ NoOpenSpan ∷ TimeGoesBack ∷
    NoOpenAsync ∷ EndBeforeBegin ∷ FlowOpen ∷ NoFlow ∷ NameDiffers ∷ Memory ∷ Full ∷ Busy ∷
    CallersFull ∷ FileCount ∷ NotStarted ∷ Unaccounted ∷ Output ∷ NotOpened ∷ NotTable ∷
    OtherColumns ∷ TooGreat ∷ StacksTooLarge ∷ PageTooLarge ∷ []

-- the fault that has this number, if there is one
unfoldable pub fault_of : ℕ → Option Fault
fault_of code = find (λ fault. number_of fault == code) faults
