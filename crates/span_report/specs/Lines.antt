-- The lines of a report.
use Rattle.std.specs.{Fmt.signed_decimal, List.join_with_byte, Prelude.{ℕ, ◌-◌, ◌==◌, if◌then◌else◌, ℤ, List, [], ◌∷◌, ◌++◌, length, replicate, Option, Some, None, codes, decimal}}
use Rattle.json.specs.Print.{quoted}
use Rattle.span_event.specs.declared.event.Reach.TheVariants.{Thread}
use Rattle.span_report.specs.{IdKey, Reach, Global, Process, Unit, Microseconds, Nanoseconds, AsyncRow, SeriesRow, SeriesTotals, FlowRow, CountRow, ProcessRow, ThreadRow, SpanRow, InstantRow}

-- the words with one blank between them, ended by a line feed
abbrev pub line_of : List (List ℕ) → List ℕ
line_of words = join_with_byte 32 words ++ 10 ∷ []

-- blanks on the left fill the width; longer digits take the places that they need
abbrev pub right_in : ℕ → List ℕ → List ℕ
right_in width digits = replicate (width - length digits) 32 ++ digits

-- a text as JSON text
unfoldable pub json_text_of : List ℕ → List ℕ
json_text_of text = quoted text

-- the text of what is there, or `-` where there is nothing
abbrev pub or_dash : {A : Type 0} → (A → List ℕ) → Option A → List ℕ
or_dash text None = codes "-"
or_dash text (Some a) = text a

unfoldable pub first_line : List ℕ
first_line = line_of (codes "tracebook" ∷ codes "1" ∷ [])

-- the unit of all times and lengths, where it isn't microseconds
unfoldable pub unit_line : Unit → List ℕ
unit_line Microseconds = []
unit_line Nanoseconds = line_of (codes "unit" ∷ codes "nanoseconds" ∷ [])

unfoldable pub count_line : CountRow → List ℕ
count_line row = line_of (codes "events" ∷ decimal row.accepted ∷ codes "refused" ∷ decimal row.refused ∷ codes "skipped" ∷ decimal row.skipped ∷ codes "queries" ∷ decimal row.queries ∷ [])

-- how many seals closed spans, where any did
unfoldable pub seals_line : ℕ → List ℕ
seals_line seals = if seals == 0 then [] else line_of (codes "seals" ∷ decimal seals ∷ [])

unfoldable pub process_line : ProcessRow → List ℕ
process_line row = line_of (codes "process" ∷ signed_decimal row.pid ∷ or_dash json_text_of row.name ∷ [])

unfoldable pub thread_line : ThreadRow → List ℕ
thread_line row = line_of (codes "thread" ∷ signed_decimal row.pid ∷ signed_decimal row.tid ∷ or_dash json_text_of row.name ∷ codes "open" ∷ decimal row.unclosed ∷ codes "busy" ∷ decimal row.busy ∷ [])

unfoldable pub span_line : SpanRow → List ℕ
span_line row = line_of (codes "span" ∷ right_in 8 (decimal row.count) ∷ right_in 16 (decimal row.total) ∷ right_in 16 (decimal row.self_time) ∷ json_text_of row.name ∷ [])

-- the letter of a reach in a trace
abbrev pub reach_text : Reach → List ℕ
reach_text Global = codes "g"
reach_text Process = codes "p"
reach_text Thread = codes "t"

unfoldable pub instant_line : InstantRow → List ℕ
instant_line row = line_of (codes "instant" ∷ reach_text row.reach ∷ right_in 8 (decimal row.count) ∷ json_text_of row.name ∷ [])

-- a process and a colon before the text of an id that belongs to a process
abbrev pub with_home : Option ℤ → List ℕ → List ℕ
with_home None text = text
with_home (Some home) text = signed_decimal home ++ (codes ":" ++ text)

unfoldable pub id_text : IdKey → List ℕ
id_text key = with_home key.home (json_text_of key.id)

unfoldable pub samples_text : SeriesTotals → List ℕ
samples_text totals = codes "samples " ++ (decimal totals.samples ++ (codes " least " ++ (signed_decimal totals.least ++ (codes " greatest " ++ (signed_decimal totals.greatest ++ (codes " last " ++ signed_decimal totals.last))))))

unfoldable pub counter_line : SeriesRow → List ℕ
counter_line row = line_of (codes "counter" ∷ signed_decimal row.key.pid ∷ json_text_of row.key.name ∷ or_dash id_text row.key.id ∷ json_text_of row.key.series ∷ samples_text row.totals ∷ [])

unfoldable pub async_line : AsyncRow → List ℕ
async_line row = line_of (codes "async" ∷ json_text_of row.key.cat ∷ json_text_of row.key.scope ∷ id_text row.key.id ∷ json_text_of row.key.name ∷ codes "closed" ∷ decimal row.totals.closed ∷ codes "total" ∷ decimal row.totals.total ∷ codes "open" ∷ decimal row.totals.unclosed ∷ codes "points" ∷ decimal row.totals.points ∷ [])

unfoldable pub flow_line : FlowRow → List ℕ
flow_line row = line_of (codes "flow" ∷ json_text_of row.key.cat ∷ json_text_of row.key.name ∷ id_text row.key.id ∷ codes "ended" ∷ decimal row.totals.ended ∷ codes "total" ∷ decimal row.totals.total ∷ codes "open" ∷ decimal row.totals.unclosed ∷ [])
