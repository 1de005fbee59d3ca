-- The data of a page, as a JSON text.
use Rattle.std.specs.{List.join_with_byte, Prelude.{ℕ, ◌-◌, nat_lt, if◌then◌else◌, List, [], ◌∷◌, ◌++◌, map, flat_map, codes, decimal}}
use Rattle.span_page.specs.{Thread, Unit, Entry, ProcessRows, ThreadRows, rows_by_process, json_text_of, report_of, thread_frame_count, thread_stacks, SpanColumn, Folded, FileEnd, Input, end_lines, refusals_of, Coded.{Coded, coded_after}}

-- texts of JSON as an array
abbrev pub array_of : List (List ℕ) → List ℕ
array_of texts = 91 ∷ (join_with_byte 44 texts ++ 93 ∷ [])

-- digits as a JSON text
abbrev pub in_quotes : List ℕ → List ℕ
in_quotes digits = 34 ∷ (digits ++ 34 ∷ [])

-- a stack: how many frames it has from the one before it, its others, and its time as a text
unfoldable pub stack_json : Coded → List ℕ
stack_json c = array_of (decimal c.shared ∷ array_of (map json_text_of c.others) ∷ in_quotes (decimal c.time) ∷ [])

-- the stacks of a thread
unfoldable pub stacks_json : List Folded → List ℕ
stacks_json stacks = array_of (map stack_json (coded_after [] stacks))

-- the threads of a process
abbrev pub threads_in : ProcessRows → List Thread
threads_in process = map (λ (thread : ThreadRows). record { pid = thread.row.pid; tid = thread.row.tid }) process.threads

-- the threads of the report, in its order
abbrev pub threads_of : List ProcessRows → List Thread
threads_of processes = flat_map threads_in processes

-- the stacks of a thread of a journal, of labels by these columns
abbrev pub thread_json : List SpanColumn → List Entry → Thread → List ℕ
thread_json labels journal thread = stacks_json (thread_stacks labels journal thread)

-- the most frames of all graphs of a page
abbrev pub most_frames : ℕ
most_frames = 4194304

module _ (labels : List SpanColumn) (journal : List Entry) where
  -- the stacks of a thread, if its graph has no more frames than these; and else nothing
  abbrev pub graph_json : ℕ → Thread → List ℕ
  graph_json left thread = if nat_lt left (thread_frame_count labels journal thread) then codes "null" else thread_json labels journal thread

  -- how many frames are left behind it
  abbrev pub left_after : ℕ → Thread → ℕ
  left_after left thread = if nat_lt left (thread_frame_count labels journal thread) then left else left - thread_frame_count labels journal thread

  -- the graphs of threads, one after the other, as each fits into what those before it leave
  abbrev pub graphs_json : ℕ → List Thread → List (List ℕ)
  graphs_json left [] = []
  graphs_json left (thread ∷ later) = graph_json left thread ∷ graphs_json (left_after left thread) later

  -- how many frames are left behind them all
  abbrev pub left_behind : ℕ → List Thread → ℕ
  left_behind left [] = left
  left_behind left (thread ∷ later) = left_behind (left_after left thread) later

-- the stacks of each thread of a journal whose graph fits into so many frames
unfoldable pub all_stacks_json : ℕ → List SpanColumn → List Entry → List ℕ
all_stacks_json left labels journal = array_of (graphs_json labels journal left (threads_of (rows_by_process journal)))

-- the names of files
unfoldable pub names_json : List Input → List ℕ
names_json files = array_of (map (λ (file : Input). json_text_of file.name) files)

-- what a page has of a run beside its report: which items were refused, the files' names, their fault lines, and the stacks of the
-- threads whose graphs fit into so many frames
abbrev pub rest_of : Unit → ℕ → List SpanColumn → List Input → List FileEnd → List Entry → List ℕ
rest_of unit left labels files ends journal =
    codes ",\"refused\":" ++ (json_text_of (refusals_of unit files ends journal)
    ++ (codes ",\"files\":" ++ (names_json files
    ++ (codes ",\"faults\":" ++ (json_text_of (end_lines files ends)
    ++ (codes ",\"stacks\":" ++ (all_stacks_json left labels journal ++ codes "}")))))))

-- the text of the report, that of a table of spans, and the rest
abbrev pub data_of : Unit → List SpanColumn → List ℕ → List Input → List FileEnd → List Entry → List ℕ
data_of unit labels table files ends journal =
    codes "{\"report\":" ++ (json_text_of (report_of unit journal)
    ++ (codes ",\"table\":" ++ (json_text_of table ++ rest_of unit most_frames labels files ends journal)))
