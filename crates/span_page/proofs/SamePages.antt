-- The page of a journal follows from what was refused, and from the acts on each topic.
use Rattle.std.proofs.Common.{◌≡◌, ℕ, ◌-◌, cond, nat_lt, List, [], ◌∷◌, ◌++◌, codes, refl, ap, ap₂, ◌∙◌}
use Rattle.span_journal.proofs.Topics.Rows.{rows-follow}
use Rattle.span_report.proofs.{SameReports.report_of-alike, StackLemmas.SameStacks.stacks-alike}
use Rattle.span_page.specs.{Thread, Unit, Entry, rows_by_process, AreAlike, json_text_of, SpanColumn, HaveSameStacks, Folded, FileEnd, Input, end_lines, refusals_of, Data.{all_stacks_json, array_of, data_of, graph_json, graphs_json, left_after, left_behind, most_frames, names_json, rest_of, stacks_json, threads_of}, Laws.PagesFollowFromActs, Page.{text_before, page_of, text_behind}, Runs.run_json, Safe.safe}

-- the same graphs fit into what is left
module _ (labels : List SpanColumn) (journal other : List Entry) (same : HaveSameStacks journal other) where
  graph_json-alike : (left : ℕ) (thread : Thread) → graph_json labels journal left thread ≡ graph_json labels other left thread
  graph_json-alike left thread = ap₂ (λ (count : ℕ) (stacks : List Folded). cond (nat_lt left count) (codes "null") (stacks_json stacks)) (same.frames labels thread) (same.stacks labels thread)

  left_after-alike : (left : ℕ) (thread : Thread) → left_after labels journal left thread ≡ left_after labels other left thread
  left_after-alike left thread = ap (λ (count : ℕ). cond (nat_lt left count) left (left - count)) (same.frames labels thread)

  graphs_json-alike : (left : ℕ) (threads : List Thread) → graphs_json labels journal left threads ≡ graphs_json labels other left threads
  graphs_json-alike left [] = refl
  graphs_json-alike left (thread ∷ later) =
      ap₂ (λ (graph : List ℕ) (graphs : List (List ℕ)). graph ∷ graphs) (graph_json-alike left thread)
      (graphs_json-alike (left_after labels journal left thread) later ∙ ap (λ rest. graphs_json labels other rest later) (left_after-alike left thread))

  left_behind-alike : (left : ℕ) (threads : List Thread) → left_behind labels journal left threads ≡ left_behind labels other left threads
  left_behind-alike left [] = refl
  left_behind-alike left (thread ∷ later) =
      left_behind-alike (left_after labels journal left thread) later ∙ ap (λ rest. left_behind labels other rest later) (left_after-alike left thread)

module _ (labels : List SpanColumn) (journal other : List Entry) (alike : AreAlike journal other) where
  all_stacks_json-alike : (left : ℕ) → all_stacks_json left labels journal ≡ all_stacks_json left labels other
  unfolding all_stacks_json
  all_stacks_json-alike left =
      ap array_of (graphs_json-alike labels journal other (stacks-alike journal other alike) left (threads_of (rows_by_process journal))
      ∙ ap (λ processes. graphs_json labels other left (threads_of processes)) (rows-follow journal other alike).processes)

  -- as many frames are left
  pub left_behind-follows : (left : ℕ) → left_behind labels journal left (threads_of (rows_by_process journal)) ≡ left_behind labels other left (threads_of (rows_by_process other))
  left_behind-follows left = left_behind-alike labels journal other (stacks-alike journal other alike) left (threads_of (rows_by_process journal))
      ∙ ap (λ processes. left_behind labels other left (threads_of processes)) (rows-follow journal other alike).processes

  module _ (unit : Unit) (files : List Input) (ends others : List FileEnd) (refusals : refusals_of unit files ends journal ≡ refusals_of unit files others other) (faults : end_lines files ends ≡ end_lines files others) where
    rest_of-alike : (left : ℕ) → rest_of unit left labels files ends journal ≡ rest_of unit left labels files others other
    rest_of-alike left = λ i.
        codes ",\"refused\":" ++ (json_text_of (refusals i)
        ++ (codes ",\"files\":" ++ (names_json files
        ++ (codes ",\"faults\":" ++ (json_text_of (faults i)
        ++ (codes ",\"stacks\":" ++ (all_stacks_json-alike left i ++ codes "}")))))))

    -- a run has the same data
    pub run_json-alike : (left : ℕ) → run_json unit labels left (record { files = files; ends = ends; journal = journal }) ≡ run_json unit labels left (record { files = files; ends = others; journal = other })
    run_json-alike left = λ i. codes "{\"report\":" ++ (json_text_of (report_of-alike unit journal other alike i) ++ rest_of-alike left i)

    data_of-alike : (table : List ℕ) → data_of unit labels table files ends journal ≡ data_of unit labels table files others other
    data_of-alike table = λ i.
        codes "{\"report\":" ++ (json_text_of (report_of-alike unit journal other alike i)
        ++ (codes ",\"table\":" ++ (json_text_of table ++ rest_of-alike most_frames i)))

pub page_of-alike : PagesFollowFromActs
unfolding page_of
page_of-alike unit labels table files ends others journal other alike refusals faults =
    ap (λ (text : List ℕ). text_before ++ (safe text ++ text_behind)) (data_of-alike labels journal other alike unit files ends others refusals faults table)
