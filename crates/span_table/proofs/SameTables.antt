-- The table of runs follows from their counts, and from the acts on each process.
use Rattle.std.specs.{Option.option_map, Ordering.int_eq, Prelude.flat_map}
use Rattle.std.proofs.{Common.{◌≡◌, ℕ, ℤ, List, [], ◌∷◌, ◌++◌, map, refl, sym, ap, ◌∙◌, ◌&&◌, ◌||◌, int_lt, Option, Some, None}, lemmas.{List.map-id, Simd.map-map}}
use Rattle.span_self_time.proofs.Mapped.{self_time-map}
use Rattle.span_track.proofs.Threads.Renumbering.{closed_spans-renumbered}
use Rattle.span_journal.proofs.Topics.{Rows.{rows-follow, values-follow}, Threads.thread_events-alike}
use Rattle.span_table.proofs.Parents.{is_outer-map, option_map-map, parent_of-map}
use Rattle.span_keyed_tracks.specs.Async.{AsyncStep, async_spans}
use Rattle.span_journal.specs.Topics.{of_async}
use Rattle.span_table.specs.{Words, Thread, Bytes, Entry, ThreadRow, accepted, AsyncRow, AsyncKey, Names, longest_async, thread_keys, thread_row, Timed, timed_in, with_self_times, thread_events, of_process, Rises, renumbered_span, Span, length_of, outranks, closed_spans, is_outer, parent_of, Columns.{Called, async_value_at, holder_name, value_at}, Laws.{AreAlikeRuns, AreAllAlike, TablesFollowFromActs}, Sums.{sums_of_async, sums_of_span}, Tables.{Run, Schema, counts_of, called, counts_together, keyed_span, rows_of, run_sums, schema_sums, sums_of, thread_sums, with_only}, declared.{column.Column.{Column, TheVariants.{Process, Thread as OfThread, File}}, of.Of.{Of, TheVariants.{Spans, Async}}}}

module _ (run other : Run) (alike : AreAlikeRuns run other) where
  -- processes and threads have the same names
  pub holder_name-alike : (pid : ℤ) (tid : Option ℤ) → holder_name run.journal (pid, tid) ≡ holder_name other.journal (pid, tid)
  holder_name-alike pid tid = ap (λ (n : Names). option_map Words n.name) ((values-follow (of_process pid) run.journal other.journal (alike.journals.acts (of_process pid))).names tid)

  value_at-alike : (thread : Thread) (span : Called) (parent : Option Called) (column : Column) → value_at run thread span parent column ≡ value_at other thread span parent column
  value_at-alike thread span parent Process = holder_name-alike thread.pid None
  value_at-alike thread span parent OfThread = holder_name-alike thread.pid (Some thread.tid)
  value_at-alike thread span parent File = ap (option_map Words) alike.file
  value_at-alike thread span parent column = refl

  async_value_at-alike : (key : AsyncKey) (column : Column) → async_value_at run key column ≡ async_value_at other key column
  async_value_at-alike key File = ap (option_map Words) alike.file
  async_value_at-alike key column = refl

  longest_async-alike : (key : AsyncKey) → longest_async run.journal key ≡ longest_async other.journal key
  longest_async-alike key = ap (λ (steps : List AsyncStep). (async_spans steps).longest) (values-follow (of_async key) run.journal other.journal (alike.journals.acts (of_async key)))

  -- the same threads are listed
  pub thread_keys-alike : thread_keys (accepted run.journal) ≡ thread_keys (accepted other.journal)
  thread_keys-alike =
      sym (own run.journal) ∙ ap (map (λ (row : ThreadRow). record { pid = row.pid; tid = row.tid })) (rows-follow run.journal other.journal alike.journals).threads ∙ own other.journal
    where
      own : (j : List Entry) → map (λ (row : ThreadRow). record { pid = row.pid; tid = row.tid }) (map (thread_row j) (thread_keys (accepted j))) ≡ thread_keys (accepted j)
      own j = map-map (λ (row : ThreadRow). record { pid = row.pid; tid = row.tid }) (thread_row j) (thread_keys (accepted j)) ∙ map-id (thread_keys (accepted j))

  module _ (columns : List Column) where
    -- of the positions of spans only the order counts
    spans-renumbered : (thread : Thread) (f : ℕ → ℕ) → Rises f → (spans : List (Span Bytes)) →
        map (keyed_span columns other thread (map (renumbered_span f) spans)) (with_self_times (map (renumbered_span f) spans)) ≡ map (keyed_span columns other thread spans) (with_self_times spans)
    spans-renumbered thread f rises spans =
        let renumbered = map (renumbered_span f) spans in
        map-map (keyed_span columns other thread renumbered) (timed_in renumbered) renumbered
        ∙ map-map (λ s. keyed_span columns other thread renumbered (timed_in renumbered s)) (renumbered_span f) spans
        ∙ (λ i. map (λ s. record { key = map (value_at other thread (called s) (parent s i)) columns; step = sums_of_span (length_of s) (same s i) (outer s i) }) spans)
        ∙ sym (map-map (keyed_span columns other thread spans) (timed_in spans) spans)
      where
        ranks : (a b : Span Bytes) → outranks (renumbered_span f a) (renumbered_span f b) ≡ outranks a b
        ranks a b = ap (λ later. int_lt b.start a.start || (int_eq a.start b.start && (int_lt a.until b.until || (int_eq a.until b.until && later)))) (rises b.at a.at)

        same : (s : Span Bytes) → (timed_in (map (renumbered_span f) spans) (renumbered_span f s)).self_time ≡ (timed_in spans s).self_time
        same s = self_time-map (renumbered_span f) (λ s. refl) (λ s. refl) ranks spans s

        outer : (s : Span Bytes) → is_outer (map (renumbered_span f) spans) (renumbered_span f s) ≡ is_outer spans s
        outer s = is_outer-map (renumbered_span f) (λ s. refl) (λ s. refl) ranks (λ s. refl) spans s

        parent : (s : Span Bytes) → option_map called (parent_of (map (renumbered_span f) spans) (renumbered_span f s)) ≡ option_map called (parent_of spans s)
        parent s = ap (option_map called) (parent_of-map (renumbered_span f) (λ s. refl) (λ s. refl) ranks spans s) ∙ option_map-map called (renumbered_span f) (parent_of spans s)

    thread_sums-alike : (thread : Thread) → thread_sums columns run thread ≡ thread_sums columns other thread
    thread_sums-alike thread =
        (λ i. map (λ (t : Timed). record { key = map (λ column. value_at-alike thread (called t.span) (option_map called (parent_of (closed_spans (thread_events thread run.journal)) t.span)) column i) columns; step = sums_of (closed_spans (thread_events thread run.journal)) t })
        (with_self_times (closed_spans (thread_events thread run.journal))))
        ∙ thread_events-alike thread (λ es. map (keyed_span columns other thread (closed_spans es)) (with_self_times (closed_spans es)))
        (λ f rises es. ap (λ spans. map (keyed_span columns other thread spans) (with_self_times spans)) (closed_spans-renumbered f es) ∙ spans-renumbered thread f rises (closed_spans es))
        run.journal other.journal (alike.journals.acts (of_process thread.pid))

    run_sums-alike : (of : Of) → run_sums of columns run ≡ run_sums of columns other
    run_sums-alike Spans = λ i. flat_map (λ thread. thread_sums-alike thread i) (thread_keys-alike i)
    run_sums-alike Async =
        let rows = (rows-follow run.journal other.journal alike.journals).asynchronous in
        λ i. map (λ (row : AsyncRow). record { key = map (λ column. async_value_at-alike row.key column i) columns; step = sums_of_async row (longest_async-alike row.key i) }) (rows i)

counts_of-alike : (run other : Run) → AreAlikeRuns run other → counts_of run ≡ counts_of other
counts_of-alike run other alike = λ i. record { runs = 1; files = alike.files i; unread = alike.unread i; entries = alike.journals.counts i }

counts-alike : (runs others : List Run) → AreAllAlike runs others → map counts_of runs ≡ map counts_of others
counts-alike [] [] alike = refl
counts-alike [] (other ∷ others) alike = elim alike [ ]
counts-alike (run ∷ runs) [] alike = elim alike [ ]
counts-alike (run ∷ runs) (other ∷ others) alike = λ i. counts_of-alike run other alike.0 i ∷ counts-alike runs others alike.1 i

sums-alike : (schema : Schema) (runs others : List Run) → AreAllAlike runs others → flat_map (schema_sums schema) runs ≡ flat_map (schema_sums schema) others
sums-alike schema [] [] alike = refl
sums-alike schema [] (other ∷ others) alike = elim alike [ ]
sums-alike schema (run ∷ runs) [] alike = elim alike [ ]
sums-alike schema (run ∷ runs) (other ∷ others) alike =
    λ i. map (with_only schema.numbers) (run_sums-alike run other alike.0 schema.columns schema.of i) ++ sums-alike schema runs others alike.1 i

-- runs that are alike have the same table
pub table_of-alike : TablesFollowFromActs
table_of-alike schema runs others alike = λ i. record {
  schema = schema;
  counts = counts_together (counts-alike runs others alike i);
  rows = rows_of (sums-alike schema runs others alike i);
}
