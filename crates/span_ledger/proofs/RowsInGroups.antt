-- The rows that are made of what is grouped are those of the journal.
use Rattle.std.specs.{Ordering.int_eq, Prelude.filter_map, declared.cmp.Ordering.TheVariants.Equal}
use Rattle.std.proofs.Common.{◌≡◌, ℤ, List, Bool, ap, ap₂, ◌∙◌, map}
use Rattle.span_event.proofs.Orders.{thread_cmp-same, thread_cmp-total}
use Rattle.span_journal.proofs.{Selected.filter-ascending, SeriesOfProcess.filter-series_rows, Sorted.map-map}
use Rattle.span_ledger.specs.{thread_cmp, SeriesRow, series_rows, series_rows_of, entry_of, Entry, Thread, accepted, rows_in_process, rows_by_process, threads_in, process_keys, thread_keys, counter_events, listed_by, Grouped.{Grouped, group_of, rows_in_group, groups_of}}
use Rattle.span_ledger.proofs.TrackRows.{map-same}

module _ (journal : List Entry) where
  group_of-is : (pid : ℤ) → group_of (thread_keys (accepted journal)) (series_rows (counter_events (accepted journal))) pid
      ≡ record { threads = threads_in pid (accepted journal); series = series_rows_of pid (counter_events (accepted journal)) }
  group_of-is pid =
      let in_process : Thread → Bool = λ thread. int_eq thread.pid pid in
      ap₂ (λ (ts : List Thread) (rs : List SeriesRow). let group : Grouped = record { threads = ts; series = rs } in group)
      (filter-ascending thread_cmp-total in_process (λ (a b : Thread) (e : thread_cmp a b ≡ Equal). ap in_process (thread_cmp-same a b e)) (filter_map (λ a. listed_by a.act) (accepted journal)))
      (filter-series_rows pid (counter_events (accepted journal)))

  -- the rows in the groups are those of the journal
  pub rows_by_process-grouped : map (rows_in_group journal) (groups_of (process_keys (accepted journal)) (thread_keys (accepted journal)) (series_rows (counter_events (accepted journal)))) ≡ rows_by_process journal
  rows_by_process-grouped =
      let group = group_of (thread_keys (accepted journal)) (series_rows (counter_events (accepted journal))) in
      map-map (rows_in_group journal) (entry_of group) (process_keys (accepted journal))
      ∙ map-same (λ pid. rows_in_group journal (pid, group pid)) (rows_in_process journal) (process_keys (accepted journal)) (λ (pid : ℤ). ap (λ (g : Grouped). rows_in_group journal (pid, g)) (group_of-is pid))
