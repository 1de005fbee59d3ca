-- The self times of a thread's rows add up to its busy time.
use Rattle.std.specs.{List.{AllByRecursion, Sorted.IsStrictlySortedBy}, Ordering.{int_cmp, is_eq, ordering_then}, Prelude.{filter, filter_map, flat_map, sum_by}, declared.cmp.Ordering.{Ordering, TheVariants.{Less, Equal}}}
use Rattle.std.proofs.{Common.{◌≡◌, Bool, true, false, ◌||◌, cond, List, [], ◌∷◌, ◌++◌, map, take, refl, sym, ap, ap₂, subst, ◌∙◌}, lemmas.List.{append-nil, Elements.filter-append}}
use Rattle.span_event.proofs.Orders.{thread_cmp-same, thread_cmp-total}
use Rattle.span_self_time.proofs.{Mapped.{filter-map, sum_by-map}, SelfTimes.sum_by-self_time}
use Rattle.span_keyed_tracks.proofs.{Keyed.{has_key, neither, same_from_is_eq}, Sorted.ascending-sorted, Uses.is_eq-turned}
use Rattle.span_journal.proofs.LegalSpans.{legal-spans}
use Rattle.span_table.specs.{Thread, thread_cmp, Bytes, steps_at, SpanRow, accepted, span_row, span_rows, thread_keys, thread_span_rows, Timed, timed_in, timed_spans, listed_by, thread_events, AreSpans, Span, busy_time, closed_spans, Collected.keyed_span_row, Columns.Run, Keys.key_cmp, Laws.{AddUpToBusy, RowsAddUpToBusy, of_span_row, rows_of_thread, thread_key}, Sums.{only, sums_of_row}, Tables.{keyed_span, sums_of, sums_together}, declared.{sums.Sums.Sums, table.Row.Row}}
use Rattle.span_table.proofs.{ByName.{thread-alike, without_outer}, Only.plain_numbers, OwnRows.rows-are_span_rows, Tallies.number-total, Unlisted.closed_spans-unlisted}

-- the keys of threads are in the order of these
key_cmp-thread_cmp : (a b : Thread) → key_cmp (thread_key a) (thread_key b) ≡ thread_cmp a b
key_cmp-thread_cmp a b = by (int_cmp a.pid b.pid) (int_cmp a.tid b.tid)
  where
    by : (x y : Ordering) → ordering_then (ordering_then x Equal) (ordering_then (ordering_then y Equal) Equal) ≡ ordering_then x y
    by Equal Less = refl
    by x y = refl

module _ (run : Run) (thread : Thread) where
  abbrev rows_of : Thread → List SpanRow
  rows_of t = thread_span_rows run.journal t

  -- the row is of the thread
  abbrev mine : SpanRow → Bool
  mine row = is_eq (key_cmp (take 2 (of_span_row row).key) (thread_key thread))

  filter-named : (t : Thread) (spans : List (Span Bytes)) (names : List Bytes) → filter mine (map (span_row t spans) names) ≡ cond (is_eq (thread_cmp t thread)) (map (span_row t spans) names) []
  filter-named t spans [] = none (is_eq (thread_cmp t thread))
    where
      none : (b : Bool) → let rows : List SpanRow = cond b [] [] in [] ≡ rows
      none true = refl
      none false = refl
  filter-named t spans (name ∷ names) =
      ap₂ (λ (b : Bool) (rest : List SpanRow). cond b (span_row t spans name ∷ rest) rest) (ap is_eq (key_cmp-thread_cmp t thread)) (filter-named t spans names) ∙ by (is_eq (thread_cmp t thread)) (span_row t spans name) (map (span_row t spans) names)
    where
      by : (b : Bool) (row : SpanRow) (rows : List SpanRow) → cond b (row ∷ cond b rows []) (cond b rows []) ≡ cond b (row ∷ rows) []
      by true row rows = refl
      by false row rows = refl

  -- the rows of a thread are all of it or none
  filter-rows_of : (t : Thread) (b : Bool) → is_eq (thread_cmp thread t) ≡ b → filter mine (rows_of t) ≡ cond b (rows_of t) []
  filter-rows_of t b e = filter-named t (closed_spans (thread_events t run.journal)) _ ∙ ap (λ c. cond c (rows_of t) []) (is_eq-turned thread_cmp-total t thread ∙ e)

  -- of rows of other threads there are none
  filter-others : (ts : List Thread) → has_key thread_cmp thread ts ≡ false → filter mine (flat_map rows_of ts) ≡ []
  filter-others [] none = refl
  filter-others (t ∷ ts) none =
      let both = neither (is_eq (thread_cmp thread t)) (has_key thread_cmp thread ts) none in
      filter-append mine (rows_of t) (flat_map rows_of ts) ∙ ap₂ (λ a b. a ++ b) (filter-rows_of t false both.0) (filter-others ts both.1)

  not_later : (ts : List Thread) → AllByRecursion (λ t. thread_cmp thread t ≡ Less) ts → has_key thread_cmp thread ts ≡ false
  not_later [] below = refl
  not_later (t ∷ ts) below = ap₂ (λ a b. a || b) (ap is_eq below.0) (not_later ts below.1)

  -- of rows of threads that rise, those of a thread among them
  filter-threads : (ts : List Thread) → IsStrictlySortedBy thread_cmp ts → has_key thread_cmp thread ts ≡ true → filter mine (flat_map rows_of ts) ≡ rows_of thread
  unfolding IsStrictlySortedBy
  filter-threads [] sorted has = cc
  filter-threads (t ∷ ts) sorted has = filter-append mine (rows_of t) (flat_map rows_of ts) ∙ by (is_eq (thread_cmp thread t)) refl (filter-threads ts sorted.1) has
    where
      by : (b : Bool) → is_eq (thread_cmp thread t) ≡ b → (has_key thread_cmp thread ts ≡ true → filter mine (flat_map rows_of ts) ≡ rows_of thread) → (b || has_key thread_cmp thread ts) ≡ true →
          filter mine (rows_of t) ++ filter mine (flat_map rows_of ts) ≡ rows_of thread
      by true e rest has =
          let same : thread ≡ t = same_from_is_eq thread_cmp-total thread_cmp-same thread t e in
          let below = subst (λ (x : Thread). AllByRecursion (λ y. thread_cmp x y ≡ Less) ts) (sym same) sorted.0 in
          ap₂ (λ a b. a ++ b) (filter-rows_of t true e) (filter-others ts (not_later ts below)) ∙ append-nil (rows_of t) ∙ ap rows_of (sym same)
      by false e rest has = ap₂ (λ a b. a ++ b) (filter-rows_of t false e) (rest has)

  -- under the key of no columns stand all rows, and all spans
  steps-rows : (rows : List SpanRow) → steps_at key_cmp [] (map (keyed_span_row [] run) rows) ≡ map sums_of_row rows
  steps-rows [] = refl
  steps-rows (row ∷ rows) = ap (λ l. sums_of_row row ∷ l) (steps-rows rows)

  steps-spans : (spans : List (Span Bytes)) (timed : List Timed) → steps_at key_cmp [] (map without_outer (map (keyed_span [] run thread spans) timed)) ≡ map (λ t. only plain_numbers (sums_of spans t)) timed
  steps-spans spans [] = refl
  steps-spans spans (t ∷ timed) = ap (λ l. only plain_numbers (sums_of spans t) ∷ l) (steps-spans spans timed)

  -- the self times of a thread's rows are those of its spans
  self_times-rows : AreSpans (closed_spans (thread_events thread run.journal)) → sum_by (λ (row : SpanRow). row.self_time) (rows_of thread) ≡ busy_time (closed_spans (thread_events thread run.journal))
  self_times-rows are =
      let spans = closed_spans (thread_events thread run.journal) in
      let self_of = λ (s : Sums). s.self_time in
      let plain = λ (t : Timed). only plain_numbers (sums_of spans t) in
      sym (ap (λ l. (sums_together l).self_time) (steps-rows (rows_of thread)) ∙ number-total self_of (λ a b. refl) refl sums_of_row (rows_of thread))
      ∙ ap self_of ((thread-alike [] run refl thread).sums [])
      ∙ ap (λ l. (sums_together l).self_time) (steps-spans spans (timed_spans run.journal thread)) ∙ number-total self_of (λ a b. refl) refl plain (timed_spans run.journal thread)
      ∙ sum_by-map (λ (t : Timed). t.self_time) (timed_in spans) spans ∙ sum_by-self_time spans are

-- where the closed spans of a thread are spans, the self times of its rows add up to its busy time
rows-busy_of_spans : (run : Run) (thread : Thread) → AreSpans (closed_spans (thread_events thread run.journal)) → AddUpToBusy run thread
rows-busy_of_spans run thread are =
    let of_row = λ (row : Row). row.sums.self_time in
    let threads = thread_keys (accepted run.journal) in
    let mine_of = mine run thread in
    ap (λ rows. sum_by of_row (rows_of_thread thread rows)) (rows-are_span_rows run)
    ∙ ap (sum_by of_row) (filter-map (λ (row : Row). is_eq (key_cmp (take 2 row.key) (thread_key thread))) of_span_row (span_rows run.journal))
    ∙ sum_by-map of_row of_span_row (filter mine_of (span_rows run.journal))
    ∙ by (has_key thread_cmp thread threads) refl
  where
    by : (b : Bool) → has_key thread_cmp thread (thread_keys (accepted run.journal)) ≡ b → sum_by (λ (row : SpanRow). row.self_time) (filter (mine run thread) (span_rows run.journal)) ≡ busy_time (closed_spans (thread_events thread run.journal))
    by true listed =
        ap (sum_by (λ (row : SpanRow). row.self_time))
        (filter-threads run thread (thread_keys (accepted run.journal)) (ascending-sorted thread_cmp-total (filter_map (λ a. listed_by a.act) (accepted run.journal))) listed)
        ∙ self_times-rows run thread are
    by false none =
        ap (sum_by (λ (row : SpanRow). row.self_time)) (filter-others run thread (thread_keys (accepted run.journal)) none)
        ∙ ap busy_time (sym (closed_spans-unlisted thread run.journal none))

-- those of a run, whose journal is legal, are
pub rows-busy : RowsAddUpToBusy
rows-busy strict run thread legal = rows-busy_of_spans run thread (legal-spans strict run.journal thread legal)
