-- What is grouped by process, once one process has more.
use Rattle.std.specs.{BTreeMap.{is_at, insert_entry}, BTreeSet.insert_key, Cmp.{int_cmp_total, tied_itself}, FinMap.int_cmp-IsAntisymmetric, List.{AllByRecursion, Sorted.IsStrictlySortedBy}, Map.{lookup, set_value}, Ordering.{int_cmp, int_eq, is_eq}, Prelude.{filter, if◌then◌else◌}}
use Rattle.std.proofs.{Common.{◌≡◌, ℤ, List, [], ◌∷◌, ◌++◌, map, Bool, true, false, cond, Some, None, refl, sym, ap, ap₂, ◌∙◌, append-nil}, lemmas.List.Elements.filter-append}
use Rattle.span_keyed_tracks.proofs.Keyed.{lookup-made, made-agree, made-insert_entry, made-set_value}
use Rattle.span_ledger.specs.{SeriesRow, entry_of, Thread, Grouped.{Grouped, GroupsGrow, group_of, groups_of, with_series, with_thread}}
use Rattle.span_ledger.proofs.TrackRows.{map-same}

-- a key that isn't found is none of the keys
none_found : {X : Type 0} (f : ℤ → X) (pid : ℤ) (pids : List ℤ) → lookup (is_at (int_cmp pid)) (map (entry_of f) pids) ≡ None → AllByRecursion (λ q. is_eq (int_cmp pid q) ≡ false) pids
none_found f pid [] none = tt
none_found {X = X} f pid (q ∷ qs) none = by (is_eq (int_cmp pid q)) refl (none_found f pid qs) none
  where
    by : (b : Bool) → is_eq (int_cmp pid q) ≡ b → (lookup (is_at (int_cmp pid)) (map (entry_of f) qs) ≡ None → AllByRecursion (λ r. is_eq (int_cmp pid r) ≡ false) qs) →
        cond b (Some (f q)) (lookup (is_at (int_cmp pid)) (map (entry_of f) qs)) ≡ None → AllByRecursion (λ r. is_eq (int_cmp pid r) ≡ false) (q ∷ qs)
    by true e rest none = absurd cc
    by false e rest none = (e, rest none)

module _ (pid : ℤ) (grow : Grouped → Grouped) (f : ℤ → Grouped) where
  grown : ℤ → Grouped
  grown q = if int_eq pid q then grow (f q) else f q

  grown-other : (q : ℤ) → is_eq (int_cmp pid q) ≡ false → f q ≡ grown q
  unfolding grown
  grown-other q h = sym (ap (λ b. if b then grow (f q) else f q) h)

  grown-own : grown pid ≡ grow (f pid)
  unfolding grown
  grown-own = ap (λ r. if is_eq r then grow (f pid) else f pid) (tied_itself int_cmp_total pid)

-- a group that was found and written anew
pub GroupsGrow-written : (pid : ℤ) (grow : Grouped → Grouped) (old final : List (ℤ × Grouped)) (found new : Grouped) → lookup (is_at (int_cmp pid)) old ≡ Some found → new ≡ grow found →
    final ≡ set_value (is_at (int_cmp pid)) old new → GroupsGrow pid grow old final
unfolding grown
GroupsGrow-written pid grow old final found new there becomes written = λ f pids sorted is.
    let was : found ≡ f pid = lookup-made int_cmp_total int_cmp-IsAntisymmetric f pid pids found (ap (lookup (is_at (int_cmp pid))) (sym is) ∙ there) in
    written
    ∙ ap₂ (set_value (is_at (int_cmp pid))) is (becomes ∙ ap grow was ∙ sym (grown-own pid grow f))
    ∙ made-set_value int_cmp_total int_cmp-IsAntisymmetric f (grown pid grow f) pid (grown-other pid grow f) pids sorted

-- a group that isn't there
pub GroupsGrow-absent : (pid : ℤ) (grow : Grouped → Grouped) (old final : List (ℤ × Grouped)) → lookup (is_at (int_cmp pid)) old ≡ None → final ≡ old → GroupsGrow pid grow old final
unfolding grown
GroupsGrow-absent pid grow old final none stays = λ f pids sorted is.
    stays ∙ is ∙ made-agree int_cmp_total int_cmp-IsAntisymmetric f (grown pid grow f) pid (grown-other pid grow f) pids (none_found f pid pids (ap (lookup (is_at (int_cmp pid))) (sym is) ∙ none))

-- with one more thread
group_of-thread : (threads : List Thread) (rows : List SeriesRow) (thread : Thread) (q : ℤ) →
    (if int_eq thread.pid q then with_thread thread (group_of threads rows q) else group_of threads rows q) ≡ group_of (threads ++ thread ∷ []) rows q
group_of-thread threads rows thread q =
    by (int_eq thread.pid q) ∙ sym (ap (λ (ts : List Thread). record (group_of threads rows q) { threads = ts }) (filter-append (λ (t : Thread). int_eq t.pid q) threads (thread ∷ [])))
  where
    by : (b : Bool) → (if b then with_thread thread (group_of threads rows q) else group_of threads rows q) ≡ record (group_of threads rows q) { threads = filter (λ (t : Thread). int_eq t.pid q) threads ++ cond b (thread ∷ []) [] }
    by true = refl
    by false = ap (λ (ts : List Thread). record (group_of threads rows q) { threads = ts }) (sym (append-nil (filter (λ (t : Thread). int_eq t.pid q) threads)))

pub groups_of-thread : (pids : List ℤ) (threads : List Thread) (rows : List SeriesRow) (thread : Thread) →
    map (entry_of (λ q. if int_eq thread.pid q then with_thread thread (group_of threads rows q) else group_of threads rows q)) pids ≡ groups_of pids (threads ++ thread ∷ []) rows
groups_of-thread pids threads rows thread =
    map-same (entry_of (λ q. if int_eq thread.pid q then with_thread thread (group_of threads rows q) else group_of threads rows q)) (entry_of (group_of (threads ++ thread ∷ []) rows)) pids
    (λ (q : ℤ). ap (λ (g : Grouped). (q, g)) (group_of-thread threads rows thread q))

-- with one more series
group_of-series : (threads : List Thread) (rows : List SeriesRow) (row : SeriesRow) (q : ℤ) →
    (if int_eq row.key.pid q then with_series row (group_of threads rows q) else group_of threads rows q) ≡ group_of threads (rows ++ row ∷ []) q
group_of-series threads rows row q =
    by (int_eq row.key.pid q) ∙ sym (ap (λ (rs : List SeriesRow). record (group_of threads rows q) { series = rs }) (filter-append (λ (r : SeriesRow). int_eq r.key.pid q) rows (row ∷ [])))
  where
    by : (b : Bool) → (if b then with_series row (group_of threads rows q) else group_of threads rows q) ≡ record (group_of threads rows q) { series = filter (λ (r : SeriesRow). int_eq r.key.pid q) rows ++ cond b (row ∷ []) [] }
    by true = refl
    by false = ap (λ (rs : List SeriesRow). record (group_of threads rows q) { series = rs }) (sym (append-nil (filter (λ (r : SeriesRow). int_eq r.key.pid q) rows)))

pub groups_of-series : (pids : List ℤ) (threads : List Thread) (rows : List SeriesRow) (row : SeriesRow) →
    map (entry_of (λ q. if int_eq row.key.pid q then with_series row (group_of threads rows q) else group_of threads rows q)) pids ≡ groups_of pids threads (rows ++ row ∷ [])
groups_of-series pids threads rows row =
    map-same (entry_of (λ q. if int_eq row.key.pid q then with_series row (group_of threads rows q) else group_of threads rows q)) (entry_of (group_of threads (rows ++ row ∷ []))) pids
    (λ (q : ℤ). ap (λ (g : Grouped). (q, g)) (group_of-series threads rows row q))

-- an empty group is inserted
pub groups_of-inserted : (pid : ℤ) (pids : List ℤ) → IsStrictlySortedBy int_cmp pids → insert_entry int_cmp (groups_of pids [] []) pid (group_of [] [] pid) ≡ groups_of (insert_key int_cmp pids pid) [] []
groups_of-inserted pid pids sorted =
    made-insert_entry int_cmp_total int_cmp-IsAntisymmetric (group_of [] []) (group_of [] []) pid (λ (q : ℤ) (h : is_eq (int_cmp pid q) ≡ false). refl) pids sorted
