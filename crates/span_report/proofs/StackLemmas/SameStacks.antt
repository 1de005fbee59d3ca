-- The stacks of a journal follow from the acts on each process; of the positions of spans only the order counts.
use Rattle.std.specs.{BTreeSet.insert_key, Ordering.{int_eq, match_ordering}, Prelude.{filter, flat_map, fold, sum_by}, declared.cmp.Ordering.{Ordering, TheVariants.{Less, Equal, Greater}}}
use Rattle.std.proofs.{Common.{◌≡◌, ℕ, ℤ, Bool, cond, ◌&&◌, ◌||◌, int_lt, List, [], ◌∷◌, length, map, refl, ap, ap₂, ◌∙◌}, lemmas.Simd.map-map}
use Rattle.span_self_time.proofs.Mapped.{earliest-map, filter-map, latest-map}
use Rattle.span_track.proofs.Threads.Renumbering.{closed_spans-renumbered}
use Rattle.span_journal.proofs.Topics.{Rows.rows-follow, Threads.thread_events-alike}
use Rattle.span_report.specs.{Bytes, distance, Thread, Span, covers, earliest, latest, outranks, Rises, renumbered_span, ascending, closed_spans, Entry, ProcessRows, ThreadRows, AreAlike, of_process, Stacks.{Bounds.beginnings, Folded.{stack_lines, thread_frame_count, thread_frames, thread_stacks}, Labels.{label_of, labelled, labelled_spans, named_by}, Laws.StacksFollowFromActs, Ticks.{Folded, Stack, folded, has_frames, ticks, names_at, rank_order, ranked, stack_at, stack_order, stacks_of}}, declared.stacks.label.SpanColumn.SpanColumn}

-- where a span stands among others that are in place of others too
placed-map : {A B : Type 0} (g : A → B) (o : Ordering) (k x : A) (xs zs : List A) (ys : List B) → ys ≡ map g zs →
    match_ordering o (g k ∷ g x ∷ map g xs) (g x ∷ map g xs) (g x ∷ ys) ≡ map g (match_ordering o (k ∷ x ∷ xs) (x ∷ xs) (x ∷ zs))
placed-map g Less k x xs zs ys same = refl
placed-map g Equal k x xs zs ys same = refl
placed-map g Greater k x xs zs ys same = ap (λ l. g x ∷ l) same

-- elements in place of others, of which the order is the same
module _ {A B : Type 0} (g : A → B) (cmp : A → A → Ordering) (by : B → B → Ordering) (same : (a b : A) → by (g a) (g b) ≡ cmp a b) where
  insert_key-map : (k : A) (ks : List A) → insert_key by (map g ks) (g k) ≡ map g (insert_key cmp ks k)
  insert_key-map k [] = refl
  insert_key-map k (x ∷ xs) =
      ap (λ o. match_ordering o (g k ∷ g x ∷ map g xs) (g x ∷ map g xs) (g x ∷ insert_key by (map g xs) (g k))) (same k x)
      ∙ placed-map g (cmp k x) k x xs (insert_key cmp xs k) (insert_key by (map g xs) (g k)) (insert_key-map k xs)

  inserted-map : (done keys : List A) → fold (insert_key by) (map g done) (map g keys) ≡ map g (fold (insert_key cmp) done keys)
  inserted-map done [] = refl
  inserted-map done (k ∷ keys) =
      ap (λ d. fold (insert_key by) d (map g keys)) (insert_key-map k done) ∙ inserted-map (insert_key cmp done k) keys

  ascending-map : (keys : List A) → ascending by (map g keys) ≡ map g (ascending cmp keys)
  ascending-map keys = inserted-map [] keys

module _ {N : Type 0} (f : ℕ → ℕ) (rises : Rises f) where
  outranks-renumbered : (a b : Span N) → outranks (renumbered_span f a) (renumbered_span f b) ≡ outranks a b
  outranks-renumbered a b =
      ap (λ later. int_lt b.start a.start || (int_eq a.start b.start && (int_lt a.until b.until || (int_eq a.until b.until && later)))) (rises b.at a.at)

  rank_order-renumbered : (a b : Span N) → rank_order (renumbered_span f a) (renumbered_span f b) ≡ rank_order a b
  rank_order-renumbered a b =
      ap₂ (λ (below above : Bool). cond below Less (cond above Greater Equal)) (outranks-renumbered b a) (outranks-renumbered a b)

  stack_at-renumbered : (spans : List (Span N)) (u : ℤ) → stack_at (map (renumbered_span f) spans) u ≡ stack_at spans u
  stack_at-renumbered spans u =
      ap (λ order. names_at order u) (ascending-map (renumbered_span f) rank_order rank_order rank_order-renumbered spans)
      ∙ ap (map (λ s. s.name)) (filter-map (λ s. covers s u) (renumbered_span f) (ranked spans))
      ∙ map-map (λ (s : Span N). s.name) (renumbered_span f) (filter (λ s. covers s u) (ranked spans))

  earliest-renumbered : (spans : List (Span N)) → earliest (map (renumbered_span f) spans) ≡ earliest spans
  earliest-renumbered spans = earliest-map (renumbered_span f) (λ s. refl) (λ s. refl) spans

  latest-renumbered : (spans : List (Span N)) → latest (map (renumbered_span f) spans) ≡ latest spans
  latest-renumbered spans = latest-map (renumbered_span f) (λ s. refl) (λ s. refl) spans

  stacks_of-renumbered : (spans : List (Span N)) → stacks_of (map (renumbered_span f) spans) ≡ stacks_of spans
  stacks_of-renumbered spans = λ i. filter has_frames
      (map (λ u. stack_at-renumbered spans u i)
      (ticks (earliest-renumbered spans i) (distance (earliest-renumbered spans i) (latest-renumbered spans i))))

module _ (columns : List SpanColumn) where
  -- no label looks at positions
  labelled-renumbered : (f : ℕ → ℕ) (spans : List (Span Bytes)) → labelled columns (map (renumbered_span f) spans) ≡ map (renumbered_span f) (labelled columns spans)
  labelled-renumbered f [] = refl
  labelled-renumbered f (s ∷ spans) = ap (λ l. renumbered_span f (named_by (label_of columns s) s) ∷ l) (labelled-renumbered f spans)

  stacks_of-labelled : (f : ℕ → ℕ) → Rises f → (spans : List (Span Bytes)) → stacks_of (labelled columns (map (renumbered_span f) spans)) ≡ stacks_of (labelled columns spans)
  stacks_of-labelled f rises spans = ap stacks_of (labelled-renumbered f spans) ∙ stacks_of-renumbered f rises (labelled columns spans)

module _ (journal other : List Entry) (alike : AreAlike journal other) (columns : List SpanColumn) where
  stacks_of-alike : (thread : Thread) → stacks_of (labelled_spans columns journal thread) ≡ stacks_of (labelled_spans columns other thread)
  stacks_of-alike thread = thread_events-alike thread (λ es. stacks_of (labelled columns (closed_spans es)))
      (λ f rises es. ap (λ spans. stacks_of (labelled columns spans)) (closed_spans-renumbered f es) ∙ stacks_of-labelled columns f rises (closed_spans es))
      journal other (alike.acts (of_process thread.pid))

  thread_stacks-alike : (thread : Thread) → thread_stacks columns journal thread ≡ thread_stacks columns other thread
  thread_stacks-alike thread = ap (λ (stacks : List Stack). map (folded stacks) (ascending stack_order stacks)) (stacks_of-alike thread)

  thread_frame_count-alike : (thread : Thread) → thread_frame_count columns journal thread ≡ thread_frame_count columns other thread
  thread_frame_count-alike thread = ap (λ (stacks : List Stack). length (ascending stack_order (flat_map beginnings stacks))) (stacks_of-alike thread)

-- journals that are alike have the same stacks on each thread, and so the same text of them
pub stacks-alike : StacksFollowFromActs
stacks-alike journal other alike = record {
  stacks = thread_stacks-alike journal other alike;
  frames = thread_frame_count-alike journal other alike;
  text = λ columns i. flat_map (λ (process : ProcessRows). flat_map (λ (thread : ThreadRows).
      stack_lines (thread_frames process.row thread.row) (thread_stacks-alike journal other alike columns (record { pid = thread.row.pid; tid = thread.row.tid }) i))
      process.threads) ((rows-follow journal other alike).processes i);
  names = λ columns i. sum_by (λ (process : ProcessRows). sum_by (λ (thread : ThreadRows).
      sum_by (λ (folded : Folded). length folded.stack) (thread_stacks-alike journal other alike columns (record { pid = thread.row.pid; tid = thread.row.tid }) i))
      process.threads) ((rows-follow journal other alike).processes i);
}
