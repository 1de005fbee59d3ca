-- A thread of too many frames has too many labels.
use Rattle.std.specs.{Cmp.Lexicographic.{options_total, slice_cmp}, List.{AllByRecursion, list_any, Sorted.IsStrictlySortedBy}, Option.option_cmp, Ordering.ordering_then, Prelude.{flat_map, sum_by}, declared.cmp.Ordering.TheVariants.Less}
use Rattle.std.proofs.{Common.{◌≡◌, suc, ◌+◌, ◌-◌, ◌<◌, ◌≤◌, Some, List, [], ◌∷◌, length, length-append, map, refl, sym, ap, ap₂, ◌∙◌, arith}, lemmas.{Cmp.tied_itself, List.{Concat.flat_map-cons, length-map, Sums.sum_by-cons}}}
use Rattle.span_event.specs.{Orders.value_cmp, Text.text_cmp, ValueLaws.value_cmp_total}
use Rattle.span_self_time.specs.Spans.{Span}
use Rattle.span_self_time.proofs.Mapped.{sum_by-map}
use Rattle.span_journal.proofs.Sorted.{ascending-sorted}
use Rattle.span_report.specs.{ascending, Stacks.{Bounds.{beginnings, frame_count, frames_of, names_in}, Ticks.{folded, folded_stacks, same_stack, stack_order, stacks_of}}}
use Rattle.span_report.proofs.StackLemmas.{Beginnings.list_any-flat_map, Members.{HasEach, StandOnce-sorted, length-le-each}, Tallies.list_any-ascending, Times.{stack_order-same, stack_order-total}}
use Rattle.span_table.specs.Keys.{key_cmp}
use Rattle.span_table.proofs.OwnRows.{rows_of-own}
use Rattle.span_stack_sums.specs.{Bytes, Folded, Row, RowsRise, Stack, Value, Words, keyed_rows, most_names, rows_of, Kept.Exceeds, Stacks.{keyed_stack, label_values, ticks_alone}, Text.labels_in}
use Rattle.span_stack_sums.proofs.Labels.{labels-behind}

length-beginnings : (stack : Stack) → length (beginnings stack) ≡ length stack
length-beginnings [] = refl
length-beginnings (name ∷ names) = ap suc (length-map (beginnings names) (λ beginning. name ∷ beginning) ∙ length-beginnings names)

length-begun : (stacks : List Stack) → length (flat_map beginnings stacks) ≡ sum_by (λ (s : Stack). length s) stacks
length-begun [] = refl
length-begun (s ∷ stacks) =
    ap (λ (l : List Stack). length l) (flat_map-cons beginnings s stacks) ∙ length-append (beginnings s) (flat_map beginnings stacks) ∙ ap₂ (λ m n. m + n) (length-beginnings s) (length-begun stacks)
    ∙ sym (sum_by-cons (λ (s : Stack). length s) s stacks)

-- each frame stands in a stack, so they are no more than the labels of the stacks
frames-names : (spans : List (Span Bytes)) → frame_count spans ≤ names_in (folded_stacks spans)
frames-names spans = omega (arith, length-le-each (frames_of spans) (flat_map beginnings once) (StandOnce-sorted (frames_of spans) (ascending-sorted stack_order-total (flat_map beginnings all))) each, length-begun once, names)
  where
    all : List Stack
    all = stacks_of spans

    once : List Stack
    once = ascending stack_order all

    names : names_in (folded_stacks spans) ≡ sum_by (λ (s : Stack). length s) once
    names = sum_by-map (λ (f : Folded). length f.stack) (folded all) once

    each : HasEach (flat_map beginnings once) (frames_of spans)
    each k has =
        list_any-flat_map (same_stack k) beginnings once ∙ list_any-ascending stack_order-total stack_order-same (λ s. list_any (same_stack k) (beginnings s)) all
        ∙ sym (list_any-flat_map (same_stack k) beginnings all) ∙ sym (list_any-ascending stack_order-total stack_order-same (same_stack k) (flat_map beginnings all)) ∙ has

module _ (process thread : Value) where
  abbrev of_stack : Folded → Row
  of_stack f = record { key = process ∷ thread ∷ label_values f.stack; sums = ticks_alone f.time }

  labels-order : (a b : Stack) → slice_cmp (option_cmp value_cmp) (label_values a) (label_values b) ≡ stack_order a b
  labels-order [] [] = refl
  labels-order [] (y ∷ ys) = refl
  labels-order (x ∷ xs) [] = refl
  labels-order (x ∷ xs) (y ∷ ys) = ap (λ r. ordering_then (text_cmp x y) r) (labels-order xs ys)

  -- keys are ordered as their stacks are
  keys-order : (f g : Folded) → key_cmp (of_stack f).key (of_stack g).key ≡ stack_order f.stack g.stack
  keys-order f g =
      let total = options_total value_cmp_total in
      ap₂ (λ p t. ordering_then p (ordering_then t (slice_cmp (option_cmp value_cmp) (label_values f.stack) (label_values g.stack)))) (tied_itself total process) (tied_itself total thread)
      ∙ labels-order f.stack g.stack

  rise : (fs : List Folded) → IsStrictlySortedBy (λ (f g : Folded). stack_order f.stack g.stack) fs → RowsRise (map of_stack fs)
  unfolding IsStrictlySortedBy
  rise [] sorted = tt
  rise (f ∷ fs) sorted = (above fs sorted.0, rise fs sorted.1)
    where
      above : (gs : List Folded) → AllByRecursion (λ (g : Folded). stack_order f.stack g.stack ≡ Less) gs → AllByRecursion (λ (row : Row). key_cmp (of_stack f).key row.key ≡ Less) (map of_stack gs)
      above [] all = tt
      above (g ∷ gs) all = (keys-order f g ∙ all.0, above gs all.1)

  -- the stacks of spans rise
  folded-rise : (all stacks : List Stack) → IsStrictlySortedBy stack_order stacks → IsStrictlySortedBy (λ (f g : Folded). stack_order f.stack g.stack) (map (folded all) stacks)
  unfolding IsStrictlySortedBy
  folded-rise all [] sorted = tt
  folded-rise all (s ∷ stacks) sorted = (above stacks sorted.0, folded-rise all stacks sorted.1)
    where
      above : (others : List Stack) → AllByRecursion (λ t. stack_order s t ≡ Less) others → AllByRecursion (λ (g : Folded). stack_order s g.stack ≡ Less) (map (folded all) others)
      above [] below = tt
      above (t ∷ others) below = (below.0, above others below.1)

  -- the rows of a thread's stacks have their labels
  labels-thread : (spans : List (Span Bytes)) → labels_in (rows_of (map (keyed_stack process thread) (folded_stacks spans))) ≡ names_in (folded_stacks spans)
  labels-thread spans =
      ap labels_in (ap rows_of (keyed stacks) ∙ rows_of-own (map of_stack stacks) (rise stacks (folded-rise (stacks_of spans) (ascending stack_order (stacks_of spans)) (ascending-sorted stack_order-total (stacks_of spans)))))
      ∙ counts stacks
    where
      stacks : List Folded
      stacks = folded_stacks spans

      keyed : (fs : List Folded) → map (keyed_stack process thread) fs ≡ keyed_rows (map of_stack fs)
      keyed [] = refl
      keyed (f ∷ fs) = ap (λ es. keyed_stack process thread f ∷ es) (keyed fs)

      counts : (fs : List Folded) → labels_in (map of_stack fs) ≡ names_in fs
      counts [] = refl
      counts (f ∷ fs) =
          let own : length (process ∷ thread ∷ label_values f.stack) - 2 ≡ length f.stack = omega (arith, length-map f.stack (λ (label : Bytes). Some (Words label))) in
          sum_by-cons (λ (row : Row). length row.key - 2) (of_stack f) (map of_stack fs) ∙ ap₂ (λ m n. m + n) own (counts fs) ∙ sym (sum_by-cons (λ (g : Folded). length g.stack) f fs)

  -- so more frames than there may be labels are too many
  pub Exceeds-frames : (spans : List (Span Bytes)) (old : List Row) → most_names < frame_count spans → Exceeds old (map (keyed_stack process thread) (folded_stacks spans))
  Exceeds-frames spans old many = λ sums is. omega (arith, many, frames-names spans, labels-thread spans, labels-behind sums (map (keyed_stack process thread) (folded_stacks spans)))
