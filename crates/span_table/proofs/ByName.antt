-- By columns of which none asks a span for more than its name, the rows of names add up as their spans do.
use Rattle.std.specs.{Cmp.Lexicographic.{nat_list_cmp_total, texts_ties}, List.list_any, Option.option_map, Ordering.is_eq, Prelude.{filter, flat_map, sum_by}}
use Rattle.std.proofs.{Common.{◌≡◌, ℕ, ◌+◌, Bool, true, false, ◌||◌, cond, List, [], ◌∷◌, ◌++◌, length, map, Option, None, refl, sym, ap, ap₂, subst, ◌∙◌, arith}, lemmas.List.{map-append, Sums.sum_by-cons}}
use Rattle.span_event.proofs.Orders.{text_same}
use Rattle.span_journal.proofs.Sorted.{map-map}
use Rattle.span_table.specs.{Thread, Bytes, same_text, text_cmp, Keyed, ascending, keys_in, steps_at, accepted, span_row, thread_keys, thread_span_rows, timed_in, thread_events, Span, named, closed_spans, parent_of, Collected.{asks_spans, keyed_span_row, named_alone, row_sums}, Columns.{Called, Run, Value, value_at}, Keys.TableKey, Numbers.asks_each, Sums.{no_sums, number_by, only, sums_of_row, with_sums}, Tables.{KeyedSums, called, keyed_span, span_sums, sums_of, sums_together, thread_sums, with_only}, declared.{number.Number.{Number, TheVariants.{SelfTime, Total, Count, Longest, Closed}}, column.Column.{Column, TheVariants.{Argument, ParentName, ParentArgument}}, sums.Sums.Sums}}
use Rattle.span_table.proofs.{Alike.{AddUpAlike, AddUpAlike-flat_map, AddUpAlike-grouped}, Only.{AddUpAlike-only, only-plain, plain_numbers}, Numbers.same_numbers, Tallies.{made_of, number-total, under}}

-- a column that asks a span for no more than its name has the value that one has of which nothing else is known
value_at-named_alone : (run : Run) (thread : Thread) (span : Called) (parent : Option Called) (column : Column) → asks_spans column ≡ false → value_at run thread span parent column ≡ value_at run thread (named_alone span.name) None column
value_at-named_alone run thread span parent (Argument key) h = cc
value_at-named_alone run thread span parent ParentName h = cc
value_at-named_alone run thread span parent (ParentArgument key) h = cc
value_at-named_alone run thread span parent column h = refl

key-named_alone : (run : Run) (thread : Thread) (span : Called) (parent : Option Called) (columns : List Column) → list_any asks_spans columns ≡ false → map (value_at run thread span parent) columns ≡ map (value_at run thread (named_alone span.name) None) columns
key-named_alone run thread span parent [] h = refl
key-named_alone run thread span parent (column ∷ columns) h =
    let both = both_false (asks_spans column) (list_any asks_spans columns) h in
    ap₂ (λ (v : Value) l. v ∷ l) (value_at-named_alone run thread span parent column both.0) (key-named_alone run thread span parent columns both.1)
  where
    both_false : (a b : Bool) → (a || b) ≡ false → (a ≡ false) × (b ≡ false)
    both_false true b h = cc
    both_false false b h = (refl, h)

sum_by-none : {A : Type 0} (xs : List A) → sum_by (λ x. 0) xs ≡ 0
sum_by-none [] = refl
sum_by-none (x ∷ xs) = omega (arith, sum_by-cons (λ x. 0) x xs, sum_by-none xs)

sum_by-one : {A : Type 0} (xs : List A) → sum_by (λ x. 1) xs ≡ length xs
sum_by-one [] = refl
sum_by-one (x ∷ xs) = omega (arith, sum_by-cons (λ x. 1) x xs, sum_by-one xs)

module _ (spans : List (Span Bytes)) where
  -- the numbers of a span of these without those that only spans tell
  abbrev plain_of : Span Bytes → Sums
  plain_of s = only plain_numbers (sums_of spans (timed_in spans s))

  -- a span of these under its name
  abbrev of_span : Span Bytes → Keyed Bytes Sums
  of_span s = record { key = s.name; step = plain_of s }

  steps-named : (name : Bytes) (xs : List (Span Bytes)) → steps_at text_cmp name (map of_span xs) ≡ map plain_of (named same_text name xs)
  steps-named name [] = refl
  steps-named name (s ∷ xs) =
      ap (λ b. map (λ (e : Keyed Bytes Sums). e.step) (cond b (of_span s ∷ filter (λ e. is_eq (text_cmp e.key name)) (map of_span xs)) (filter (λ e. is_eq (text_cmp e.key name)) (map of_span xs)))) (sym (texts_ties s.name name))
      ∙ by (same_text s.name name) (steps-named name xs)
    where
      by : (b : Bool) → steps_at text_cmp name (map of_span xs) ≡ map plain_of (named same_text name xs) →
          map (λ (e : Keyed Bytes Sums). e.step) (cond b (of_span s ∷ filter (λ e. is_eq (text_cmp e.key name)) (map of_span xs)) (filter (λ e. is_eq (text_cmp e.key name)) (map of_span xs)))
          ≡ map plain_of (cond b (s ∷ named same_text name xs) (named same_text name xs))
      by true rest = ap (λ l. plain_of s ∷ l) rest
      by false rest = rest

  -- the row of a name has the sums of its spans
  row-sums : (thread : Thread) (name : Bytes) → sums_of_row (span_row thread spans name) ≡ sums_together (steps_at text_cmp name (map of_span spans))
  row-sums thread name = same_numbers (sums_of_row (span_row thread spans name)) (sums_together (steps_at text_cmp name (map of_span spans))) each
    where
      number : (n : Sums → ℕ) → ((a b : Sums) → n (with_sums a b) ≡ n a + n b) → n no_sums ≡ 0 → sum_by (λ s. n (plain_of s)) (named same_text name spans) ≡ n (sums_together (steps_at text_cmp name (map of_span spans)))
      number n adds none = sym (ap (λ l. n (sums_together l)) (steps-named name spans) ∙ number-total n adds none plain_of (named same_text name spans))

      no_longest : (xs : List (Span Bytes)) → (sums_together (map plain_of xs)).longest ≡ 0
      no_longest [] = refl
      no_longest (x ∷ xs) = omega (arith, no_longest xs)

      each : (n : Number) → number_by n (sums_of_row (span_row thread spans name)) ≡ number_by n (sums_together (steps_at text_cmp name (map of_span spans)))
      each Count = sym (sum_by-one (named same_text name spans)) ∙ number (number_by Count) (λ a b. refl) refl
      each Closed = sym (sum_by-one (named same_text name spans)) ∙ number (number_by Closed) (λ a b. refl) refl
      each Total = number (number_by Total) (λ a b. refl) refl
      each SelfTime = number (number_by SelfTime) (λ a b. refl) refl
      each Longest = sym (ap (λ l. (sums_together l).longest) (steps-named name spans) ∙ no_longest (named same_text name spans))
      each n = sym (sum_by-none (named same_text name spans)) ∙ number (number_by n) (λ a b. refl) refl

-- without the numbers that only spans tell
abbrev pub without_outer : Keyed TableKey Sums → Keyed TableKey Sums
without_outer e = record { key = e.key; step = only plain_numbers e.step }

module _ (columns : List Column) (run : Run) (asks_none : list_any asks_spans columns ≡ false) where
  module _ (thread : Thread) where
    abbrev spans : List (Span Bytes)
    spans = closed_spans (thread_events thread run.journal)

    abbrev name_key : Bytes → TableKey
    name_key name = map (value_at run thread (named_alone name) None) columns

    -- what the spans of a name come to
    abbrev of_name : Bytes → Sums
    of_name name = sums_together (steps_at text_cmp name (map (of_span spans) spans))

    rows-made : (names : List Bytes) → map (keyed_span_row columns run) (map (span_row thread spans) names) ≡ map (under name_key) (map (made_of of_name) names)
    rows-made [] = refl
    rows-made (name ∷ names) = ap₂ (λ (s : Sums) (l : KeyedSums). record { key = name_key name; step = s } ∷ l) (row-sums spans thread name) (rows-made names)

    names-are : ascending text_cmp (map (λ (s : Span Bytes). s.name) spans) ≡ keys_in text_cmp (map (of_span spans) spans)
    names-are = ap (ascending text_cmp) (sym (map-map (λ (e : Keyed Bytes Sums). e.key) (of_span spans) spans))

    spans-under : (xs : List (Span Bytes)) → map (under name_key) (map (of_span spans) xs) ≡ map without_outer (map (keyed_span columns run thread spans) (map (timed_in spans) xs))
    spans-under [] = refl
    spans-under (s ∷ xs) =
        ap₂ (λ (k : TableKey) (l : KeyedSums). record { key = k; step = plain_of spans s } ∷ l) (sym (key-named_alone run thread (called s) (option_map called (parent_of spans s)) columns asks_none)) (spans-under xs)

    -- the rows of a thread's names add up as its spans do, but for what only these tell
    pub thread-alike : AddUpAlike (map (keyed_span_row columns run) (thread_span_rows run.journal thread)) (map without_outer (thread_sums columns run thread))
    thread-alike =
        subst (λ (l : KeyedSums). AddUpAlike l (map without_outer (thread_sums columns run thread))) (sym (rows-made (ascending text_cmp (map (λ (s : Span Bytes). s.name) spans)) ∙ ap (λ names. map (under name_key) (map (made_of of_name) names)) names-are))
        (subst (AddUpAlike (map (under name_key) (map (made_of of_name) (keys_in text_cmp (map (of_span spans) spans))))) (spans-under spans)
        (AddUpAlike-grouped nat_list_cmp_total text_same name_key (map (of_span spans) spans)))

  rows-by_thread : (threads : List Thread) → map (keyed_span_row columns run) (flat_map (thread_span_rows run.journal) threads) ≡ flat_map (λ thread. map (keyed_span_row columns run) (thread_span_rows run.journal thread)) threads
  rows-by_thread [] = refl
  rows-by_thread (t ∷ threads) =
      map-append (keyed_span_row columns run) (thread_span_rows run.journal t) (flat_map (thread_span_rows run.journal) threads)
      ∙ ap (λ l. map (keyed_span_row columns run) (thread_span_rows run.journal t) ++ l) (rows-by_thread threads)

  spans-by_thread : (threads : List Thread) → map without_outer (flat_map (thread_sums columns run) threads) ≡ flat_map (λ thread. map without_outer (thread_sums columns run thread)) threads
  spans-by_thread [] = refl
  spans-by_thread (t ∷ threads) = map-append without_outer (thread_sums columns run t) (flat_map (thread_sums columns run) threads) ∙ ap (λ l. map without_outer (thread_sums columns run t) ++ l) (spans-by_thread threads)

  -- the rows of names add up as their spans do, but for what only these tell
  row_sums-alike : AddUpAlike (row_sums columns run) (map without_outer (span_sums columns run))
  row_sums-alike =
      let threads = thread_keys (accepted run.journal) in
      subst (AddUpAlike (row_sums columns run)) (sym (spans-by_thread threads))
      (subst (λ (es : KeyedSums). AddUpAlike es (flat_map (λ thread. map without_outer (thread_sums columns run thread)) threads)) (sym (rows-by_thread threads))
      (AddUpAlike-flat_map (λ thread. map (keyed_span_row columns run) (thread_span_rows run.journal thread)) (λ thread. map without_outer (thread_sums columns run thread)) thread-alike threads))

  -- so they do with numbers alone that have none of these
  pub row_sums-only : (numbers : List Number) → list_any asks_each numbers ≡ false → AddUpAlike (map (with_only numbers) (row_sums columns run)) (map (with_only numbers) (span_sums columns run))
  row_sums-only numbers none =
      subst (AddUpAlike (map (with_only numbers) (row_sums columns run))) (each (span_sums columns run)) (AddUpAlike-only numbers (row_sums columns run) (map without_outer (span_sums columns run)) row_sums-alike)
    where
      each : (es : KeyedSums) → map (with_only numbers) (map without_outer es) ≡ map (with_only numbers) es
      each [] = refl
      each (e ∷ es) = ap₂ (λ (s : Sums) (l : KeyedSums). record { key = e.key; step = s } ∷ l) (only-plain numbers e.step none) (each es)
