-- How many labels the rows of sums have, and how many with more sums.
use Rattle.std.specs.{BTreeMap.is_at, BTreeSet.insert_key, Map.{keys_of, lookup}, Ordering.{is_eq, match_ordering}, Prelude.{fold, sum_by, None}, declared.cmp.Ordering.{Ordering, TheVariants.{Less, Equal, Greater}}}
use Rattle.std.proofs.{Common.{◌≡◌, ℕ, ◌+◌, ◌-◌, ◌≤◌, Bool, true, false, ◌||◌, cond, Some, List, [], ◌∷◌, ◌++◌, length, refl, sym, ap, subst, ◌∙◌, arith}, Math.Bool.or_comm, lemmas.List.{map-append, Sums.{fold-append, sum_by-cons}}}
use Rattle.span_keyed_tracks.specs.Keyed.{entry_of, keys_in, steps_at}
use Rattle.span_keyed_tracks.proofs.{Keyed.{has_key, keys_of-made}, SameKeys.step_keys}
use Rattle.span_self_time.proofs.Mapped.{sum_by-map}
use Rattle.span_table.specs.{Keys.key_cmp, Tables.{summed, sums_together}}
use Rattle.span_table.proofs.{AddedTables.rows_of-alike, Alike.{sums_at-append, step_keys-append}, Tallies.with_sums-turned}
use Rattle.span_stack_sums.specs.{Keyed, KeyedSums, Row, Sums, SumsByKey, TableKey, row_of, rows_of, Text.labels_in}

-- how many labels a key has
abbrev pub depth : TableKey → ℕ
depth key = length key - 2

labels_in-keys : (es : KeyedSums) → labels_in (rows_of es) ≡ sum_by depth (keys_in key_cmp es)
labels_in-keys es =
    sum_by-map (λ (row : Row). depth row.key) row_of (summed es)
    ∙ sum_by-map (λ (e : TableKey × Sums). depth e.0) (entry_of (λ key. sums_together (steps_at key_cmp key es))) (keys_in key_cmp es)

-- one more key among them leaves none out
insert-more : (ks : List TableKey) (k : TableKey) → sum_by depth ks ≤ sum_by depth (insert_key key_cmp ks k)
insert-more [] k = omega arith
insert-more (x ∷ xs) k = by (key_cmp k x) (insert-more xs k)
  where
    by : (r : Ordering) → sum_by depth xs ≤ sum_by depth (insert_key key_cmp xs k) → sum_by depth (x ∷ xs) ≤ sum_by depth (match_ordering r (k ∷ x ∷ xs) (x ∷ xs) (x ∷ insert_key key_cmp xs k))
    by Less more = omega (arith, sum_by-cons depth k (x ∷ xs))
    by Equal more = omega arith
    by Greater more = omega (arith, more, sum_by-cons depth x xs, sum_by-cons depth x (insert_key key_cmp xs k))

-- a new one adds its own labels
insert-new : (ks : List TableKey) (k : TableKey) → has_key key_cmp k ks ≡ false → sum_by depth (insert_key key_cmp ks k) ≡ sum_by depth ks + depth k
insert-new [] k new = omega (arith, sum_by-cons depth k [])
insert-new (x ∷ xs) k new = by (key_cmp k x) (insert-new xs k) new
  where
    by : (r : Ordering) → (has_key key_cmp k xs ≡ false → sum_by depth (insert_key key_cmp xs k) ≡ sum_by depth xs + depth k) → (is_eq r || has_key key_cmp k xs) ≡ false →
        sum_by depth (match_ordering r (k ∷ x ∷ xs) (x ∷ xs) (x ∷ insert_key key_cmp xs k)) ≡ sum_by depth (x ∷ xs) + depth k
    by Less later new = omega (arith, sum_by-cons depth k (x ∷ xs))
    by Equal later new = cc
    by Greater later new = omega (arith, later new, sum_by-cons depth x xs, sum_by-cons depth x (insert_key key_cmp xs k))

fold-more : (ks more : List TableKey) → sum_by depth ks ≤ sum_by depth (fold (insert_key key_cmp) ks more)
fold-more ks [] = omega arith
fold-more ks (k ∷ more) = omega (arith, insert-more ks k, fold-more (insert_key key_cmp ks k) more)

keys_in-append : (es fs : KeyedSums) → keys_in key_cmp (es ++ fs) ≡ fold (insert_key key_cmp) (keys_in key_cmp es) (step_keys fs)
keys_in-append es fs = ap (fold (insert_key key_cmp) []) (map-append (λ (e : Keyed TableKey Sums). e.key) es fs) ∙ fold-append (insert_key key_cmp) [] (step_keys es) (step_keys fs)

-- those of some sums are no more than those of these and more
pub labels-before : (es fs : KeyedSums) → labels_in (rows_of es) ≤ labels_in (rows_of (es ++ fs))
labels-before es fs = omega (arith, labels_in-keys es, labels_in-keys (es ++ fs), ap (sum_by depth) (keys_in-append es fs), fold-more (keys_in key_cmp es) (step_keys fs))

-- lists of sums come to the same either way
turned : (es fs : KeyedSums) → rows_of (es ++ fs) ≡ rows_of (fs ++ es)
turned es fs = rows_of-alike (es ++ fs) (fs ++ es) (record {
  there = λ k has. there es fs k ∙ has;
  back = λ k has. there fs es k ∙ has;
  sums = λ k. sums_at-append k es fs ∙ with_sums-turned (sums_together (steps_at key_cmp k es)) (sums_together (steps_at key_cmp k fs)) ∙ sym (sums_at-append k fs es);
})
  where
    there : (es fs : KeyedSums) (k : TableKey) → has_key key_cmp k (step_keys (fs ++ es)) ≡ has_key key_cmp k (step_keys (es ++ fs))
    there es fs k = step_keys-append k fs es ∙ or_comm (has_key key_cmp k (step_keys fs)) (has_key key_cmp k (step_keys es)) ∙ sym (step_keys-append k es fs)

-- so are those of sums behind others
pub labels-behind : (es fs : KeyedSums) → labels_in (rows_of fs) ≤ labels_in (rows_of (es ++ fs))
labels-behind es fs = omega (arith, labels-before fs es, ap labels_in (turned es fs))

-- a key that has no sums is none of these
none-has : (key : TableKey) (es : SumsByKey) → lookup (is_at (key_cmp key)) es ≡ None → has_key key_cmp key (keys_of es) ≡ false
none-has key [] none = refl
none-has key (e ∷ es) none = by (is_eq (key_cmp key e.0)) none (none-has key es)
  where
    by : (b : Bool) → cond b (Some e.1) (lookup (is_at (key_cmp key)) es) ≡ None → (lookup (is_at (key_cmp key)) es ≡ None → has_key key_cmp key (keys_of es) ≡ false) → (b || has_key key_cmp key (keys_of es)) ≡ false
    by true none later = cc
    by false none later = later none

-- sums under a key that has none yet add its labels
pub labels-new : (es : KeyedSums) (e : Keyed TableKey Sums) → lookup (is_at (key_cmp e.key)) (summed es) ≡ None → labels_in (rows_of (es ++ e ∷ [])) ≡ labels_in (rows_of es) + depth e.key
labels-new es e none =
    labels_in-keys (es ++ e ∷ []) ∙ ap (sum_by depth) (keys_in-append es (e ∷ [])) ∙ insert-new (keys_in key_cmp es) e.key (subst (λ ks. has_key key_cmp e.key ks ≡ false) keys (none-has e.key (summed es) none)) ∙ ap (λ n. n + depth e.key) (sym (labels_in-keys es))
  where
    keys : keys_of (summed es) ≡ keys_in key_cmp es
    keys = keys_of-made (λ key. sums_together (steps_at key_cmp key es)) (keys_in key_cmp es)
