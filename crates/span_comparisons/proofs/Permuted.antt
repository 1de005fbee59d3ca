-- The keys of a base, and those of the other that it lacks, are the keys of both, in another order.
use Rattle.std.specs.{List.{AllByRecursion, IsDistinct, Sorted.{IsPermutation, IsStrictlySortedBy}}, Ordering.{eq_by_cmp, is_eq, ordering_then}, Prelude.{filter, is_none, not}, declared.cmp.Ordering.{Ordering, TheVariants.{Less, Equal, Greater}}}
use Rattle.std.proofs.{Common.{◌≡◌, Bool, true, false, cond, ◌&&◌, ◌||◌, List, [], ◌∷◌, ◌++◌, Some, length, map, refl, sym, ap, ap₂, subst, ◌∙◌}, lemmas.List.{length-map, map-append, Sorted.{IsPermutation-map, IsPermutation-sym, length_permutation}, Sums.length-filter}}
use Rattle.span_keyed_tracks.proofs.{Keyed.{has_key, neither, same_from_is_eq}, Uses.is_eq-turned}
use Rattle.span_journal.proofs.{Selected.filter-ascending, Sorted.{AllByRecursion-append, AllByRecursion-map, ascending-sorted, map-map, map-sorted}}
use Rattle.span_ledger.proofs.Sorting.{ascending-permutation}
use Rattle.span_table.proofs.Alike.{has_key-append, same_keys}
use Rattle.span_table_text.proofs.Ranked.{filter-sorted}
use Rattle.span_comparisons.proofs.Compared.{gaps_order-total}
use Rattle.span_comparisons.specs.{ascending, Number, Row, found_at, key_cmp_total, key_cmp-same, TableKey, key_cmp, Wanted, is_wanted, RowsRise, Changed.{base_keys, is_new, new_keys}, Changes.{Change, by_gap, compared, compared_at, gaps_order, is_changed, is_same, order_numbers, same_count, shown_changes}, Laws.ComparisonsHaveEachChange}

abbrev pub key_of : Row → TableKey
key_of row = row.key

-- a row is found where its key is among the keys
found-has : (key : TableKey) (rows : List Row) → is_none (found_at rows key) ≡ not (has_key key_cmp key (map key_of rows))
found-has key [] = refl
found-has key (r ∷ rows) = by (is_eq (key_cmp key r.key)) (is_eq-turned key_cmp_total r.key key) (found-has key rows)
  where
    by : (b : Bool) → is_eq (key_cmp r.key key) ≡ b → is_none (found_at rows key) ≡ not (has_key key_cmp key (map key_of rows)) →
        is_none (cond (is_eq (key_cmp r.key key)) (Some r) (found_at rows key)) ≡ not (b || has_key key_cmp key (map key_of rows))
    by true e rest = ap (λ b. is_none (cond b (Some r) (found_at rows key))) e
    by false e rest = ap (λ b. is_none (cond b (Some r) (found_at rows key))) e ∙ rest

-- which of the keys that pass a test a list has
has-filter : (q : TableKey → Bool) (k : TableKey) (xs : List TableKey) → has_key key_cmp k (filter q xs) ≡ (q k && has_key key_cmp k xs)
has-filter q k [] = none (q k)
  where
    none : (b : Bool) → false ≡ (b && false)
    none true = refl
    none false = refl
has-filter q k (x ∷ xs) = by (is_eq (key_cmp k x)) refl (has-filter q k xs)
  where
    by : (e : Bool) → is_eq (key_cmp k x) ≡ e → has_key key_cmp k (filter q xs) ≡ (q k && has_key key_cmp k xs) → has_key key_cmp k (cond (q x) (x ∷ filter q xs) (filter q xs)) ≡ (q k && (e || has_key key_cmp k xs))
    by true e rest = ap (λ y. has_key key_cmp k (cond (q y) (x ∷ filter q xs) (filter q xs))) (sym (same_from_is_eq key_cmp_total key_cmp-same k x e)) ∙ chosen (q k) rest
      where
        chosen : (b : Bool) → has_key key_cmp k (filter q xs) ≡ (b && has_key key_cmp k xs) → has_key key_cmp k (cond b (x ∷ filter q xs) (filter q xs)) ≡ (b && true)
        chosen true rest = ap (λ r. r || has_key key_cmp k (filter q xs)) e
        chosen false rest = rest
    by false e rest = other (q x) ∙ rest
      where
        other : (b : Bool) → has_key key_cmp k (cond b (x ∷ filter q xs) (filter q xs)) ≡ has_key key_cmp k (filter q xs)
        other true = ap (λ r. r || has_key key_cmp k (filter q xs)) e
        other false = refl

-- the keys of rows that rise are distinct
IsDistinct-keys : (rows : List Row) → RowsRise rows → IsDistinct (eq_by_cmp key_cmp) (map key_of rows)
unfolding IsStrictlySortedBy IsDistinct
IsDistinct-keys [] rise = tt
IsDistinct-keys (r ∷ rows) rise = (apart rows rise.0, IsDistinct-keys rows rise.1)
  where
    apart : (rs : List Row) → AllByRecursion (λ (y : Row). key_cmp r.key y.key ≡ Less) rs → AllByRecursion (λ k. eq_by_cmp key_cmp r.key k ≡ false) (map key_of rs)
    apart [] below = tt
    apart (y ∷ ys) below = (ap is_eq below.0, apart ys below.1)

-- of distinct keys those that pass a test are distinct
IsDistinct-filter : (q : TableKey → Bool) (ks : List TableKey) → IsDistinct (eq_by_cmp key_cmp) ks → IsDistinct (eq_by_cmp key_cmp) (filter q ks)
unfolding IsDistinct
IsDistinct-filter q [] distinct = tt
IsDistinct-filter q (k ∷ ks) distinct = by (q k) (all ks distinct.0) (IsDistinct-filter q ks distinct.1)
  where
    all : (xs : List TableKey) → AllByRecursion (λ y. eq_by_cmp key_cmp k y ≡ false) xs → AllByRecursion (λ y. eq_by_cmp key_cmp k y ≡ false) (filter q xs)
    all [] h = tt
    all (x ∷ xs) h = one (q x) (all xs h.1)
      where
        one : (b : Bool) → AllByRecursion (λ y. eq_by_cmp key_cmp k y ≡ false) (filter q xs) → AllByRecursion (λ y. eq_by_cmp key_cmp k y ≡ false) (cond b (x ∷ filter q xs) (filter q xs))
        one true rest = (h.0, rest)
        one false rest = rest

    by : (b : Bool) → AllByRecursion (λ y. eq_by_cmp key_cmp k y ≡ false) (filter q ks) → IsDistinct (eq_by_cmp key_cmp) (filter q ks) → IsDistinct (eq_by_cmp key_cmp) (cond b (k ∷ filter q ks) (filter q ks))
    by true below rest = (below, rest)
    by false below rest = rest

-- distinct keys, and others that are none of these
IsDistinct-both : (ks ls : List TableKey) → IsDistinct (eq_by_cmp key_cmp) ks → IsDistinct (eq_by_cmp key_cmp) ls → AllByRecursion (λ l. has_key key_cmp l ks ≡ false) ls → IsDistinct (eq_by_cmp key_cmp) (ks ++ ls)
unfolding IsDistinct
IsDistinct-both [] ls first second apart = second
IsDistinct-both (k ∷ ks) ls first second apart = (
  AllByRecursion-append (λ y. eq_by_cmp key_cmp k y ≡ false) ks ls first.0 (AllByRecursion-map (λ l. has_key key_cmp l (k ∷ ks) ≡ false) (λ l. eq_by_cmp key_cmp k l ≡ false)
      (λ l none. is_eq-turned key_cmp_total k l ∙ (neither (is_eq (key_cmp l k)) (has_key key_cmp l ks) none).0) ls apart),
  IsDistinct-both ks ls first.1 second (AllByRecursion-map (λ l. has_key key_cmp l (k ∷ ks) ≡ false) (λ l. has_key key_cmp l ks ≡ false) (λ l none. (neither (is_eq (key_cmp l k)) (has_key key_cmp l ks) none).1) ls apart),
)

module _ (base other : List Row) where
  abbrev classified_keys : List TableKey
  classified_keys = map key_of base ++ map key_of (filter (is_new base) other)

  abbrev all_keys : List TableKey
  all_keys = ascending key_cmp (map key_of (base ++ other))

  new_apart : (rows : List Row) → AllByRecursion (λ l. has_key key_cmp l (map key_of base) ≡ false) (map key_of (filter (is_new base) rows))
  new_apart [] = tt
  new_apart (r ∷ rows) = by (is_new base r) refl (new_apart rows)
    where
      no : (b : Bool) → not b ≡ true → b ≡ false
      no true h = cc
      no false h = refl

      by : (b : Bool) → is_new base r ≡ b → AllByRecursion (λ l. has_key key_cmp l (map key_of base) ≡ false) (map key_of (filter (is_new base) rows)) →
          AllByRecursion (λ l. has_key key_cmp l (map key_of base) ≡ false) (map key_of (cond b (r ∷ filter (is_new base) rows) (filter (is_new base) rows)))
      by true e rest = (no (has_key key_cmp r.key (map key_of base)) (sym (found-has r.key base) ∙ e), rest)
      by false e rest = rest

  -- a key that the base lacks is a new one where the other has it
  has-new : (k : TableKey) → has_key key_cmp k (map key_of base) ≡ false → (rows : List Row) → has_key key_cmp k (map key_of (filter (is_new base) rows)) ≡ has_key key_cmp k (map key_of rows)
  has-new k none [] = refl
  has-new k none (r ∷ rows) = by (is_eq (key_cmp k r.key)) refl (has-new k none rows)
    where
      by : (e : Bool) → is_eq (key_cmp k r.key) ≡ e → has_key key_cmp k (map key_of (filter (is_new base) rows)) ≡ has_key key_cmp k (map key_of rows) →
          has_key key_cmp k (map key_of (cond (is_new base r) (r ∷ filter (is_new base) rows) (filter (is_new base) rows))) ≡ (e || has_key key_cmp k (map key_of rows))
      by true e rest =
          let new : is_new base r ≡ true = ap (λ x. is_none (found_at base x)) (sym (same_from_is_eq key_cmp_total key_cmp-same k r.key e)) ∙ found-has k base ∙ ap not none in
          ap (λ b. has_key key_cmp k (map key_of (cond b (r ∷ filter (is_new base) rows) (filter (is_new base) rows)))) new ∙ ap (λ b. b || has_key key_cmp k (map key_of (filter (is_new base) rows))) e
      by false e rest = either_way (is_new base r) ∙ rest
        where
          either_way : (b : Bool) → has_key key_cmp k (map key_of (cond b (r ∷ filter (is_new base) rows) (filter (is_new base) rows))) ≡ has_key key_cmp k (map key_of (filter (is_new base) rows))
          either_way true = ap (λ b. b || has_key key_cmp k (map key_of (filter (is_new base) rows))) e
          either_way false = refl

  has_key-classified : (k : TableKey) → has_key key_cmp k classified_keys ≡ has_key key_cmp k (map key_of (base ++ other))
  has_key-classified k =
      has_key-append key_cmp k (map key_of base) (map key_of (filter (is_new base) other)) ∙ by (has_key key_cmp k (map key_of base)) refl
      ∙ sym (ap (has_key key_cmp k) (map-append key_of base other) ∙ has_key-append key_cmp k (map key_of base) (map key_of other))
    where
      by : (b : Bool) → has_key key_cmp k (map key_of base) ≡ b → (b || has_key key_cmp k (map key_of (filter (is_new base) other))) ≡ (b || has_key key_cmp k (map key_of other))
      by true e = refl
      by false e = has-new k e other

  -- those of either that pass a test are the same, in another order
  picked : RowsRise base → RowsRise other → (q : TableKey → Bool) → IsPermutation (filter q all_keys) (filter q classified_keys)
  picked base_rises other_rises q =
      let distinct = IsDistinct-filter q classified_keys (IsDistinct-both (map key_of base) (map key_of (filter (is_new base) other)) (IsDistinct-keys base base_rises)
      (IsDistinct-keys (filter (is_new base) other) (filter-sorted (λ (a b : Row). key_cmp a.key b.key) (is_new base) other other_rises)) (new_apart other)) in
      let has : (k : TableKey) → has_key key_cmp k (filter q classified_keys) ≡ has_key key_cmp k (filter q (map key_of (base ++ other))) =
      λ k. has-filter q k classified_keys ∙ ap (λ b. q k && b) (has_key-classified k) ∙ sym (has-filter q k (map key_of (base ++ other))) in
      let same : ascending key_cmp (filter q classified_keys) ≡ filter q all_keys =
      same_keys (filter q classified_keys) (filter q (map key_of (base ++ other))) (λ k h. sym (has k) ∙ h) (λ k h. has k ∙ h)
      ∙ sym (filter-ascending key_cmp_total q (λ (a b : TableKey) (e : key_cmp a b ≡ Equal). ap q (key_cmp-same a b e)) (map key_of (base ++ other))) in
      IsPermutation-sym (filter q classified_keys) (filter q all_keys) (subst (IsPermutation (filter q classified_keys)) same (ascending-permutation key_cmp_total (filter q classified_keys) distinct))

  abbrev make : TableKey → Change
  make = compared_at base other

  keys-made : base_keys base other ++ new_keys base other ≡ map make classified_keys
  keys-made =
      ap₂ (λ a b. a ++ b) (sym (map-map make key_of base)) (sym (map-map make key_of (filter (is_new base) other)))
      ∙ sym (map-append make (map key_of base) (map key_of (filter (is_new base) other)))

  module _ (wanted : Wanted) where
    -- the key is shown, and its sums pass a test
    abbrev passes : (Change → Bool) → TableKey → Bool
    passes p k = is_wanted wanted k && p (make k)

    filter-made : (p : Change → Bool) (ks : List TableKey) → filter p (shown_changes wanted (map make ks)) ≡ map make (filter (passes p) ks)
    filter-made p [] = refl
    filter-made p (k ∷ ks) = by (is_wanted wanted k) (filter-made p ks)
      where
        inner : (b : Bool) → filter p (shown_changes wanted (map make ks)) ≡ map make (filter (passes p) ks) →
            cond b (make k ∷ filter p (shown_changes wanted (map make ks))) (filter p (shown_changes wanted (map make ks))) ≡ map make (cond b (k ∷ filter (passes p) ks) (filter (passes p) ks))
        inner true rest = ap (λ l. make k ∷ l) rest
        inner false rest = rest

        by : (a : Bool) → filter p (shown_changes wanted (map make ks)) ≡ map make (filter (passes p) ks) →
            filter p (cond a (make k ∷ shown_changes wanted (map make ks)) (shown_changes wanted (map make ks))) ≡ map make (cond (a && p (make k)) (k ∷ filter (passes p) ks) (filter (passes p) ks))
        by true rest = inner (p (make k)) rest
        by false rest = rest

    module _ (base_rises : RowsRise base) (other_rises : RowsRise other) where
      -- what is found of the keys that are shown and pass a test is what is compared, in another order
      pub shown-permuted : (p : Change → Bool) → IsPermutation (filter p (shown_changes wanted (compared base other))) (filter p (shown_changes wanted (base_keys base other ++ new_keys base other)))
      shown-permuted p =
          let found = ap (λ changes. filter p (shown_changes wanted changes)) keys-made ∙ filter-made p classified_keys in
          subst (IsPermutation (filter p (shown_changes wanted (compared base other)))) (sym found)
          (subst (λ l. IsPermutation l (map make (filter (passes p) classified_keys))) (sym (filter-made p all_keys))
          (IsPermutation-map make (filter (passes p) all_keys) (filter (passes p) classified_keys) (picked base_rises other_rises (passes p))))

      -- as many are the same
      pub same_count-classified : same_count (shown_changes wanted (base_keys base other ++ new_keys base other)) ≡ same_count (shown_changes wanted (compared base other))
      same_count-classified =
          let p = λ (c : Change). is_same c.both in
          sym (length-filter p (shown_changes wanted (base_keys base other ++ new_keys base other)))
          ∙ length_permutation (filter p (shown_changes wanted (compared base other))) (filter p (shown_changes wanted (base_keys base other ++ new_keys base other))) (shown-permuted p)
          ∙ length-filter p (shown_changes wanted (compared base other))

  filter-true : (ks : List TableKey) → filter (λ k. true) ks ≡ ks
  filter-true [] = refl
  filter-true (k ∷ ks) = ap (λ l. k ∷ l) (filter-true ks)

  -- there are as many keys
  pub length-classified : RowsRise base → RowsRise other → length (base_keys base other ++ new_keys base other) ≡ length (compared base other)
  length-classified base_rises other_rises =
      ap length keys-made ∙ length-map classified_keys make ∙ sym (ap length (filter-true classified_keys))
      ∙ length_permutation (filter (λ k. true) all_keys) (filter (λ k. true) classified_keys) (picked base_rises other_rises (λ k. true))
      ∙ ap length (filter-true all_keys) ∙ sym (length-map all_keys make)

-- where the later of two orders distinguishes things, both do
pub apart : (p q : Ordering) → is_eq q ≡ false → is_eq (ordering_then p q) ≡ false
apart Less q differ = refl
apart Greater q differ = refl
apart Equal q differ = differ

gaps_order-apart : (numbers : List Number) (x y : Change) → key_cmp x.key y.key ≡ Less → is_eq (gaps_order numbers x y) ≡ false
gaps_order-apart [] x y below = ap is_eq below
gaps_order-apart (number ∷ numbers) x y below = apart (by_gap number x y) (gaps_order numbers x y) (gaps_order-apart numbers x y below)

IsDistinct-sorted : (numbers : List Number) (changes : List Change) → IsStrictlySortedBy (λ (a b : Change). key_cmp a.key b.key) changes → IsDistinct (eq_by_cmp (gaps_order numbers)) changes
unfolding IsStrictlySortedBy IsDistinct
IsDistinct-sorted numbers [] sorted = tt
IsDistinct-sorted numbers (x ∷ xs) sorted = (
  AllByRecursion-map (λ (y : Change). key_cmp x.key y.key ≡ Less) (λ (y : Change). eq_by_cmp (gaps_order numbers) x y ≡ false)
      (λ (y : Change) (below : key_cmp x.key y.key ≡ Less). gaps_order-apart numbers x y below) xs sorted.0,
  IsDistinct-sorted numbers xs sorted.1,
)

-- no two changes stand at one place
pub changes-distinct : (numbers : List Number) (wanted : Wanted) (base other : List Row) → IsDistinct (eq_by_cmp (gaps_order numbers)) (filter is_changed (shown_changes wanted (compared base other)))
changes-distinct numbers wanted base other =
    let by_key = λ (a b : Change). key_cmp a.key b.key in
    let keys = map key_of (base ++ other) in
    IsDistinct-sorted numbers (filter is_changed (shown_changes wanted (compared base other)))
    (filter-sorted by_key is_changed (shown_changes wanted (compared base other)) (filter-sorted by_key (λ (c : Change). is_wanted wanted c.key) (compared base other)
    (map-sorted key_cmp (λ (c : Change). c.key) (compared_at base other) (λ key. refl) (ascending key_cmp keys) (ascending-sorted key_cmp_total keys))))

-- so each has its place
pub changes-each : ComparisonsHaveEachChange
changes-each by numbers wanted base other =
    let changes = filter is_changed (shown_changes wanted (compared base other)) in
    let order = order_numbers by numbers in
    let total = gaps_order-total order in
    record { places = ascending-permutation total changes (changes-distinct order wanted base other); order = ascending-sorted total changes }
