-- Rows that rise are found by their keys, at a place that is looked at first or by a search.
use Rattle.std.specs.{Cmp.tied_itself, Fn.{Called, ComputesKey}, List.{AllByRecursion, find, Sorted.{IsNonDecreasingBy, IsStrictlySortedBy}}, Option.{option_map_or, option_map}, Ordering.{is_eq, is_lt, ordering_index, ordering_reverse}, Prelude.{filter, unwrap_or}, declared.cmp.Ordering.{Ordering, TheVariants.{Less, Equal, Greater}}}
use Rattle.std.proofs.{Common.{◌≡◌, ℕ, ◌-◌, ◌<◌, ◌≤◌, ◌==◌, ◌||◌, Bool, true, false, List, Option, Some, None, length, get_or, slice_get, refl, sym, ap, ◌∙◌, arith, inl, inr, ◌⊎◌, ◌+◌, zero, suc, cond, [], ◌∷◌, map, Bor, subst, add-one}, lemmas.{Fn.always_returns_same, List.Sorted.searchable_from_sorted, Option.{slice_get-get_or, slice_get_within}}}
use Rattle.span_keyed_tracks.proofs.{Keyed.same_from_is_eq, Uses.is_eq-turned}
use Rattle.span_table.specs.{Keyed, steps_at, Adding.{keyed_row, keyed_rows}, KeyLaws.{key_cmp-same, key_cmp_total}, Keys.{TableKey, key_cmp}, RowSearch.{found_at, is_behind, order_at, sums_at}, Tables.{RowsRise, sums_together}, declared.{sums.Sums.Sums, table.Row.Row}}
use Rattle.span_table.proofs.Tallies.{sums_together-one}
use denote.Param.Members.{Mut}

-- in rows that rise no later one has the key of the first
none_later : (row : Row) (rows : List Row) → AllByRecursion (λ (r : Row). key_cmp row.key r.key ≡ Less) rows → find (λ (r : Row). is_eq (key_cmp r.key row.key)) rows ≡ None
none_later row [] below = refl
none_later row (r ∷ rows) below =
    ap (λ b. cond b (Some r) (find (λ (r : Row). is_eq (key_cmp r.key row.key)) rows)) (is_eq-turned key_cmp_total r.key row.key ∙ ap is_eq below.0) ∙ none_later row rows below.1

-- rows without the key come to nothing under it
steps-none : (key : TableKey) (rows : List Row) → found_at rows key ≡ None → steps_at key_cmp key (keyed_rows rows) ≡ []
steps-none key [] none = refl
steps-none key (r ∷ rows) none = by (is_eq (key_cmp r.key key)) (steps-none key rows) none
  where
    by : (b : Bool) → (found_at rows key ≡ None → steps_at key_cmp key (keyed_rows rows) ≡ []) → cond b (Some r) (found_at rows key) ≡ None →
        map (λ (e : Keyed TableKey Sums). e.step) (cond b (keyed_row r ∷ filter (λ e. is_eq (key_cmp e.key key)) (keyed_rows rows)) (filter (λ e. is_eq (key_cmp e.key key)) (keyed_rows rows))) ≡ []
    by true rest none = cc
    by false rest none = rest none

-- what rows that rise have under a key is what the row with the key has
pub sums_at-found : (key : TableKey) (rows : List Row) → RowsRise rows → sums_at rows key ≡ unwrap_or (option_map (λ (row : Row). row.sums) (found_at rows key)) (sums_together [])
unfolding IsStrictlySortedBy
sums_at-found key [] rise = refl
sums_at-found key (r ∷ rows) rise = by (is_eq (key_cmp r.key key)) refl (sums_at-found key rows rise.1)
  where
    by : (b : Bool) → is_eq (key_cmp r.key key) ≡ b → sums_at rows key ≡ unwrap_or (option_map (λ (row : Row). row.sums) (found_at rows key)) (sums_together []) →
        sums_together (map (λ (e : Keyed TableKey Sums). e.step) (cond b (keyed_row r ∷ filter (λ e. is_eq (key_cmp e.key key)) (keyed_rows rows)) (filter (λ e. is_eq (key_cmp e.key key)) (keyed_rows rows))))
        ≡ unwrap_or (option_map (λ (row : Row). row.sums) (cond b (Some r) (found_at rows key))) (sums_together [])
    by true e rest =
        let none : found_at rows key ≡ None = subst (λ k. found_at rows k ≡ None) (same_from_is_eq key_cmp_total key_cmp-same r.key key e) (none_later r rows rise.0) in
        ap (λ l. sums_together (r.sums ∷ l)) (steps-none key rows none) ∙ sums_together-one r.sums
    by false e rest = rest

-- what holds of each holds at each place
all_at : {A : Type 0} (P : A → Type 0) (xs : List A) → AllByRecursion P xs → (k : ℕ) (d : A) → k < length xs → P (get_or xs k d)
all_at P [] all k d low = absurd (omega (arith, low))
all_at P (x ∷ xs) all zero d low = all.0
all_at P (x ∷ xs) all (suc k) d low = all_at P xs all.1 k d (omega (arith, low))

-- a row among rows that rise is found by its key
pub found_at-own : (rows : List Row) → RowsRise rows → (row : Row) (k : ℕ) → k < length rows → get_or rows k row ≡ row → found_at rows row.key ≡ Some row
unfolding IsStrictlySortedBy
found_at-own [] rise row k low is = absurd (omega (arith, low))
found_at-own (r ∷ rows) rise row zero low is =
    ap (λ o. cond (is_eq o) (Some r) (found_at rows row.key)) (ap (λ (x : Row). key_cmp x.key row.key) is ∙ tied_itself key_cmp_total row.key) ∙ ap Some is
found_at-own (r ∷ rows) rise row (suc k) low is =
    let below : key_cmp r.key row.key ≡ Less = ap (λ (x : Row). key_cmp r.key x.key) (sym is) ∙ all_at (λ (x : Row). key_cmp r.key x.key ≡ Less) rows rise.0 k row (omega (arith, low)) in
    ap (λ o. cond (is_eq o) (Some r) (found_at rows row.key)) below ∙ found_at-own rows rise.1 row k (omega (arith, low)) is

-- where no row has the key none is found
pub found_at-none : (key : TableKey) (rows : List Row) → ((k : ℕ) (d : Row) → k < length rows → is_eq (key_cmp (get_or rows k d).key key) ≡ false) → found_at rows key ≡ None
found_at-none key [] none = refl
found_at-none key (r ∷ rows) none =
    ap (λ b. cond b (Some r) (found_at rows key)) (none 0 r (omega arith)) ∙ found_at-none key rows (λ k d low. none (suc k) d (omega (arith, low)))

-- each row has a lower key than the next
adjacent : (rows : List Row) → RowsRise rows → (k : ℕ) (d : Row) → suc k < length rows → key_cmp (get_or rows k d).key (get_or rows (suc k) d).key ≡ Less
unfolding IsStrictlySortedBy
adjacent [] rise k d low = absurd (omega (arith, low))
adjacent (r ∷ rows) rise zero d low = all_at (λ (x : Row). key_cmp r.key x.key ≡ Less) rows rise.0 0 d (omega (arith, low))
adjacent (r ∷ rows) rise (suc k) d low = adjacent rows rise.1 k d (omega (arith, low))

-- rows that rise can be searched by their keys
pub searchable : (key : TableKey) (rows : List Row) → RowsRise rows → IsNonDecreasingBy (λ (row : Row). ordering_index (key_cmp row.key key)) rows
searchable key rows rise =
    searchable_from_sorted key_cmp_total (λ (row : Row). row.key) rows key
    (λ k d at low. let up : key_cmp (get_or rows k d).key (get_or rows (k + 1) d).key ≡ Less = ap (λ n. key_cmp (get_or rows k d).key (get_or rows n d).key) (add-one k) ∙ adjacent rows rise k d (omega (arith, low)) in
    ap is_lt (key_cmp_total.antisymm (get_or rows (k + 1) d).key (get_or rows k d).key ∙ ap ordering_reverse up))

-- a closure that answers by an order computes it
pub answers_by : {F : Type 0} {g : Mut F (Bor Row × Unit {0}) Ordering} {f : F} (ord : Row → Ordering) →
    ((a : Bor Row × Unit {0}) (r : Ordering) (f' : F) → Called g f a r f' → (r ≡ ord a.0.now) × (f' ≡ f)) → ComputesKey g ord f
answers_by {g = g} {f = f} ord answers = always_returns_same g (λ a r. r ≡ ord a.0.now) f answers

-- a row among rows that rise has what these have under its key
pub sums_at-own : (rows : List Row) → RowsRise rows → (row : Row) (k : ℕ) → k < length rows → get_or rows k row ≡ row → sums_at rows row.key ≡ row.sums
sums_at-own rows rise row k low is =
    sums_at-found row.key rows rise ∙ ap (λ o. unwrap_or (option_map (λ (r : Row). r.sums) o) (sums_together [])) (found_at-own rows rise row k low is)

module _ (rows : List Row) (key : TableKey) where
  order_at-row : (place : ℕ) (d : Row) → place < length rows → order_at rows place key ≡ key_cmp (get_or rows place d).key key
  order_at-row place d low = ap (λ o. option_map_or (λ (row : Row). key_cmp row.key key) o Greater) (slice_get-get_or rows place d low)

  -- a place of which the key isn't greater is that of a row
  order_at-within : (place : ℕ) → (order_at rows place key ≡ Greater → ⊥) → place < length rows
  order_at-within place ungreater = by (slice_get rows place) refl
    where
      by : (o : Option Row) → slice_get rows place ≡ o → place < length rows
      by None at = absurd (ungreater (ap (λ o. option_map_or (λ (row : Row). key_cmp row.key key) o Greater) at))
      by (Some row) at = slice_get_within rows place row at

  before-less : (place : ℕ) → 0 < place → is_behind rows place key ≡ true → order_at rows (place - 1) key ≡ Less
  before-less place some behind = by (place == 0) (order_at rows (place - 1) key) (grind (arith, some)) behind
    where
      by : (first : Bool) (o : Ordering) → first ≡ false → (first || is_lt o) ≡ true → o ≡ Less
      by true o other h = cc
      by false Less other h = refl
      by false Equal other h = cc
      by false Greater other h = cc

  module _ (rise : RowsRise rows) where
    -- where the key at a place is this one, its row is found
    pub found_at-place : (place : ℕ) (row : Row) → row ≡ get_or rows place row → order_at rows place key ≡ Equal → Some row ≡ found_at rows key
    found_at-place place row is equal =
        let low = order_at-within place (λ greater. let clash : Equal ≡ Greater = sym equal ∙ greater in cc) in
        let same : row.key ≡ key = key_cmp-same row.key key (ap (λ (r : Row). key_cmp r.key key) is ∙ sym (order_at-row place row low) ∙ equal) in
        sym (found_at-own rows rise row place low (sym is)) ∙ ap (found_at rows) same

    not_equal : (o : Ordering) → (ordering_index o ≡ 1 → ⊥) → is_eq o ≡ false
    not_equal Less unequal = refl
    not_equal Equal unequal = absurd (unequal refl)
    not_equal Greater unequal = refl

    -- where the key at a place is greater, and the one before it is less, no row has it
    pub found_at-between : (place : ℕ) → order_at rows place key ≡ Greater → is_behind rows place key ≡ true → None ≡ found_at rows key
    found_at-between place greater behind = sym (found_at-none key rows (λ k d low. not_equal (key_cmp (get_or rows k d).key key) (elim (sides k place) [
      | inl below ↦ before k d below
      | inr above ↦ after k d above low
    ])))
      where
        sides : (k i : ℕ) → (k < i) ⊎ (i ≤ k)
        sides k i = search arith

        before : (k : ℕ) (d : Row) → k < place → ordering_index (key_cmp (get_or rows k d).key key) ≡ 1 → ⊥
        before k d below =
            let less = before-less place (omega (arith, below)) behind in
            let within = order_at-within (place - 1) (λ greater. let clash : Less ≡ Greater = sym less ∙ greater in cc) in
            let least : ordering_index (key_cmp (get_or rows (place - 1) d).key key) ≡ 0 = ap ordering_index (sym (order_at-row (place - 1) d within) ∙ less) in
            let none = searchable key rows rise k (place - 1) d (omega (arith, below)) within in
            λ one. omega (arith, least, none, one)

        after : (k : ℕ) (d : Row) → place ≤ k → k < length rows → ordering_index (key_cmp (get_or rows k d).key key) ≡ 1 → ⊥
        after k d above low =
            let within : place < length rows = omega (arith, above, low) in
            let greatest : ordering_index (key_cmp (get_or rows place d).key key) ≡ 2 = ap ordering_index (sym (order_at-row place d within) ∙ greater) in
            let more = searchable key rows rise place k d above low in
            λ one. omega (arith, greatest, more, one)
