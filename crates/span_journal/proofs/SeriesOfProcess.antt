-- The series of one process are those of the counter events of that process.
use Rattle.std.specs.{Cmp.int_cmp_total, FinMap.int_cmp-IsAntisymmetric, List.cons_option, Ordering.{int_cmp, int_eq, is_eq, ordering_then}, Prelude.{filter, filter_map, flat_map, option_and_then, if◌then◌else◌}, declared.cmp.Ordering.{Ordering, TheVariants.{Less, Equal, Greater}}}
use Rattle.std.proofs.{Common.{◌≡◌, ℤ, List, [], ◌∷◌, ◌++◌, map, Bool, true, false, cond, Option, Some, None, refl, sym, ap, ap₂, ◌∙◌}, lemmas.List.Elements.filter-append}
use Rattle.span_keyed_tracks.proofs.{Keyed.same_from_is_eq, Orders.{series_cmp-same, series_cmp-total}}
use Rattle.span_journal.specs.{Event, value_of, SeriesRow, SeriesKey, Series, as_sample, sample_of, samples_of, series_cmp, series_from, series_key, series_keys, series_of, series_row, series_rows, series_rows_of, ascending, entry_of}
use Rattle.span_journal.proofs.Selected.{filter-ascending}

pub map-filter : {A B : Type 0} (p : A → Bool) (f g : A → B) → ((x : A) → p x ≡ true → f x ≡ g x) → (xs : List A) → map f (filter p xs) ≡ map g (filter p xs)
map-filter p f g same [] = refl
map-filter {A = A} {B = B} p f g same (x ∷ xs) = by (p x) refl (map-filter p f g same xs)
  where
    by : (b : Bool) → p x ≡ b → map f (filter p xs) ≡ map g (filter p xs) → map f (cond b (x ∷ filter p xs) (filter p xs)) ≡ map g (cond b (x ∷ filter p xs) (filter p xs))
    by true e rest = ap₂ (λ y ys. y ∷ ys) (same x e) rest
    by false e rest = rest

-- elements that are all selected, or none of them
filter-map : {A B : Type 0} (p : B → Bool) (f : A → B) (b : Bool) → ((x : A) → p (f x) ≡ b) → (xs : List A) → filter p (map f xs) ≡ cond b (map f xs) []
filter-map p f true each [] = refl
filter-map p f false each [] = refl
filter-map p f true each (x ∷ xs) = ap (λ b. cond b (f x ∷ filter p (map f xs)) (filter p (map f xs))) (each x) ∙ ap (λ ys. f x ∷ ys) (filter-map p f true each xs)
filter-map p f false each (x ∷ xs) = ap (λ b. cond b (f x ∷ filter p (map f xs)) (filter p (map f xs))) (each x) ∙ filter-map p f false each xs

module _ (pid : ℤ) where
  is_key_in : SeriesKey → Bool
  is_key_in key = int_eq key.pid pid

  is_event_in : Event → Bool
  is_event_in e = int_eq e.pid pid

  is_row_in : SeriesRow → Bool
  is_row_in row = int_eq row.key.pid pid

  filter-row : (k : SeriesKey) (o : Option Series) (rest : List SeriesRow) → filter is_row_in (cons_option (series_row (k, o)) rest) ≡ cond (is_key_in k) (cons_option (series_row (k, o)) (filter is_row_in rest)) (filter is_row_in rest)
  unfolding is_row_in is_key_in
  filter-row k None rest = elim (int_eq k.pid pid) as (λ b. filter is_row_in rest ≡ cond b (filter is_row_in rest) (filter is_row_in rest)) [ true ↦ refl | false ↦ refl ]
  filter-row k (Some s) rest = refl

  -- rows are selected by their keys
  filter-rows : (f : SeriesKey → Option Series) (ks : List SeriesKey) → filter is_row_in (filter_map series_row (map (entry_of f) ks)) ≡ filter_map series_row (map (entry_of f) (filter is_key_in ks))
  filter-rows f [] = refl
  filter-rows f (k ∷ ks) =
      filter-row k (f k) (filter_map series_row (map (entry_of f) ks))
      ∙ ap (λ rest. cond (is_key_in k) (cons_option (series_row (k, f k)) rest) rest) (filter-rows f ks)
      ∙ (elim (is_key_in k) as (λ b. cond b (cons_option (series_row (k, f k)) (filter_map series_row (map (entry_of f) (filter is_key_in ks)))) (filter_map series_row (map (entry_of f) (filter is_key_in ks)))
      ≡ filter_map series_row (map (entry_of f) (cond b (k ∷ filter is_key_in ks) (filter is_key_in ks)))) [ true ↦ refl | false ↦ refl ])

  -- the keys of a process are those of its events
  filter-keys : (es : List Event) → filter is_key_in (flat_map series_keys es) ≡ flat_map series_keys (filter is_event_in es)
  unfolding is_key_in is_event_in
  filter-keys [] = refl
  filter-keys (e ∷ es) =
      filter-append is_key_in (series_keys e) (flat_map series_keys es)
      ∙ ap₂ (λ xs ys. xs ++ ys) (filter-map is_key_in (λ p. series_key e p.0) (int_eq e.pid pid) (λ p. refl) e.args) (filter-keys es)
      ∙ (elim (int_eq e.pid pid) as (λ b. cond b (series_keys e) [] ++ flat_map series_keys (filter is_event_in es) ≡ flat_map series_keys (cond b (e ∷ filter is_event_in es) (filter is_event_in es))) [ true ↦ refl | false ↦ refl ])

  is_eq-then : (r s : Ordering) → is_eq r ≡ false → is_eq (ordering_then r s) ≡ false
  is_eq-then Less s h = refl
  is_eq-then Equal s h = absurd cc
  is_eq-then Greater s h = refl

  -- an event of another process has no sample of the key
  sample_of-other : (key : SeriesKey) (e : Event) → is_key_in key ≡ true → is_event_in e ≡ false → sample_of key e ≡ None
  unfolding is_key_in is_event_in
  sample_of-other key e own other =
      let same : key.pid ≡ pid = same_from_is_eq int_cmp_total int_cmp-IsAntisymmetric key.pid pid own in
      let apart : is_eq (int_cmp e.pid key.pid) ≡ false = ap (λ p. is_eq (int_cmp e.pid p)) same ∙ other in
      ap (λ b. if b then option_and_then (as_sample e.ts) (value_of key.series e.args) else None) (is_eq-then (int_cmp e.pid key.pid) _ apart)

  -- the samples of a key of the process are those of the events of the process
  samples_of-filter : (key : SeriesKey) → is_key_in key ≡ true → (es : List Event) → samples_of key (filter is_event_in es) ≡ samples_of key es
  samples_of-filter key own [] = refl
  samples_of-filter key own (e ∷ es) = by (is_event_in e) refl (samples_of-filter key own es)
    where
      by : (b : Bool) → is_event_in e ≡ b → samples_of key (filter is_event_in es) ≡ samples_of key es → samples_of key (cond b (e ∷ filter is_event_in es) (filter is_event_in es)) ≡ cons_option (sample_of key e) (samples_of key es)
      by true h rest = ap (cons_option (sample_of key e)) rest
      by false h rest = rest ∙ ap (λ o. cons_option o (samples_of key es)) (sym (sample_of-other key e own h))

  -- the rows of a process are those of its events
  pub filter-series_rows : (es : List Event) → filter (λ (row : SeriesRow). int_eq row.key.pid pid) (series_rows es) ≡ series_rows_of pid es
  unfolding is_key_in is_event_in is_row_in
  filter-series_rows es =
      let own = filter is_event_in es in
      filter-rows (series_from es) (ascending series_cmp (flat_map series_keys es))
      ∙ ap (filter_map series_row) (map-filter is_key_in (entry_of (series_from es)) (entry_of (series_from own)) (λ (k : SeriesKey) (h : is_key_in k ≡ true). ap (λ s. (k, series_of s)) (sym (samples_of-filter k h es))) (ascending series_cmp (flat_map series_keys es)))
      ∙ ap (λ ks. filter_map series_row (map (entry_of (series_from own)) ks))
      (filter-ascending series_cmp-total is_key_in (λ (a b : SeriesKey) (e : series_cmp a b ≡ Equal). ap is_key_in (series_cmp-same a b e)) (flat_map series_keys es) ∙ ap (ascending series_cmp) (filter-keys es))
