-- What is kept of series, and how it changes with a counter event.
use Rattle.std.specs.{BTreeMap.{insert_entry, is_at}, Cmp.{both_tied, Lexicographic.texts_ties}, Map.{keys_of, lookup}, Option.{option_cmp, option_eq}, Ordering.{eq_by_cmp, int_cmp, int_eq, is_eq, match_ordering, ordering_then}, Prelude.{unwrap_or, fold, filter_map, flat_map}, declared.cmp.Ordering.{Ordering, TheVariants.{Less, Equal, Greater}}}
use Rattle.std.proofs.Common.{ℕ, position, ◌≡◌, ◌-◌, ◌<◌, ◌^◌, ℤ, pos, List, [], ◌∷◌, ◌++◌, Bool, true, false, cond, Option, Some, None, refl, sym, ap, subst, ◌∙◌, arith, map, append-nil, append_assoc}
use Rattle.indexmap.specs.IndexMap.{insert_all, insert_entry as put_entry, set_value_at}
use Rattle.indexmap.proofs.MapLemmas.{Found-position, insert_entry-first}
use Rattle.span_names.proofs.Places.{position-front}
use Rattle.span_keyed_tracks.specs.{ArgValue, Event, as_whole, Nil, Flag, Whole, Words, Other, AllWhole, Arguments, IsInNameOrder, IdKey, id_cmp, same_id, Bytes, text_cmp, Counters.{Sample, Series, CounterStandsFor, TakesCounter, HasCounterRoom, series_cmp, series_key, series_keys, series_from, series_of, samples_of, series_row, series_rows}, CountersKept.{ArePlaced, IsPlaced, found_at, kept_row, kept_series, same_numbered, same_series, samples_before, with_sample}, Keyed.kept_at, Uses.first_uses, declared.{counter_track.counter.NumberedSeries.NumberedSeries, keys.SeriesKey.SeriesKey}}
use Rattle.span_keyed_tracks.proofs.{Counters.{with_args, kept_at-CounterStandsFor, samples-before, samples_before-series_of, length-samples_of, uses_in-member, uses_in-no_member, value_of-in_order}, Keyed.keys_of-made, Orders.{series_cmp-total, series_cmp-same}, Uses.{AreApart, AreApart-fold, first_uses-ascending}}

option_eq-is_eq : {K : Type 0} (eq : K → K → Bool) (cmp : K → K → Ordering) → ((x y : K) → eq x y ≡ is_eq (cmp x y)) → (p q : Option K) → option_eq eq p q ≡ is_eq (option_cmp cmp p q)
option_eq-is_eq eq cmp each None None = refl
option_eq-is_eq eq cmp each None (Some y) = refl
option_eq-is_eq eq cmp each (Some x) None = refl
option_eq-is_eq eq cmp each (Some x) (Some y) = each x y

same_id-is_eq : (a b : IdKey) → same_id a b ≡ is_eq (id_cmp a b)
same_id-is_eq a b = both_tied _ _ (option_cmp int_cmp a.home b.home) (text_cmp a.id b.id) (option_eq-is_eq int_eq int_cmp (λ x y. refl) a.home b.home) (texts_ties a.id b.id)

-- fields are the same just where the order doesn't distinguish keys
pub same_series-is_eq : (a b : SeriesKey) → same_series a b ≡ is_eq (series_cmp a b)
same_series-is_eq a b =
    both_tied _ _ (int_cmp a.pid b.pid) (ordering_then (text_cmp a.name b.name) (ordering_then (option_cmp id_cmp a.id b.id) (text_cmp a.series b.series))) refl
    (both_tied _ _ (text_cmp a.name b.name) (ordering_then (option_cmp id_cmp a.id b.id) (text_cmp a.series b.series)) (texts_ties a.name b.name)
    (both_tied _ _ (option_cmp id_cmp a.id b.id) (text_cmp a.series b.series) (option_eq-is_eq same_id id_cmp same_id-is_eq a.id b.id) (texts_ties a.series b.series)))

-- what is kept at a key is what is found there
kept_at-kept_series : (entries : List (SeriesKey × Series)) (key : SeriesKey) → kept_at series_cmp None (kept_series entries) key ≡ found_at entries key
kept_at-kept_series [] key = refl
kept_at-kept_series (e ∷ es) key =
    elim (is_eq (series_cmp key e.0)) as (λ b. unwrap_or (cond b (Some (Some e.1)) (lookup (is_at (series_cmp key)) (kept_series es))) None ≡ cond b (Some e.1) (found_at es key)) [ true ↦ refl | false ↦ kept_at-kept_series es key ]
    ∙ ap (λ b. cond b (Some e.1) (found_at es key)) (sym (same_series-is_eq key e.0))

-- what is found of a series is what its samples give
pub found_at-is : (entries : List (SeriesKey × Series)) (es : List Event) (key : SeriesKey) → CounterStandsFor (kept_series entries) es → found_at entries key ≡ series_from es key
found_at-is entries es key stands = sym (kept_at-kept_series entries key) ∙ kept_at-CounterStandsFor (kept_series entries) es key stands

-- there is room for the number of one more sample
pub samples_before-found_at : (entries : List (SeriesKey × Series)) (key : SeriesKey) → HasCounterRoom (kept_series entries) → samples_before (found_at entries key) < 2 ^ 32 - 1
samples_before-found_at entries key room =
    let all = ap samples_before (found_at-is entries room.events key room.stands) ∙ samples_before-series_of (samples_of key room.events) in
    omega (arith, all, length-samples_of key room.events, room.few)

kept_series-put_entry : (entries : List (SeriesKey × Series)) (key : SeriesKey) (v : Series) → kept_series (put_entry same_series entries key v) ≡ put_entry (eq_by_cmp series_cmp) (kept_series entries) key (Some v)
kept_series-put_entry [] key v = refl
kept_series-put_entry (e ∷ es) key v =
    ap (λ b. kept_series (cond b ((e.0, v) ∷ es) (e ∷ put_entry same_series es key v))) (same_series-is_eq key e.0)
    ∙ elim (is_eq (series_cmp key e.0)) as (λ b. kept_series (cond b ((e.0, v) ∷ es) (e ∷ put_entry same_series es key v)) ≡ cond b ((e.0, Some v) ∷ kept_series es) ((e.0, Some e.1) ∷ put_entry (eq_by_cmp series_cmp) (kept_series es) key (Some v)))
    [ true ↦ refl | false ↦ ap (λ l. (e.0, Some e.1) ∷ l) (kept_series-put_entry es key v) ]

-- what is written at the place of a key is put at the key
pub put_entry-placed : (entries : List (NumberedSeries × Series)) (key : NumberedSeries) (v : Series) (i : ℕ) → position (same_numbered key) (keys_of entries) ≡ Some i → put_entry same_numbered entries key v ≡ set_value_at entries i v
put_entry-placed entries key v i placed = insert_entry-first same_numbered key v entries i (Found-position (same_numbered key) entries i placed).first

keys_of-put_entry : (entries : List (NumberedSeries × Series)) (key : NumberedSeries) (v : Series) → (more : List NumberedSeries) × (keys_of (put_entry same_numbered entries key v) ≡ keys_of entries ++ more)
keys_of-put_entry [] key v = (key ∷ [], refl)
keys_of-put_entry (e ∷ es) key v = by (same_numbered key e.0) (keys_of-put_entry es key v)
  where
    by : (b : Bool) → ((more : List NumberedSeries) × (keys_of (put_entry same_numbered es key v) ≡ keys_of es ++ more)) → (more : List NumberedSeries) × (keys_of (cond b ((e.0, v) ∷ es) (e ∷ put_entry same_numbered es key v)) ≡ e.0 ∷ keys_of es ++ more)
    by true rest = ([], ap (λ l. e.0 ∷ l) (sym (append-nil (keys_of es))))
    by false rest = (rest.0, ap (λ l. e.0 ∷ l) rest.1)

-- keys keep their places when an entry is put
pub ArePlaced-put : (entries : List (NumberedSeries × Series)) (key : NumberedSeries) (v : Series) (next : List (Option ℕ × NumberedSeries × Series)) → ArePlaced entries next → ArePlaced (put_entry same_numbered entries key v) next
ArePlaced-put entries key v [] placed = tt
ArePlaced-put entries key v (n ∷ ns) placed = (by n.0 placed.0, ArePlaced-put entries key v ns placed.1)
  where
    by : (place : Option ℕ) → IsPlaced entries place n.1 → IsPlaced (put_entry same_numbered entries key v) place n.1
    by None placed = tt
    by (Some i) placed =
        let keys = keys_of-put_entry entries key v in
        subst (λ ks. position (same_numbered n.1) ks ≡ Some i) (sym keys.1) (position-front (same_numbered n.1) (keys_of entries) keys.0 i placed)

pub ArePlaced-push : (entries : List (NumberedSeries × Series)) (next : List (Option ℕ × NumberedSeries × Series)) (n : Option ℕ × NumberedSeries × Series) → ArePlaced entries next → IsPlaced entries n.0 n.1 → ArePlaced entries (next ++ n ∷ [])
ArePlaced-push entries [] n placed one = (one, tt)
ArePlaced-push entries (x ∷ xs) n placed one = (placed.0, ArePlaced-push entries xs n placed.1 one)

-- a series of an event's counter, once it has the event's value of it
abbrev pub next_series : List (SeriesKey × Series) → Event → Bytes × ArgValue → SeriesKey × Series
next_series entries event member = (series_key event member.0, with_sample (found_at entries (series_key event member.0)) (record { ts = event.ts; value = unwrap_or (as_whole member.1) (pos 0) }))

module _ (entries : List (SeriesKey × Series)) (event : Event) (es : List Event) (stands : CounterStandsFor (kept_series entries) es) where
  -- one more value of the event is put where those before it were
  CounterStandsFor-put : (done rest : Arguments) (name : Bytes) (value : ℤ) (m : List (SeriesKey × Series)) → IsInNameOrder (done ++ (name, Whole value) ∷ rest) →
      CounterStandsFor (kept_series m) (es ++ with_args event done ∷ []) →
      CounterStandsFor (kept_series (put_entry same_series m (series_key event name) (next_series entries event (name, Whole value)).1)) (es ++ with_args event (done ++ (name, Whole value) ∷ []) ∷ [])
  CounterStandsFor-put done rest name value m in_order so_far =
      let new = value_of-in_order done (name, Whole value) rest in_order in
      let before = es ++ with_args event done ∷ [] in
      let found : found_at entries (series_key event name) ≡ series_from before (series_key event name) =
      found_at-is entries es (series_key event name) stands ∙ sym (ap series_of (samples-before event done name value new es)) in
      let sample : Sample = record { ts = event.ts; value = value } in
      kept_series-put_entry m (series_key event name) (next_series entries event (name, Whole value)).1
      ∙ ap (λ o. put_entry (eq_by_cmp series_cmp) (kept_series m) (series_key event name) (Some (with_sample o sample))) found
      ∙ uses_in-member event done name value new es (kept_series m) so_far

  -- all values of the event are put, one after another
  CounterStandsFor-all : (done rest : Arguments) (m : List (SeriesKey × Series)) → IsInNameOrder (done ++ rest) → AllWhole rest → CounterStandsFor (kept_series m) (es ++ with_args event done ∷ []) →
      CounterStandsFor (kept_series (insert_all same_series m (map (next_series entries event) rest))) (es ++ with_args event (done ++ rest) ∷ [])
  CounterStandsFor-all done [] m in_order whole so_far = subst (λ ms. CounterStandsFor (kept_series m) (es ++ with_args event ms ∷ [])) (sym (append-nil done)) so_far
  CounterStandsFor-all done ((name, Nil) ∷ rest) m in_order whole so_far = absurd cc
  CounterStandsFor-all done ((name, Flag b) ∷ rest) m in_order whole so_far = absurd cc
  CounterStandsFor-all done ((name, Words w) ∷ rest) m in_order whole so_far = absurd cc
  CounterStandsFor-all done ((name, Other) ∷ rest) m in_order whole so_far = absurd cc
  CounterStandsFor-all done ((name, Whole value) ∷ rest) m in_order whole so_far =
      let next = put_entry same_series m (series_key event name) (next_series entries event (name, Whole value)).1 in
      let moved : done ++ (name, Whole value) ∷ rest ≡ (done ++ (name, Whole value) ∷ []) ++ rest = sym (append_assoc done ((name, Whole value) ∷ []) rest) in
      subst (λ ms. CounterStandsFor (kept_series (insert_all same_series next (map (next_series entries event) rest))) (es ++ with_args event ms ∷ [])) (sym moved)
      (CounterStandsFor-all (done ++ (name, Whole value) ∷ []) rest next (subst IsInNameOrder moved in_order) whole.1 (CounterStandsFor-put done rest name value m in_order so_far))

-- the event is taken once each of its values is put
pub TakesCounter-all : (entries : List (SeriesKey × Series)) (event : Event) → IsInNameOrder event.args → AllWhole event.args →
    TakesCounter (kept_series entries) (kept_series (insert_all same_series entries (map (next_series entries event) event.args))) event
TakesCounter-all entries event in_order whole = λ es stands.
    CounterStandsFor-all entries event es stands [] event.args entries in_order whole (stands ∙ sym (uses_in-no_member event es))

kept_series-insert_entry : (m : List (SeriesKey × Series)) (key : SeriesKey) (v : Series) → kept_series (insert_entry series_cmp m key v) ≡ insert_entry series_cmp (kept_series m) key (Some v)
kept_series-insert_entry [] key v = refl
kept_series-insert_entry (e ∷ es) key v =
    elim (series_cmp key e.0) as (λ r. kept_series (match_ordering r ((key, v) ∷ e ∷ es) ((e.0, v) ∷ es) (e ∷ insert_entry series_cmp es key v))
    ≡ match_ordering r ((key, Some v) ∷ (e.0, Some e.1) ∷ kept_series es) ((e.0, Some v) ∷ kept_series es) ((e.0, Some e.1) ∷ insert_entry series_cmp (kept_series es) key (Some v)))
    [ Less ↦ refl | Equal ↦ refl | Greater ↦ ap (λ l. (e.0, Some e.1) ∷ l) (kept_series-insert_entry es key v) ]

kept_series-fold : (m es : List (SeriesKey × Series)) → kept_series (fold (λ m e. insert_entry series_cmp m e.0 e.1) m es) ≡ fold (λ m e. insert_entry series_cmp m e.0 e.1) (kept_series m) (kept_series es)
kept_series-fold m [] = refl
kept_series-fold m (e ∷ es) = kept_series-fold (insert_entry series_cmp m e.0 e.1) es ∙ ap (λ l. fold (λ m e. insert_entry series_cmp m e.0 e.1) l (kept_series es)) (kept_series-insert_entry m e.0 e.1)

rows-kept_series : (entries : List (SeriesKey × Series)) → filter_map series_row (kept_series entries) ≡ map kept_row entries
rows-kept_series [] = refl
rows-kept_series (e ∷ es) = ap (λ l. kept_row e ∷ l) (rows-kept_series es)

-- the rows of what is kept, put in the order of keys, are those of the events
pub rows-ascending : (entries : List (SeriesKey × Series)) (es : List Event) → CounterStandsFor (kept_series entries) es → map kept_row (fold (λ m e. insert_entry series_cmp m e.0 e.1) [] entries) ≡ series_rows es
rows-ascending entries es stands =
    sym (rows-kept_series (fold (λ m e. insert_entry series_cmp m e.0 e.1) [] entries))
    ∙ ap (filter_map series_row)
    (kept_series-fold [] entries ∙ ap (fold (λ m e. insert_entry series_cmp m e.0 e.1) []) stands ∙ first_uses-ascending series_cmp-total series_cmp-same (series_from es) (flat_map series_keys es))

keys_of-kept_series : (entries : List (SeriesKey × Series)) → keys_of entries ≡ keys_of (kept_series entries)
keys_of-kept_series [] = refl
keys_of-kept_series (e ∷ es) = ap (λ l. e.0 ∷ l) (keys_of-kept_series es)

-- the keys of what is kept are apart
pub AreApart-kept : (entries : List (SeriesKey × Series)) (es : List Event) → CounterStandsFor (kept_series entries) es → AreApart series_cmp-total (keys_of entries)
AreApart-kept entries es stands =
    let keys = flat_map series_keys es in
    subst (AreApart series_cmp-total) (sym (keys_of-kept_series entries ∙ ap keys_of stands ∙ keys_of-made (series_from es) (first_uses series_cmp keys))) (AreApart-fold series_cmp-total [] keys tt)
