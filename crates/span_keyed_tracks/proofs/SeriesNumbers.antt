-- Series under the numbers of their counters, and under their keys.
use Rattle.std.specs.{Cmp.{IsEquivalence, and_equiv, int_eq_equiv, on_equiv, Lexicographic.{nat_list_eq_equiv, options_equiv}}, List.{IsDistinct, position_or_len, list_any}, Map.lookup, Option.option_eq, Ordering.int_eq, Prelude.{◌&&◌, nat_eq, unwrap_or}}
use Rattle.std.proofs.{Common.{ℕ, suc, pos, position, ◌≡◌, ◌||◌, ◌+◌, ◌-◌, ◌<◌, ◌^◌, List, [], ◌∷◌, ◌++◌, Bool, true, false, not, cond, nat_lt, Some, None, length, length-append, refl, sym, ap, ap₂, subst, ◌∙◌, arith, map}, lemmas.{Bool.{eqb-true, eq-eqb}, List.{get_or_append_left, Folds.list_any_at, Quantifiers.position-Some}, Map.Keys.IsDistinct-push, Option.same_Some}}
use Rattle.indexmap.specs.{IndexMap.{insert_all, insert_entry as put_entry}, IndexSet.insert_key as add_key}
use Rattle.span_names.proofs.Places.{list_any-None, position-IsDistinct, position_or_len-None}
use Rattle.span_keyed_tracks.specs.{AllWhole, Arguments, Event, IsInNameOrder, as_whole, same_id, same_text, Counters.{HasCounterRoom, Sample, Series, TakesCounter, series_key}, CountersKept.{AreNumbered, HasRoomIn, HaveCounters, counter_at, counter_of, counter_of_key, found_at, kept_series, key_at, key_of, named, next_entry, same_counter, same_numbered, same_series, samples_before, with_sample}, declared.{counter_track.counter.{Counter.Counter, NumberedSeries.NumberedSeries}, keys.SeriesKey.SeriesKey}}
use Rattle.span_keyed_tracks.proofs.{Keyed.same_from_is_eq, Orders.{series_cmp-total, series_cmp-same}, SeriesKept.{TakesCounter-all, next_series, same_series-is_eq, samples_before-found_at}}

same_counter-equiv : IsEquivalence same_counter
same_counter-equiv =
    and_equiv (on_equiv (λ c. c.pid) int_eq_equiv)
    (and_equiv (on_equiv (λ c. c.name) nat_list_eq_equiv)
    (on_equiv (λ c. c.id) (options_equiv (and_equiv (on_equiv (λ i. i.home) (options_equiv int_eq_equiv)) (on_equiv (λ i. i.id) nat_list_eq_equiv)))))

-- the last of four is told beside the first three
beside : (a b c d : Bool) → (a && (b && c)) && d ≡ a && (b && (c && d))
beside true true c d = refl
beside true false c d = refl
beside false b c d = refl

module _ (counters : List Counter) (distinct : IsDistinct same_counter counters) where
  -- counters have the same number just where they are the same
  nat_eq-counter_at : (i j : ℕ) → i < length counters → j < length counters → nat_eq i j ≡ same_counter (counter_at counters i) (counter_at counters j)
  nat_eq-counter_at i j i_within j_within = by (same_counter (counter_at counters i) (counter_at counters j)) refl
    where
      one : Counter
      one = counter_at counters j

      by : (b : Bool) → same_counter (counter_at counters i) one ≡ b → nat_eq i j ≡ b
      by true same =
          let here = position-IsDistinct same_counter same_counter-equiv counters i _ one distinct i_within same in
          let there = position-IsDistinct same_counter same_counter-equiv counters j _ one distinct j_within (same_counter-equiv.refl one) in
          eq-eqb i j (same_Some i j (sym here ∙ there))
      by false apart = by_number (nat_eq i j) refl
        where
          by_number : (b : Bool) → nat_eq i j ≡ b → b ≡ false
          by_number false e = refl
          by_number true e = sym (same_counter-equiv.refl one) ∙ ap (λ n. same_counter (counter_at counters n) one) (sym (eqb-true i j e)) ∙ apart

  same_numbered-key_at : (a b : NumberedSeries) → a.counter < length counters → b.counter < length counters → same_numbered a b ≡ same_series (key_at counters a) (key_at counters b)
  same_numbered-key_at a b a_within b_within =
      let x = counter_at counters a.counter in
      let y = counter_at counters b.counter in
      ap (λ same. same && same_text a.series b.series) (nat_eq-counter_at a.counter b.counter a_within b_within)
      ∙ beside (int_eq x.pid y.pid) (same_text x.name y.name) (option_eq same_id x.id y.id) (same_text a.series b.series)

  -- what is found by a number is what is found at the key
  pub found_at-named : (entries : List (NumberedSeries × Series)) (key : NumberedSeries) → HaveCounters counters entries → key.counter < length counters → lookup (same_numbered key) entries ≡ found_at (named counters entries) (key_at counters key)
  found_at-named [] key have within = refl
  found_at-named (e ∷ es) key have within = ap₂ (λ b o. cond b (Some e.1) o) (same_numbered-key_at key e.0 within have.0) (found_at-named es key have.1 within)

  named-put_entry : (entries : List (NumberedSeries × Series)) (key : NumberedSeries) (v : Series) → HaveCounters counters entries → key.counter < length counters →
      named counters (put_entry same_numbered entries key v) ≡ put_entry same_series (named counters entries) (key_at counters key) v
  named-put_entry [] key v have within = refl
  named-put_entry (e ∷ es) key v have within =
      ap (λ b. named counters (cond b ((e.0, v) ∷ es) (e ∷ put_entry same_numbered es key v))) (same_numbered-key_at key e.0 within have.0)
      ∙ elim (same_series (key_at counters key) (key_at counters e.0)) as (λ b. named counters (cond b ((e.0, v) ∷ es) (e ∷ put_entry same_numbered es key v)) ≡ cond b ((key_at counters e.0, v) ∷ named counters es) ((key_at counters e.0, e.1) ∷ put_entry same_series (named counters es) (key_at counters key) v))
      [ true ↦ refl | false ↦ ap (λ l. (key_at counters e.0, e.1) ∷ l) (named-put_entry es key v have.1 within) ]

  HaveCounters-put_entry : (entries : List (NumberedSeries × Series)) (key : NumberedSeries) (v : Series) → HaveCounters counters entries → key.counter < length counters → HaveCounters counters (put_entry same_numbered entries key v)
  HaveCounters-put_entry [] key v have within = (within, tt)
  HaveCounters-put_entry (e ∷ es) key v have within = by (same_numbered key e.0) (HaveCounters-put_entry es key v have.1 within)
    where
      by : (b : Bool) → HaveCounters counters (put_entry same_numbered es key v) → HaveCounters counters (cond b ((e.0, v) ∷ es) (e ∷ put_entry same_numbered es key v))
      by true rest = have
      by false rest = (have.0, rest)

  named-insert_all : (entries more : List (NumberedSeries × Series)) → HaveCounters counters entries → HaveCounters counters more →
      named counters (insert_all same_numbered entries more) ≡ insert_all same_series (named counters entries) (named counters more)
  named-insert_all entries [] have all = refl
  named-insert_all entries (e ∷ es) have all =
      named-insert_all (put_entry same_numbered entries e.0 e.1) es (HaveCounters-put_entry entries e.0 e.1 have all.0) all.1
      ∙ ap (λ done. insert_all same_series done (named counters es)) (named-put_entry entries e.0 e.1 have all.0)

  HaveCounters-insert_all : (entries more : List (NumberedSeries × Series)) → HaveCounters counters entries → HaveCounters counters more → HaveCounters counters (insert_all same_numbered entries more)
  HaveCounters-insert_all entries [] have all = have
  HaveCounters-insert_all entries (e ∷ es) have all = HaveCounters-insert_all (put_entry same_numbered entries e.0 e.1) es (HaveCounters-put_entry entries e.0 e.1 have all.0) all.1

  module _ (entries : List (NumberedSeries × Series)) (have : HaveCounters counters entries) (number : ℕ) (within : number < length counters) where
    HaveCounters-next : (event : Event) (args : Arguments) → HaveCounters counters (map (next_entry entries number event) args)
    HaveCounters-next event [] = tt
    HaveCounters-next event (m ∷ ms) = (within, HaveCounters-next event ms)

    named-next : (event : Event) (args : Arguments) → counter_at counters number ≡ counter_of event → named counters (map (next_entry entries number event) args) ≡ map (next_series (named counters entries) event) args
    named-next event [] is = refl
    named-next event (m ∷ ms) is =
        let key : key_at counters (record { counter = number; series = m.0 }) ≡ series_key event m.0 = ap (λ c. key_of c m.0) is in
        let found = found_at-named entries (record { counter = number; series = m.0 }) have within ∙ ap (found_at (named counters entries)) key in
        let sample : Sample = record { ts = event.ts; value = unwrap_or (as_whole m.1) (pos 0) } in
        ap₂ (λ e l. e ∷ l) (ap₂ (λ k o. (k, with_sample o sample)) key found) (named-next event ms is)

-- counters with the same fields are one
same_counter-same : (a b : Counter) → same_counter a b ≡ true → a ≡ b
same_counter-same a b same =
    let fields = ap (λ c. c && true) same in
    let keys = same_from_is_eq series_cmp-total series_cmp-same (key_of a []) (key_of b []) (sym (same_series-is_eq (key_of a []) (key_of b [])) ∙ sym (beside (int_eq a.pid b.pid) (same_text a.name b.name) (option_eq same_id a.id b.id) true) ∙ fields) in
    ap counter_of_key keys

-- the counter at the place of one that is the same
pub counter_at-position : (counters : List Counter) (counter : Counter) (n : ℕ) → position (same_counter counter) counters ≡ Some n → (n < length counters) × (counter_at counters n ≡ counter)
counter_at-position counters counter n placed =
    let at = position-Some (same_counter counter) counters n _ placed in
    (at.0, sym (same_counter-same counter (counter_at counters n) at.1))

-- nothing is found of a counter without a number
pub found_at-absent : (counters : List Counter) (entries : List (NumberedSeries × Series)) (key : SeriesKey) → HaveCounters counters entries → position (same_counter (counter_of_key key)) counters ≡ None → found_at (named counters entries) key ≡ None
found_at-absent counters [] key have absent = refl
found_at-absent counters (e ∷ es) key have absent =
    let c = counter_of_key key in
    let at = counter_at counters e.0.counter in
    let apart : same_counter c at ≡ false = by (same_counter c at) refl in
    let other : same_series key (key_at counters e.0) ≡ false =
    sym (beside (int_eq c.pid at.pid) (same_text c.name at.name) (option_eq same_id c.id at.id) (same_text key.series e.0.series)) ∙ ap (λ b. b && same_text key.series e.0.series) apart in
    ap (λ b. cond b (Some e.1) (found_at (named counters es) key)) other ∙ found_at-absent counters es key have.1 absent
  where
    none : list_any (same_counter (counter_of_key key)) counters ≡ false
    none = list_any-None (same_counter (counter_of_key key)) counters (position_or_len-None (same_counter (counter_of_key key)) counters absent)

    by : (b : Bool) → same_counter (counter_of_key key) (counter_at counters e.0.counter) ≡ b → b ≡ false
    by false is = refl
    by true is = sym (list_any_at (same_counter (counter_of_key key)) counters e.0.counter _ have.0 is) ∙ none

module _ (counter : Counter) where
  -- the counters, once this one has a number
  abbrev grown : List Counter → List Counter
  grown counters = add_key same_counter counters counter

  abbrev number_in : List Counter → ℕ
  number_in counters = position_or_len (same_counter counter) counters

  IsDistinct-grown : (counters : List Counter) → IsDistinct same_counter counters → IsDistinct same_counter (grown counters)
  IsDistinct-grown counters distinct = by (list_any (same_counter counter) counters) refl
    where
      by : (b : Bool) → list_any (same_counter counter) counters ≡ b → IsDistinct same_counter (cond b counters (counters ++ counter ∷ []))
      by true there = distinct
      by false none = IsDistinct-push same_counter-equiv counters counter distinct none

  length-grown : (counters : List Counter) (i : ℕ) → i < length counters → i < length (grown counters)
  length-grown counters i within = by (list_any (same_counter counter) counters)
    where
      by : (b : Bool) → i < length (cond b counters (counters ++ counter ∷ []))
      by true = within
      by false = omega (arith, within, length-append counters (counter ∷ []))

  counter_at-grown : (counters : List Counter) (i : ℕ) → i < length counters → counter_at (grown counters) i ≡ counter_at counters i
  counter_at-grown counters i within = by (list_any (same_counter counter) counters)
    where
      by : (b : Bool) → counter_at (cond b counters (counters ++ counter ∷ [])) i ≡ counter_at counters i
      by true = refl
      by false = get_or_append_left counters (counter ∷ []) _ i within

  named-grown : (counters : List Counter) (entries : List (NumberedSeries × Series)) → HaveCounters counters entries → named (grown counters) entries ≡ named counters entries
  named-grown counters [] have = refl
  named-grown counters (e ∷ es) have = ap₂ (λ c l. (key_of c e.0.series, e.1) ∷ l) (counter_at-grown counters e.0.counter have.0) (named-grown counters es have.1)

  HaveCounters-grown : (counters : List Counter) (entries : List (NumberedSeries × Series)) → HaveCounters counters entries → HaveCounters (grown counters) entries
  HaveCounters-grown counters [] have = tt
  HaveCounters-grown counters (e ∷ es) have = (length-grown counters e.0.counter have.0, HaveCounters-grown counters es have.1)

  -- the counter has its number
  counter_at-number : (counters : List Counter) → (number_in counters < length (grown counters)) × (counter_at (grown counters) (number_in counters) ≡ counter)
  counter_at-number [] = (omega arith, refl)
  counter_at-number (x ∷ xs) = by (same_counter counter x) refl (counter_at-number xs)
    where
      by : (b : Bool) → same_counter counter x ≡ b → (number_in xs < length (grown xs)) × (counter_at (grown xs) (number_in xs) ≡ counter) →
          (cond (not b) (1 + number_in xs) 0 < length (cond (b || list_any (same_counter counter) xs) (x ∷ xs) (x ∷ xs ++ counter ∷ [])))
          × (counter_at (cond (b || list_any (same_counter counter) xs) (x ∷ xs) (x ∷ xs ++ counter ∷ [])) (cond (not b) (1 + number_in xs) 0) ≡ counter)
      by true same rest = (omega arith, sym (same_counter-same counter x same))
      by false apart rest = later (list_any (same_counter counter) xs) rest
        where
          next : 1 + number_in xs ≡ suc (number_in xs)
          next = omega arith

          later : (b : Bool) → (number_in xs < length (cond b xs (xs ++ counter ∷ []))) × (counter_at (cond b xs (xs ++ counter ∷ [])) (number_in xs) ≡ counter) →
              (1 + number_in xs < length (cond b (x ∷ xs) (x ∷ xs ++ counter ∷ []))) × (counter_at (cond b (x ∷ xs) (x ∷ xs ++ counter ∷ [])) (1 + number_in xs) ≡ counter)
          later true rest = (omega (arith, rest.0), ap (counter_at (x ∷ xs)) next ∙ rest.1)
          later false rest = (omega (arith, rest.0), ap (counter_at (x ∷ xs ++ counter ∷ [])) next ∙ rest.1)

  -- a counter without a place gets the number of the next one
  pub number_in-place : (counters : List Counter) → unwrap_or (position (same_counter counter) counters) (length counters) ≡ number_in counters
  number_in-place counters = by (nat_lt (number_in counters) (length counters)) refl
    where
      by : (b : Bool) → nat_lt (number_in counters) (length counters) ≡ b → unwrap_or (cond b (Some (number_in counters)) None) (length counters) ≡ number_in counters
      by true within = refl
      by false all = sym (position_or_len-None (same_counter counter) counters (ap (λ b. cond b (Some (number_in counters)) None) all))

  module _ (counters : List Counter) (entries : List (NumberedSeries × Series)) (numbered : AreNumbered counters entries) (number : ℕ) (is : number ≡ number_in counters) where
    within : number < length (grown counters)
    within = omega (arith, is, (counter_at-number counters).0)

    distinct : IsDistinct same_counter (grown counters)
    distinct = IsDistinct-grown counters numbered.0

    have : HaveCounters (grown counters) entries
    have = HaveCounters-grown counters entries numbered.1

    -- where there is room for one more sample of each series, there is for those of the counter with the number
    pub HasRoomIn-grown : HasCounterRoom (kept_series (named counters entries)) → HasRoomIn entries number
    HasRoomIn-grown room = λ series.
        let key : NumberedSeries = record { counter = number; series = series } in
        let still = subst (λ es. HasCounterRoom (kept_series es)) (sym (named-grown counters entries numbered.1)) room in
        subst (λ o. samples_before o < 2 ^ 32 - 1) (sym (found_at-named (grown counters) distinct entries key have within)) (samples_before-found_at (named (grown counters) entries) (key_at (grown counters) key) still)

    module _ (event : Event) (of_event : counter ≡ counter_of event) where
      abbrev next : List (NumberedSeries × Series)
      next = map (next_entry entries number event) event.args

      -- the numbers of what is then kept are those of counters
      pub AreNumbered-grown : AreNumbered (grown counters) (insert_all same_numbered entries next)
      AreNumbered-grown = (distinct, HaveCounters-insert_all (grown counters) distinct entries next have (HaveCounters-next (grown counters) distinct entries have number within event event.args))

      -- the event is taken once its counter has a number, and each of its values is put by it
      pub TakesCounter-grown : IsInNameOrder event.args → AllWhole event.args → TakesCounter (kept_series (named counters entries)) (kept_series (named (grown counters) (insert_all same_numbered entries next))) event
      TakesCounter-grown in_order whole =
          let at : counter_at (grown counters) number ≡ counter_of event = ap (counter_at (grown counters)) is ∙ (counter_at-number counters).1 ∙ of_event in
          let keys = named-grown counters entries numbered.1 in
          let later = named-insert_all (grown counters) distinct entries next have (HaveCounters-next (grown counters) distinct entries have number within event event.args)
          ∙ ap₂ (λ es more. insert_all same_series es more) keys (named-next (grown counters) distinct entries have number within event event.args at ∙ ap (λ es. map (next_series es event) event.args) keys) in
          subst (λ es. TakesCounter (kept_series (named counters entries)) (kept_series es) event) (sym later) (TakesCounter-all (named counters entries) event in_order whole)
