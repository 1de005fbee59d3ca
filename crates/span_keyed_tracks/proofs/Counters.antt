-- What is kept of series, from one value of a counter event to the next.
use Rattle.std.specs.{BTreeMap.is_at, Cmp.{tied_itself, Lexicographic.{bytes_decides, nat_list_eq_equiv}}, Int.{int_min, int_max}, List.cons_option, Map.lookup, Ordering.{is_eq, int_eq, eq_by_cmp}, Prelude.{filter, flat_map, fold, int_lt, unwrap_or, option_and_then}, declared.cmp.Ordering.TheVariants.{Less, Equal}}
use Rattle.std.proofs.{Common.{◌≡◌, ℕ, suc, ◌+◌, ◌≤◌, ℤ, pos, List, [], ◌∷◌, ◌++◌, length, Bool, true, false, ◌||◌, cond, Option, Some, None, refl, sym, ap, ap₂, ◌∙◌, arith, map, append-nil, append_assoc, length-append}, lemmas.{Cmp.{nat_list_cmp_total, int_cmp_total}, Grind.flat_map-append, List.{map-append, Elements.{filter-append, filter_map-append}, Sums.fold-append}}}
use Rattle.indexmap.specs.IndexMap.{insert_entry as put_entry}
use Rattle.span_keyed_tracks.specs.{Event, ArgValue, Whole, value_of, IsInNameOrder, IsBelowAll, text_cmp, same_text, Counters.{Sample, Series, CountersKept, CounterStandsFor, series_cmp, series_key, series_keys, as_sample, sample_of, samples_of, latest_time, last_value_at, series_of, series_from}, CountersKept.{samples_before, with_sample}, Keyed.{entry_of, kept_at}, Last.last_of, Uses.{first_uses, uses_in}, declared.keys.SeriesKey.SeriesKey}
use Rattle.span_keyed_tracks.proofs.{Keyed.{has_key, neither, lookup-made}, Lists.Last.last_of-append, Orders.{series_cmp-total, series_cmp-same}, Uses.{first_uses-after, has_key-absent, is_eq-turned}}

latest_time-push : (first : Sample) (later : List Sample) (s : Sample) → latest_time first (later ++ s ∷ []) ≡ int_max (latest_time first later) s.ts
latest_time-push first later s = ap (fold int_max first.ts) (map-append (λ (x : Sample). x.ts) later (s ∷ [])) ∙ fold-append int_max first.ts (map (λ (x : Sample). x.ts) later) (s.ts ∷ [])

fold-values : (f : ℤ → ℤ → ℤ) (v : ℤ) (later : List Sample) (s : Sample) → fold f v (map (λ (x : Sample). x.value) (later ++ s ∷ [])) ≡ f (fold f v (map (λ (x : Sample). x.value) later)) s.value
fold-values f v later s = ap (fold f v) (map-append (λ (x : Sample). x.value) later (s ∷ [])) ∙ fold-append f v (map (λ (x : Sample). x.value) later) (s.value ∷ [])

values_at-push : (ts : ℤ) (samples : List Sample) (s : Sample) → map (λ (x : Sample). x.value) (filter (λ (x : Sample). int_eq x.ts ts) (samples ++ s ∷ [])) ≡ map (λ (x : Sample). x.value) (filter (λ (x : Sample). int_eq x.ts ts) samples) ++ cond (int_eq s.ts ts) (s.value ∷ []) []
values_at-push ts samples s =
    ap (map (λ (x : Sample). x.value)) (filter-append (λ (x : Sample). int_eq x.ts ts) samples (s ∷ []))
    ∙ map-append (λ (x : Sample). x.value) (filter (λ (x : Sample). int_eq x.ts ts) samples) (filter (λ (x : Sample). int_eq x.ts ts) (s ∷ []))
    ∙ ap (λ l. map (λ (x : Sample). x.value) (filter (λ (x : Sample). int_eq x.ts ts) samples) ++ l) (by (int_eq s.ts ts))
  where
    by : (b : Bool) → map (λ (x : Sample). x.value) (cond b (s ∷ []) []) ≡ cond b (s.value ∷ []) []
    by true = refl
    by false = refl

int_eq-itself : (a : ℤ) → int_eq a a ≡ true
int_eq-itself a = ap is_eq (tied_itself int_cmp_total a)

int_eq-lt : (a b : ℤ) → int_lt a b ≡ true → int_eq a b ≡ false
int_eq-lt a b h = rw h refl

-- the last value, where one more sample comes
last_value_at-push : (until : ℤ) (samples : List Sample) (s : Sample) → last_value_at (int_max until s.ts) (samples ++ s ∷ []) ≡ cond (int_lt s.ts until) (last_value_at until samples) s.value
last_value_at-push until samples s = by (int_lt s.ts until) refl
  where
    by : (b : Bool) → int_lt s.ts until ≡ b → last_value_at (cond b until s.ts) (samples ++ s ∷ []) ≡ cond b (last_value_at until samples) s.value
    by true h =
        ap (λ l. unwrap_or (last_of l) (pos 0)) (values_at-push until samples s
        ∙ ap (λ b. map (λ (x : Sample). x.value) (filter (λ (x : Sample). int_eq x.ts until) samples) ++ cond b (s.value ∷ []) []) (int_eq-lt s.ts until h)
        ∙ append-nil (map (λ (x : Sample). x.value) (filter (λ (x : Sample). int_eq x.ts until) samples)))
    by false h =
        ap (λ l. unwrap_or (last_of l) (pos 0)) (values_at-push s.ts samples s
        ∙ ap (λ b. map (λ (x : Sample). x.value) (filter (λ (x : Sample). int_eq x.ts s.ts) samples) ++ cond b (s.value ∷ []) []) (int_eq-itself s.ts))
        ∙ ap (λ o. unwrap_or o (pos 0)) (last_of-append (map (λ (x : Sample). x.value) (filter (λ (x : Sample). int_eq x.ts s.ts) samples)) s.value)

-- what the samples of a series give, once there is one more
pub series_of-push : (samples : List Sample) (s : Sample) → series_of (samples ++ s ∷ []) ≡ Some (with_sample (series_of samples) s)
series_of-push [] s =
    let last : last_value_at s.ts (s ∷ []) ≡ s.value = ap (λ b. unwrap_or (last_of (map (λ (x : Sample). x.value) (cond b (s ∷ []) []))) (pos 0)) (int_eq-itself s.ts) in
    ap (λ v. Some (record { totals = record { samples = 1; least = s.value; greatest = s.value; last = v }; latest = s.ts })) last
series_of-push (first ∷ later) s =
    let count : length (first ∷ later ++ s ∷ []) ≡ length (first ∷ later) + 1 = length-append (first ∷ later) (s ∷ []) in
    let least = fold-values int_min first.value later s in
    let greatest = fold-values int_max first.value later s in
    let latest = latest_time-push first later s in
    let last = ap (λ t. last_value_at t (first ∷ later ++ s ∷ [])) latest ∙ last_value_at-push (latest_time first later) (first ∷ later) s in
    λ i. Some (record { totals = record { samples = count i; least = least i; greatest = greatest i; last = last i }; latest = latest i })

-- how many samples a series has
pub samples_before-series_of : (samples : List Sample) → samples_before (series_of samples) ≡ length samples
samples_before-series_of [] = refl
samples_before-series_of (first ∷ later) = refl

value_of-push : (name : List ℕ) (ms : List (List ℕ × ArgValue)) (m : List ℕ × ArgValue) → same_text m.0 name ≡ false → value_of name (ms ++ m ∷ []) ≡ value_of name ms
value_of-push name [] m apart = ap (λ b. cond b (Some m.1) None) apart
value_of-push name (x ∷ xs) m apart = ap (λ o. cond (same_text x.0 name) (Some x.1) o) (value_of-push name xs m apart)

value_of-new : (ms : List (List ℕ × ArgValue)) (m : List ℕ × ArgValue) → value_of m.0 ms ≡ None → value_of m.0 (ms ++ m ∷ []) ≡ Some m.1
value_of-new [] m none = ap (λ b. cond b (Some m.1) None) (nat_list_eq_equiv.refl m.0)
value_of-new (x ∷ xs) m none = by (same_text x.0 m.0) none (value_of-new xs m)
  where
    by : (b : Bool) → cond b (Some x.1) (value_of m.0 xs) ≡ None → (value_of m.0 xs ≡ None → value_of m.0 (xs ++ m ∷ []) ≡ Some m.1) → cond b (Some x.1) (value_of m.0 (xs ++ m ∷ [])) ≡ Some m.1
    by true none rest = cc
    by false none rest = rest none

texts_apart : (a b : List ℕ) → (a ≡ b → ⊥) → same_text a b ≡ false
texts_apart a b apart = by (same_text a b) refl
  where
    by : (r : Bool) → same_text a b ≡ r → r ≡ false
    by true h = absurd (apart ((bytes_decides a b).0 h))
    by false h = refl

below_apart : (a b : List ℕ) → text_cmp a b ≡ Less → same_text a b ≡ false
below_apart a b less = texts_apart a b (λ e. let clash : Less ≡ Equal = sym less ∙ ap (λ x. text_cmp x b) e ∙ tied_itself nat_list_cmp_total b in cc)

IsBelowAll-at : (name : List ℕ) (ms : List (List ℕ × ArgValue)) (m : List ℕ × ArgValue) (rest : List (List ℕ × ArgValue)) → IsBelowAll name (ms ++ m ∷ rest) → text_cmp name m.0 ≡ Less
IsBelowAll-at name [] m rest below = below.0
IsBelowAll-at name (x ∷ xs) m rest below = IsBelowAll-at name xs m rest below.1

-- of names in order none comes twice
pub value_of-in_order : (ms : List (List ℕ × ArgValue)) (m : List ℕ × ArgValue) (rest : List (List ℕ × ArgValue)) → IsInNameOrder (ms ++ m ∷ rest) → value_of m.0 ms ≡ None
value_of-in_order [] m rest in_order = refl
value_of-in_order (x ∷ xs) m rest in_order =
    ap (λ b. cond b (Some x.1) (value_of m.0 xs)) (below_apart x.0 m.0 (IsBelowAll-at x.0 xs m rest in_order.0)) ∙ value_of-in_order xs m rest in_order.1

-- an event with other arguments
abbrev pub with_args : Event → List (List ℕ × ArgValue) → Event
with_args event members = record event { args = members }

no_sample : (key : SeriesKey) (event : Event) (ms : List (List ℕ × ArgValue)) → value_of key.series ms ≡ None → sample_of key (with_args event ms) ≡ None
no_sample key event ms none =
    ap (λ v. cond (is_eq (series_cmp (series_key event key.series) key)) (option_and_then (as_sample event.ts) v) None) none
    ∙ elim (is_eq (series_cmp (series_key event key.series) key)) as (λ b. cond {A = Option Sample} b None None ≡ None) [ true ↦ refl | false ↦ refl ]

samples_of-push : (key : SeriesKey) (es : List Event) (e : Event) → samples_of key (es ++ e ∷ []) ≡ samples_of key es ++ cons_option (sample_of key e) []
samples_of-push key es e = filter_map-append (sample_of key) es (e ∷ [])

samples_of-push-none : (key : SeriesKey) (es : List Event) (e : Event) → sample_of key e ≡ None → samples_of key (es ++ e ∷ []) ≡ samples_of key es
samples_of-push-none key es e none = samples_of-push key es e ∙ ap (λ o. samples_of key es ++ cons_option o []) none ∙ append-nil (samples_of key es)

-- a series has no more samples than there are events
pub length-samples_of : (key : SeriesKey) (es : List Event) → length (samples_of key es) ≤ length es
length-samples_of key [] = omega arith
length-samples_of key (e ∷ es) = by (sample_of key e) (length-samples_of key es)
  where
    by : (o : Option Sample) → length (samples_of key es) ≤ length es → length (cons_option o (samples_of key es)) ≤ suc (length es)
    by None rest = omega (arith, rest)
    by (Some s) rest = omega (arith, rest)

module _ (event : Event) (ms : List (List ℕ × ArgValue)) (name : List ℕ) (value : ℤ) (new : value_of name ms ≡ None) where
  own_sample : sample_of (series_key event name) (with_args event (ms ++ (name, Whole value) ∷ [])) ≡ Some (record { ts = event.ts; value = value })
  own_sample =
      ap (λ r. cond (is_eq r) (option_and_then (as_sample event.ts) (value_of name (ms ++ (name, Whole value) ∷ []))) None) (tied_itself series_cmp-total (series_key event name))
      ∙ ap (option_and_then (as_sample event.ts)) (value_of-new ms (name, Whole value) new)

  other_sample : (key : SeriesKey) → is_eq (series_cmp (series_key event name) key) ≡ false → sample_of key (with_args event (ms ++ (name, Whole value) ∷ [])) ≡ sample_of key (with_args event ms)
  other_sample key apart = by (is_eq (series_cmp (series_key event key.series) key)) refl
    where
      by : (b : Bool) → is_eq (series_cmp (series_key event key.series) key) ≡ b →
          cond b (option_and_then (as_sample event.ts) (value_of key.series (ms ++ (name, Whole value) ∷ []))) None ≡ cond b (option_and_then (as_sample event.ts) (value_of key.series ms)) None
      by true h =
          ap (option_and_then (as_sample event.ts)) (value_of-push key.series ms (name, Whole value)
          (texts_apart name key.series (λ e. let clash : true ≡ false = sym h ∙ ap (λ n. is_eq (series_cmp (series_key event n) key)) (sym e) ∙ apart in cc)))
      by false h = refl

  module _ (es : List Event) where
    abbrev pub before : List Event
    before = es ++ with_args event ms ∷ []

    abbrev pub after : List Event
    after = es ++ with_args event (ms ++ (name, Whole value) ∷ []) ∷ []

    keys-after : flat_map series_keys after ≡ flat_map series_keys before ++ series_key event name ∷ []
    keys-after =
        flat_map-append series_keys es (with_args event (ms ++ (name, Whole value) ∷ []) ∷ [])
        ∙ ap (λ l. flat_map series_keys es ++ l) (append-nil (map (λ (p : List ℕ × ArgValue). series_key event p.0) (ms ++ (name, Whole value) ∷ [])) ∙ map-append (λ (p : List ℕ × ArgValue). series_key event p.0) ms ((name, Whole value) ∷ []))
        ∙ sym (append_assoc (flat_map series_keys es) (map (λ (p : List ℕ × ArgValue). series_key event p.0) ms) (series_key event name ∷ []))
        ∙ ap (λ l. l ++ series_key event name ∷ [])
        (ap (λ l. flat_map series_keys es ++ l) (sym (append-nil (map (λ (p : List ℕ × ArgValue). series_key event p.0) ms))) ∙ sym (flat_map-append series_keys es (with_args event ms ∷ [])))

    -- the samples of the series before this value
    pub samples-before : samples_of (series_key event name) before ≡ samples_of (series_key event name) es
    samples-before = samples_of-push-none (series_key event name) es (with_args event ms) (no_sample (series_key event name) event ms new)

    -- what is kept, once the event has one more value
    pub uses_in-member : (kept : CountersKept) → CounterStandsFor kept before →
        CounterStandsFor (put_entry (eq_by_cmp series_cmp) kept (series_key event name) (Some (with_sample (series_from before (series_key event name)) (record { ts = event.ts; value = value })))) after
    uses_in-member kept stands =
        first_uses-after series_cmp-total series_cmp-same (series_from before) (series_from after) (series_key event name)
        (λ key apart. ap series_of (samples_of-push key es (with_args event ms) ∙ ap (λ o. samples_of key es ++ cons_option o []) (sym (other_sample key apart)) ∙ sym (samples_of-push key es (with_args event (ms ++ (name, Whole value) ∷ [])))))
        (flat_map series_keys before) kept _ stands
        (ap (λ l. Some (with_sample (series_of l) (record { ts = event.ts; value = value }))) samples-before
        ∙ sym (series_of-push (samples_of (series_key event name) es) (record { ts = event.ts; value = value }))
        ∙ ap series_of (ap (λ o. samples_of (series_key event name) es ++ cons_option o []) (sym own_sample) ∙ sym (samples_of-push (series_key event name) es (with_args event (ms ++ (name, Whole value) ∷ [])))))
        ∙ ap (λ ks. map (entry_of (series_from after)) (first_uses series_cmp ks)) (sym keys-after)

-- an event without a value changes nothing
pub uses_in-no_member : (event : Event) (es : List Event) → uses_in series_cmp series_keys series_from (es ++ with_args event [] ∷ []) ≡ uses_in series_cmp series_keys series_from es
uses_in-no_member event es =
    let none : (key : SeriesKey) → series_from (es ++ with_args event [] ∷ []) key ≡ series_from es key = λ key. ap series_of (samples_of-push-none key es (with_args event []) (no_sample key event [] refl)) in
    ap₂ (λ f ks. map (entry_of f) (first_uses series_cmp ks)) (λ i key. none key i) (flat_map-append series_keys es (with_args event [] ∷ []) ∙ append-nil (flat_map series_keys es))

has_key-apart : (event : Event) (key : SeriesKey) → is_eq (series_cmp (series_key event key.series) key) ≡ true → (ms : List (List ℕ × ArgValue)) → has_key series_cmp key (map (λ p. series_key event p.0) ms) ≡ false → value_of key.series ms ≡ None
has_key-apart event key own [] none = refl
has_key-apart event key own (m ∷ ms) none =
    let parts = neither (is_eq (series_cmp key (series_key event m.0))) (has_key series_cmp key (map (λ p. series_key event p.0) ms)) none in
    let apart = texts_apart m.0 key.series (λ e. let clash : true ≡ false = sym own ∙ is_eq-turned series_cmp-total (series_key event key.series) key ∙ ap (λ n. is_eq (series_cmp key (series_key event n))) (sym e) ∙ parts.0 in cc) in
    ap (λ b. cond b (Some m.1) (value_of key.series ms)) apart ∙ has_key-apart event key own ms parts.1

no_sample-absent : (key : SeriesKey) (event : Event) → has_key series_cmp key (series_keys event) ≡ false → sample_of key event ≡ None
no_sample-absent key event none = by (is_eq (series_cmp (series_key event key.series) key)) refl
  where
    by : (b : Bool) → is_eq (series_cmp (series_key event key.series) key) ≡ b → cond b (option_and_then (as_sample event.ts) (value_of key.series event.args)) None ≡ None
    by true h = ap (option_and_then (as_sample event.ts)) (has_key-apart event key h event.args none)
    by false h = refl

has_key-append : (key : SeriesKey) (xs ys : List SeriesKey) → has_key series_cmp key (xs ++ ys) ≡ false → (has_key series_cmp key xs ≡ false) × (has_key series_cmp key ys ≡ false)
has_key-append key [] ys none = (refl, none)
has_key-append key (x ∷ xs) ys none =
    let parts = neither (is_eq (series_cmp key x)) (has_key series_cmp key (xs ++ ys)) none in
    let rest = has_key-append key xs ys parts.1 in
    (ap₂ (λ a b. a || b) parts.0 rest.0, rest.1)

samples_of-absent : (key : SeriesKey) (es : List Event) → has_key series_cmp key (flat_map series_keys es) ≡ false → samples_of key es ≡ []
samples_of-absent key [] none = refl
samples_of-absent key (e ∷ es) none =
    let parts = has_key-append key (series_keys e) (flat_map series_keys es) none in
    ap (λ o. cons_option o (samples_of key es)) (no_sample-absent key e parts.0) ∙ samples_of-absent key es parts.1

-- what is kept of a series is what its samples give
pub kept_at-CounterStandsFor : (kept : CountersKept) (es : List Event) (key : SeriesKey) → CounterStandsFor kept es → kept_at series_cmp None kept key ≡ series_from es key
kept_at-CounterStandsFor kept es key stands = ap (λ k. kept_at series_cmp None k key) stands ∙ by (lookup (is_at (series_cmp key)) (uses_in series_cmp series_keys series_from es)) refl
  where
    by : (found : Option (Option Series)) → lookup (is_at (series_cmp key)) (uses_in series_cmp series_keys series_from es) ≡ found → unwrap_or found None ≡ series_from es key
    by None e = ap series_of (sym (samples_of-absent key es (has_key-absent series_cmp-total series_cmp-same (series_from es) (flat_map series_keys es) key e)))
    by (Some v) e = lookup-made series_cmp-total series_cmp-same (series_from es) key (first_uses series_cmp (flat_map series_keys es)) v e
