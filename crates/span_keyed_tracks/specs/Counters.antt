-- Counters: the samples of each series, and what they give.
use Rattle.std.specs.{Int.{int_min, int_max}, Option.{option_map, option_cmp}, Ordering.{int_cmp, int_eq, is_eq, ordering_then}, Prelude.{◌≡◌, ℕ, ◌≤◌, ◌^◌, ◌-◌, ℤ, pos, List, [], ◌∷◌, ◌++◌, length, map, filter, filter_map, flat_map, fold, Option, Some, None, option_and_then, unwrap_or, if◌then◌else◌}, declared.cmp.Ordering.Ordering}
use Rattle.span_keyed_tracks.specs.{Event, ArgValue, as_whole, value_of, id_cmp, Bytes, text_cmp, Keyed.{ascending, entry_of}, Last.last_of, Uses.uses_in, declared.{counter_track.{SeriesRow.SeriesRow, SeriesTotals.SeriesTotals}, keys.SeriesKey.SeriesKey}}

-- by process, name, id, no id before any, and series; texts by their bytes
abbrev pub series_cmp : SeriesKey → SeriesKey → Ordering
series_cmp a b = ordering_then (int_cmp a.pid b.pid) (ordering_then (text_cmp a.name b.name) (ordering_then (option_cmp id_cmp a.id b.id) (text_cmp a.series b.series)))

-- a value of a series, at a time
pub record Sample : Type 0 where
  pub ts : ℤ
  pub value : ℤ

-- a series of the counter of an event
abbrev pub series_key : Event → Bytes → SeriesKey
series_key event series = record { pid = event.pid; name = event.name; id = event.key; series = series }

-- the series that a counter event has a value of
abbrev pub series_keys : Event → List SeriesKey
series_keys event = map (λ p. series_key event p.0) event.args

-- a whole number is a sample
abbrev pub as_sample : ℤ → ArgValue → Option Sample
as_sample ts value = option_map (λ n. record { ts = ts; value = n }) (as_whole value)

-- the sample of a series that a counter event has
abbrev pub sample_of : SeriesKey → Event → Option Sample
sample_of key event = if is_eq (series_cmp (series_key event key.series) key) then option_and_then (as_sample event.ts) (value_of key.series event.args) else None

-- the samples of a series, in the order of the events
abbrev pub samples_of : SeriesKey → List Event → List Sample
samples_of key es = filter_map (sample_of key) es

-- the greatest time of these samples
abbrev pub latest_time : Sample → List Sample → ℤ
latest_time first later = fold int_max first.ts (map (λ s. s.ts) later)

-- the value of the last of the samples at this time
abbrev pub last_value_at : ℤ → List Sample → ℤ
last_value_at ts samples = unwrap_or (last_of (map (λ s. s.value) (filter (λ s. int_eq s.ts ts) samples))) (pos 0)

-- the totals of a series, and the greatest time of its samples
pub record Series : Type 0 where
  pub totals : SeriesTotals
  pub latest : ℤ

-- how many samples there are, the least and the greatest value, and the last: of the samples at the greatest time the value of the last
abbrev pub totals_of : Sample → List Sample → SeriesTotals
totals_of first later = record {
  samples = length (first ∷ later);
  least = fold int_min first.value (map (λ s. s.value) later);
  greatest = fold int_max first.value (map (λ s. s.value) later);
  last = last_value_at (latest_time first later) (first ∷ later);
}

-- what the samples of a series give, if there are any
abbrev pub series_of : List Sample → Option Series
series_of [] = None
series_of (first ∷ later) = Some (record { totals = totals_of first later; latest = latest_time first later })

-- the totals of a series, where it has a sample
abbrev pub series_totals : SeriesKey → List Event → Option SeriesTotals
series_totals key es = option_map (λ (s : Series). s.totals) (series_of (samples_of key es))

-- each series that an event has a value of, in the order of their first values, with what its samples give
abbrev pub CountersKept : Type 0
CountersKept = List (SeriesKey × Option Series)

abbrev pub series_from : List Event → SeriesKey → Option Series
series_from es key = series_of (samples_of key es)

-- the track keeps what these counter events give
abbrev pub CounterStandsFor : CountersKept → List Event → Type 0
CounterStandsFor track es = track ≡ uses_in series_cmp series_keys series_from es

-- the track takes one more counter event
abbrev pub TakesCounter : CountersKept → CountersKept → Event → Type 0
TakesCounter old new e = (es : List Event) → CounterStandsFor old es → CounterStandsFor new (es ++ e ∷ [])

-- the track stands for at most this many events
pub record CountersOf (most : ℕ) (track : CountersKept) : Type 0 where
  pub events : List Event
  pub stands : CounterStandsFor track events
  pub few : length events ≤ most

-- there is room for the number of one more sample
abbrev pub HasCounterRoom : CountersKept → Type 0
HasCounterRoom track = CountersOf (2 ^ 32 - 2) track

-- the row of a series that has a sample
abbrev pub series_row : SeriesKey × Option Series → Option SeriesRow
series_row (key, None) = None
series_row (key, Some s) = Some (record { key = key; totals = s.totals })

-- the row of each series that has a sample, in ascending order of keys
abbrev pub series_rows : List Event → List SeriesRow
series_rows es = filter_map series_row (map (entry_of (series_from es)) (ascending series_cmp (flat_map series_keys es)))

-- the same of one process
abbrev pub series_rows_of : ℤ → List Event → List SeriesRow
series_rows_of pid es = series_rows (filter (λ e. int_eq e.pid pid) es)
