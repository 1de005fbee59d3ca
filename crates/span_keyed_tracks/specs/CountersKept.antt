-- How series are kept, and how they change with one more event.
use Rattle.std.specs.{Int.{int_min, int_max}, List.{AllByRecursion, IsDistinct}, Map.{keys_of, lookup}, Option.option_eq, Ordering.int_eq, Prelude.{◌≡◌, ◌<◌, ◌-◌, ◌^◌, IfSome, position, ℕ, ◌+◌, ◌&&◌, Bool, pos, List, [], get_or, length, map, nat_eq, int_lt, Option, Some, None, unwrap_or, if◌then◌else◌}}
use Rattle.span_keyed_tracks.specs.{ArgValue, Event, as_whole, same_id, Bytes, same_text, Counters.{CountersKept, Sample, Series}, declared.{counter_track.{SeriesRow.SeriesRow, counter.{Counter.Counter, NumberedSeries.NumberedSeries}, running.{Held.{Held, TheVariants.{One, Many}}, Sums.Sums}}, keys.SeriesKey.SeriesKey}}

-- how many samples there are
abbrev pub samples_before : Option Series → ℕ
samples_before None = 0
samples_before (Some s) = s.totals.samples

-- one more sample, which is the last unless its time is below the greatest
abbrev pub with_sample : Option Series → Sample → Series
with_sample None s = record { totals = record { samples = 1; least = s.value; greatest = s.value; last = s.value }; latest = s.ts }
with_sample (Some old) s = record {
  totals = record {
    samples = old.totals.samples + 1;
    least = int_min old.totals.least s.value;
    greatest = int_max old.totals.greatest s.value;
    last = if int_lt s.ts old.latest then old.totals.last else s.value;
  };
  latest = int_max old.latest s.ts;
}

abbrev pub series_of_sums : Sums → Series
series_of_sums sums = record { totals = sums.totals; latest = sums.latest }

-- the one sample of a series, or what its samples give
abbrev pub held_series : Held → Series
held_series (One ts value) = with_sample None (record { ts = ts; value = value })
held_series (Many sums) = series_of_sums sums.value

-- entries of series that all have a sample
abbrev pub kept_series : List (SeriesKey × Series) → CountersKept
kept_series entries = map (λ e. (e.0, Some e.1)) entries

-- the row of a series
abbrev pub kept_row : SeriesKey × Series → SeriesRow
kept_row e = record { key = e.0; totals = e.1.totals }

-- the same fields
abbrev pub same_series : SeriesKey → SeriesKey → Bool
same_series a b = int_eq a.pid b.pid && (same_text a.name b.name && (option_eq same_id a.id b.id && same_text a.series b.series))

-- what is found at a key
abbrev pub found_at : List (SeriesKey × Series) → SeriesKey → Option Series
found_at entries key = lookup (same_series key) entries

-- the counter of an event
abbrev pub counter_of : Event → Counter
counter_of event = record { pid = event.pid; name = event.name; id = event.key }

-- the counter of a series
abbrev pub counter_of_key : SeriesKey → Counter
counter_of_key key = record { pid = key.pid; name = key.name; id = key.id }

-- the key of a series of a counter
abbrev pub key_of : Counter → Bytes → SeriesKey
key_of counter series = record { pid = counter.pid; name = counter.name; id = counter.id; series = series }

-- the same process, name and id
abbrev pub same_counter : Counter → Counter → Bool
same_counter a b = int_eq a.pid b.pid && (same_text a.name b.name && option_eq same_id a.id b.id)

-- the counter that has a number
abbrev pub counter_at : List Counter → ℕ → Counter
counter_at counters number = get_or counters number (record { pid = pos 0; name = []; id = None })

-- the key of a series of the counter with a number
abbrev pub key_at : List Counter → NumberedSeries → SeriesKey
key_at counters key = key_of (counter_at counters key.counter) key.series

-- series under their keys
abbrev pub named : List Counter → List (NumberedSeries × Series) → List (SeriesKey × Series)
named counters entries = map (λ e. (key_at counters e.0, e.1)) entries

-- each number is that of a counter
abbrev pub HaveCounters : List Counter → List (NumberedSeries × Series) → Type 0
HaveCounters counters entries = AllByRecursion (λ e. e.0.counter < length counters) entries

-- no counter has two numbers, and each number is that of a counter
abbrev pub AreNumbered : List Counter → List (NumberedSeries × Series) → Type 0
AreNumbered counters entries = IsDistinct same_counter counters × HaveCounters counters entries

-- the same number of a counter, and the same name of a series
abbrev pub same_numbered : NumberedSeries → NumberedSeries → Bool
same_numbered a b = nat_eq a.counter b.counter && same_text a.series b.series

-- what is found of a series of the counter with a number
abbrev pub found_in : List (NumberedSeries × Series) → ℕ → Bytes → Option Series
found_in entries counter series = lookup (same_numbered (record { counter = counter; series = series })) entries

-- there is room for the number of one more sample of any series of the counter with a number
abbrev pub HasRoomIn : List (NumberedSeries × Series) → ℕ → Type 0
HasRoomIn entries counter = (series : Bytes) → samples_before (found_in entries counter series) < 2 ^ 32 - 1

-- the place, if there is one, is that of the key
abbrev pub IsPlaced : List (NumberedSeries × Series) → Option ℕ → NumberedSeries → Type 0
IsPlaced entries place key = IfSome place (λ i. position (same_numbered key) (keys_of entries) ≡ Some i)

abbrev pub ArePlaced : List (NumberedSeries × Series) → List (Option ℕ × NumberedSeries × Series) → Type 0
ArePlaced entries next = AllByRecursion (λ n. IsPlaced entries n.0 n.1) next

-- a series of an event's counter, which has this number, once it has the event's value of it
abbrev pub next_entry : List (NumberedSeries × Series) → ℕ → Event → Bytes × ArgValue → NumberedSeries × Series
next_entry entries counter event member = (record { counter = counter; series = member.0 }, with_sample (found_in entries counter member.0) (record { ts = event.ts; value = unwrap_or (as_whole member.1) (pos 0) }))
