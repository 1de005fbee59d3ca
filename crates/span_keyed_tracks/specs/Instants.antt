-- Instants: how many there are of each thread, name and reach.
use Rattle.std.specs.{Option.option_map, Ordering.is_eq, Prelude.{◌≡◌, ℕ, ◌≤◌, ◌^◌, ◌-◌, Bool, true, false, nat_eq, List, [], ◌∷◌, ◌++◌, length, filter_map, flat_map, count_by, Option, None, if◌then◌else◌}}
use Rattle.span_event.specs.declared.event.Reach.TheVariants.{Thread as OneThread}
use Rattle.span_keyed_tracks.specs.{Event, Phase, Instant, Reach, Global, Process, Thread, reach_cmp, Bytes, text_cmp, thread_of, Keyed.{Keyed, steps_at, entries_in}, declared.meta_track.instants.InstantRow.InstantRow}
pub use Rattle.span_keyed_tracks.specs.{Thread as ThreadKey, thread_cmp, text_cmp as name_cmp}

-- the reach of an instant of a name; and the same of a thread
abbrev pub NamedReach : Type 0
NamedReach = Keyed Bytes Reach

abbrev pub InstantStep : Type 0
InstantStep = Keyed Thread NamedReach

-- the event is an instant
abbrev pub is_instant : Phase → Bool
is_instant Instant = true
is_instant phase = false

-- the thread, name and reach of an instant, which has a reach
abbrev pub instant_of : Event → Option InstantStep
instant_of e = option_map (λ r. record { key = thread_of e; step = record { key = e.name; step = r } }) e.reach

-- the instants among these events, in their order
abbrev pub instants_in : List Event → List InstantStep
instants_in es = filter_map (λ e. if is_instant e.phase then instant_of e else None) es

-- how often a reach is among these
abbrev pub count_of : Reach → List Reach → ℕ
count_of reach rs = count_by (λ r. is_eq (reach_cmp r reach)) rs

-- how many instants there are of each reach
pub record ReachCounts : Type 0 where
  pub global : ℕ
  pub process : ℕ
  pub thread : ℕ

abbrev pub counts_of : List Reach → ReachCounts
counts_of rs = record { global = count_of Global rs; process = count_of Process rs; thread = count_of OneThread rs }

-- how many instants of this thread, name and reach are among these events
abbrev pub instants_of : List Event → Thread → Bytes → Reach → ℕ
instants_of es thread name reach = count_of reach (steps_at text_cmp name (steps_at thread_cmp thread (instants_in es)))

-- each name of the instants of a thread, in ascending order, with its counts
abbrev pub NamesCounted : Type 0
NamesCounted = List (Bytes × ReachCounts)

abbrev pub names_counted : List NamedReach → NamesCounted
names_counted steps = entries_in text_cmp counts_of steps

-- each thread that has an instant, in ascending order, with the names of its instants
abbrev pub InstantsKept : Type 0
InstantsKept = List (Thread × NamesCounted)

abbrev pub instants_counted : List InstantStep → InstantsKept
instants_counted steps = entries_in thread_cmp names_counted steps

-- what is kept, once there is one more instant
abbrev pub TakesName : NamesCounted → NamesCounted → NamedReach → Type 0
TakesName old new s = (ss : List NamedReach) → old ≡ names_counted ss → new ≡ names_counted (ss ++ s ∷ [])

abbrev pub TakesInstant : InstantsKept → InstantsKept → InstantStep → Type 0
TakesInstant old new s = (ss : List InstantStep) → old ≡ instants_counted ss → new ≡ instants_counted (ss ++ s ∷ [])

-- what is kept is what at most this many steps give
pub record StepsOf {K A X : Type 0} (give : List (Keyed K A) → X) (most : ℕ) (kept : X) : Type 0 where
  pub steps : List (Keyed K A)
  pub stands : kept ≡ give steps
  pub few : length steps ≤ most

-- there is room for the number of one more instant
abbrev pub HasNameRoom : NamesCounted → Type 0
HasNameRoom kept = StepsOf names_counted (2 ^ 32 - 2) kept

abbrev pub HasInstantRoom : InstantsKept → Type 0
HasInstantRoom kept = StepsOf instants_counted (2 ^ 32 - 2) kept

-- the row of a thread, name and reach, where there is an instant
abbrev pub instant_row : Thread → Bytes → Reach → ℕ → List InstantRow
instant_row thread name reach count = if nat_eq count 0 then [] else record { pid = thread.pid; tid = thread.tid; name = name; reach = reach; count = count } ∷ []

-- the rows of a name, the wider reach first
abbrev pub rows_of_name : Thread → Bytes × ReachCounts → List InstantRow
rows_of_name thread (name, counts) = instant_row thread name Global counts.global ++ (instant_row thread name Process counts.process ++ instant_row thread name OneThread counts.thread)

abbrev pub rows_of_thread : Thread × NamesCounted → List InstantRow
rows_of_thread (thread, names) = flat_map (rows_of_name thread) names

abbrev pub rows_of_instants : InstantsKept → List InstantRow
rows_of_instants kept = flat_map rows_of_thread kept

-- the rows of all instants, by process, thread, name and reach
abbrev pub instant_rows : List Event → List InstantRow
instant_rows es = rows_of_instants (instants_counted (instants_in es))

-- the rows of the instants of one thread, by name and reach
abbrev pub instant_rows_of : Thread → List Event → List InstantRow
instant_rows_of thread es = rows_of_thread (thread, names_counted (steps_at thread_cmp thread (instants_in es)))
