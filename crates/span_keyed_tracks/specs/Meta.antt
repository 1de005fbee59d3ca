-- Names, labels and sort indices of processes and threads, and instants: what metadata events and instants say.
use Rattle.std.specs.{Option.{option_map, option_cmp}, Ordering.{int_cmp, ordering_then}, Prelude.{◌≡◌, ℕ, ◌≤◌, ◌^◌, ◌-◌, ℤ, Bool, true, false, codes, is_some, List, [], ◌∷◌, ◌++◌, length, filter_map, Option, Some, None, option_and_then, if◌then◌else◌}, declared.cmp.Ordering.Ordering}
use Rattle.span_event.specs.declared.event.Phase.TheVariants.{Meta}
use Rattle.span_keyed_tracks.specs.{Event, Phase, as_text, as_whole, value_of, Gives, Bytes, same_text, Instants.{InstantsKept, instants_counted, instants_in}, Keyed.{Keyed, steps_at, entries_in}, Last.last_of}

-- a process; or one of its threads
abbrev pub Holder : Type 0
Holder = ℤ × Option ℤ

-- by process, which comes before its threads, and thread
abbrev pub holder_cmp : Holder → Holder → Ordering
holder_cmp a b = ordering_then (int_cmp a.0 b.0) (option_cmp int_cmp a.1 b.1)

-- a name, labels or a sort index for a process or thread
pub data Setting : Type 0 where
  set_name : Bytes → Setting
  set_labels : Bytes → Setting
  set_sort_index : ℤ → Setting

-- the text or the number that a member of an event's arguments is
abbrev pub text_at : Bytes → Event → Option Bytes
text_at member event = option_and_then as_text (value_of member event.args)

abbrev pub whole_at : Bytes → Event → Option ℤ
whole_at member event = option_and_then as_whole (value_of member event.args)

-- a name, labels or a sort index for the event's process, or for a thread of it
abbrev pub name_setting : Event → Option ℤ → Option (Keyed Holder Setting)
name_setting event tid = option_map (λ w. record { key = (event.pid, tid); step = set_name w }) (text_at (codes "name") event)

abbrev pub labels_setting : Event → Option ℤ → Option (Keyed Holder Setting)
labels_setting event tid = option_map (λ w. record { key = (event.pid, tid); step = set_labels w }) (text_at (codes "labels") event)

abbrev pub sort_setting : Event → Option ℤ → Option (Keyed Holder Setting)
sort_setting event tid = option_map (λ n. record { key = (event.pid, tid); step = set_sort_index n }) (whole_at (codes "sort_index") event)

-- what a metadata event sets of its thread or of its process, if it has an effect
abbrev pub setting_of : Event → Option (Keyed Holder Setting)
setting_of event =
    if same_text event.name (codes "thread_name") then name_setting event (Some event.tid) else
    if same_text event.name (codes "thread_sort_index") then sort_setting event (Some event.tid) else
    if same_text event.name (codes "process_name") then name_setting event None else
    if same_text event.name (codes "process_labels") then labels_setting event None else
    if same_text event.name (codes "process_sort_index") then sort_setting event None else None

-- the event is a metadata event
abbrev pub is_meta : Phase → Bool
is_meta Meta = true
is_meta phase = false

-- what the metadata events set, in their order
abbrev pub settings_in : List Event → List (Keyed Holder Setting)
settings_in es = filter_map (λ e. if is_meta e.phase then setting_of e else None) es

-- the names of a process or thread
pub record Names : Type 0 where
  pub name : Option Bytes
  pub labels : Option Bytes
  pub sort_index : Option ℤ

abbrev pub as_name : Setting → Option Bytes
as_name (set_name w) = Some w
as_name (set_labels w) = None
as_name (set_sort_index n) = None

abbrev pub as_labels : Setting → Option Bytes
as_labels (set_name w) = None
as_labels (set_labels w) = Some w
as_labels (set_sort_index n) = None

abbrev pub as_sort_index : Setting → Option ℤ
as_sort_index (set_name w) = None
as_sort_index (set_labels w) = None
as_sort_index (set_sort_index n) = Some n

-- of each the last that was set
abbrev pub names_of : List Setting → Names
names_of settings = record { name = last_of (filter_map as_name settings); labels = last_of (filter_map as_labels settings); sort_index = last_of (filter_map as_sort_index settings) }

-- the names of a process or thread after these events
abbrev pub names_in : List Event → Holder → Names
names_in es holder = names_of (steps_at holder_cmp holder (settings_in es))

-- each process and thread of which something is set, in ascending order, with its names
abbrev pub NamesKept : Type 0
NamesKept = List (Holder × Names)

abbrev pub NamesStandFor : NamesKept → List Event → Type 0
NamesStandFor kept es = kept ≡ entries_in holder_cmp names_of (settings_in es)

-- a metadata event gives its thread a name or a sort index
abbrev pub names_thread : Event → Bool
names_thread event = if is_meta event.phase then is_some (option_and_then (λ (s : Keyed Holder Setting). s.key.1) (setting_of event)) else false

-- what is kept, once this is set
abbrev pub TakesSetting : NamesKept → NamesKept → Keyed Holder Setting → Type 0
TakesSetting old new s = (ss : List (Keyed Holder Setting)) → old ≡ entries_in holder_cmp names_of ss → new ≡ entries_in holder_cmp names_of (ss ++ s ∷ [])

-- the names and the instants that are kept
pub record MetaKept : Type 0 where
  pub names : NamesKept
  pub instants : InstantsKept

-- the track keeps what the metadata events and the instants among these give
pub record MetaStandsFor (track : MetaKept) (es : List Event) : Type 0 where
  pub names : NamesStandFor track.names es
  pub instants : track.instants ≡ instants_counted (instants_in es)

-- the track takes one more event
abbrev pub TakesMeta : MetaKept → MetaKept → Event → Type 0
TakesMeta old new e = (es : List Event) → MetaStandsFor old es → MetaStandsFor new (es ++ e ∷ [])

-- the track stands for at most this many events
pub record MetaOf (most : ℕ) (track : MetaKept) : Type 0 where
  pub events : List Event
  pub stands : MetaStandsFor track events
  pub few : length events ≤ most

-- there is room for the number of one more instant
abbrev pub HasMetaRoom : MetaKept → Type 0
HasMetaRoom track = MetaOf (2 ^ 32 - 2) track

-- the name, the labels and the sort index that the track's events give this process or thread
abbrev pub HasName : MetaKept → Holder → Option Bytes → Type 0
HasName track holder = Gives MetaStandsFor track (λ es. (names_in es holder).name)

abbrev pub HasLabels : MetaKept → Holder → Option Bytes → Type 0
HasLabels track holder = Gives MetaStandsFor track (λ es. (names_in es holder).labels)

abbrev pub HasSortIndex : MetaKept → Holder → Option ℤ → Type 0
HasSortIndex track holder = Gives MetaStandsFor track (λ es. (names_in es holder).sort_index)
