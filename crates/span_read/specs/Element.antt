-- What one element of a trace is: a good event, its first fault, or an event of a phase that is not used.
use Rattle.std.specs.{Int.RustNames.int_le, Option.option_or, Prelude.{ℕ, ℤ, pos, List, [], ◌∷◌, ◌||◌, Bool, true, false, Option, Some, None, is_some, option_map, option_and_then, unwrap_or, if◌then◌else◌}}
use Rattle.serde_json.specs.Data.{Data, object}
use Rattle.span_event.specs.declared.{event.Phase.Phase, item.Item.TheVariants.Other}
use Rattle.span_read.specs.{Event, Field, Pid, Tid, Name, Cat, Id, Scope, Item, Good, Bad, ItemFault, NotObject, NoPhase, NoTime, NotWhole, NoDuration, BadField, NoId, BadReach, BadSeries, all_whole, natural, Unit, Fields.{fields_of, whole, words, whole_or_zero, text_or_empty, key_of, reach_of, args_of}, Phase.{phase_of, reads_time, reads_duration, needs_id, reads_id, reads_scope, reads_reach, wants_whole_args}, Time.time_in, declared.fields.{FieldValue.FieldValue, Fields.Fields}}

-- the fault where the test fails
abbrev pub unless : Bool → ItemFault → Option ItemFault
unless true fault = None
unless false fault = Some fault

-- a field that the phase doesn't read has no fault
abbrev pub where_read : Bool → Option ItemFault → Option ItemFault
where_read true fault = fault
where_read false fault = None

abbrev pub time_fault : Unit → Option FieldValue → Option ItemFault
time_fault unit None = Some NoTime
time_fault unit (Some v) = unless (is_some (time_in unit v)) NotWhole

-- a length is there, and not negative
abbrev pub is_length : Option ℤ → Bool
is_length None = false
is_length (Some z) = int_le (pos 0) z

abbrev pub duration_fault : Unit → Option FieldValue → Option ItemFault
duration_fault unit None = Some NoDuration
duration_fault unit (Some v) = unless (is_length (time_in unit v)) NotWhole

abbrev pub time_or_zero : Unit → Option FieldValue → ℤ
time_or_zero unit f = unwrap_or (option_and_then (time_in unit) f) (pos 0)

-- a duration is never negative
abbrev pub duration_or_zero : Unit → Option FieldValue → ℕ
duration_or_zero unit f = natural (time_or_zero unit f)

-- a missing `pid` or `tid` is 0
abbrev pub whole_fault : Field → Option FieldValue → Option ItemFault
whole_fault field None = None
whole_fault field (Some v) = unless (is_some (whole v)) (BadField field)

-- a missing text is empty
abbrev pub text_fault : Field → Option FieldValue → Option ItemFault
text_fault field None = None
text_fault field (Some v) = unless (is_some (words v)) (BadField field)

-- an id that is there must be of one of its shapes
abbrev pub id_fault : Option FieldValue → Option FieldValue → Option ItemFault
id_fault None None = None
id_fault id id2 = unless (is_some (key_of (pos 0) id id2)) (BadField Id)

-- the first of the faults
abbrev pub first_fault : List (Option ItemFault) → Option ItemFault
first_fault [] = None
first_fault (f ∷ fs) = option_or f (first_fault fs)

-- what may be wrong with an event's fields, in the order in which they are looked at
abbrev pub faults : Unit → Phase → Fields → List (Option ItemFault)
faults unit phase f =
    where_read (reads_time phase) (time_fault unit f.ts)
    ∷ where_read (reads_duration phase) (duration_fault unit f.dur)
    ∷ whole_fault Pid f.pid
    ∷ whole_fault Tid f.tid
    ∷ text_fault Name f.name
    ∷ text_fault Cat f.cat
    ∷ where_read (reads_id phase) (id_fault f.id f.id2)
    ∷ where_read (reads_scope phase) (text_fault Scope f.scope)
    ∷ where_read (needs_id phase) (unless (is_some f.id || is_some f.id2) NoId)
    ∷ where_read (reads_reach phase) (unless (is_some (reach_of f.s)) BadReach)
    ∷ where_read (wants_whole_args phase) (unless (all_whole (args_of f.args)) BadSeries)
    ∷ []

-- the first fault of an event's fields
abbrev pub fault_of : Unit → Phase → Fields → Option ItemFault
fault_of unit phase f = first_fault (faults unit phase f)

-- the event that fields without a fault give
abbrev pub event_of : Unit → Phase → Fields → Event
event_of unit phase f = record {
  phase = phase;
  name = text_or_empty f.name;
  cat = text_or_empty f.cat;
  ts = if reads_time phase then time_or_zero unit f.ts else pos 0;
  dur = if reads_duration phase then duration_or_zero unit f.dur else 0;
  pid = whole_or_zero f.pid;
  tid = whole_or_zero f.tid;
  key = if reads_id phase then key_of (whole_or_zero f.pid) f.id f.id2 else None;
  scope = if reads_scope phase then text_or_empty f.scope else [];
  reach = if reads_reach phase then reach_of f.s else None;
  args = args_of f.args;
}

-- the item of an event's fields at their phase, if that is one that is used
abbrev pub item_of_phase : Unit → Fields → Option Phase → Item
item_of_phase unit f None = Other
item_of_phase unit f (Some phase) = unwrap_or (option_map Bad (fault_of unit phase f)) (Good (event_of unit phase f))

-- the item of an object whose `ph` is that text, if it is one
abbrev pub item_of_letter : Unit → Fields → Option (List ℕ) → Item
item_of_letter unit f None = Bad NoPhase
item_of_letter unit f (Some letter) = item_of_phase unit f (phase_of letter)

abbrev pub item_of_fields : Unit → Fields → Item
item_of_fields unit f = item_of_letter unit f (option_and_then words f.ph)

-- the item of an element, in a run of that unit
abbrev pub item_of_data : Unit → Data → Item
item_of_data unit (object ms) = item_of_fields unit (fields_of ms)
item_of_data unit _ = Bad NotObject
