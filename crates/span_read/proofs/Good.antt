-- Members without a fault give a good event, so each item of an element is good.
use Rattle.std.specs.{Int.RustNames.int_le, List.AllByRecursion as ByRecursion}
use Rattle.std.proofs.{Common.{◌≡◌, ℕ, ℤ, pos, negsuc, neg_ℤ, ◌≤◌, ◌≤ℤ◌, List, [], ◌∷◌, Bool, true, false, ◌&&◌, ◌||◌, Option, Some, None, IsSome, IfSome, ◌⊎◌, inl, inr, is_some, All, unwrap_or, option_map, option_and_then, codes, if◌then◌else◌, refl, sym, subst, ◌∙◌, arith}, lemmas.{Int.ints, List.Elements.{All-from_recursion, All-weaker}}}
use Rattle.serde_json.specs.Data.{Data, null, boolean, number, string, array, object, Items, no_items, item}
use Rattle.span_event.specs.declared.event.Phase.{Phase}
use Rattle.span_read.specs.{ArgValue, Whole, Words, Flag, Nil, Other, SpanBegin, SpanEnd, Complete, AsyncBegin, AsyncPoint, AsyncEnd, FlowStart, FlowStep, FlowEnd, Counter, Instant, Meta, IdKey, Id, Item, Good, Bad, ItemFault, NotWhole, BadField, NoId, BadReach, BadSeries, IsTime, IsKnownAt, IsGoodAt, greatest_time, IsGoodItem, value_of, AllWhole, all_whole, natural, Unit, Microseconds, Nanoseconds, Document.items_of, Element.{unless, where_read, time_fault, duration_fault, is_length, time_or_zero, duration_or_zero, id_fault, first_fault, faults, fault_of, event_of, item_of_phase, item_of_letter, item_of_fields, item_of_data}, Fields.{fields_of, words, pairs, whole_or_zero, id_text, parts_key, key_of, reach_of, args_of}, Phase.{reads_time, reads_duration, reads_id, needs_id, reads_reach, wants_whole_args, phase_of}, Time.{IsItemInRange, IsTimeIn, greatest_in, number_in, time_in, within}, declared.fields.{FieldValue.{FieldValue, TheVariants.{Plain, Float, Pairs}}, Fields.Fields}}

-- ---- no fault in a list is no fault in each

all_none : (fs : List (Option ItemFault)) → first_fault fs ≡ None → ByRecursion (λ f. f ≡ None) fs
all_none [] none = tt
all_none (None ∷ fs) none = (refl, all_none fs none)
all_none (Some fault ∷ fs) none = cc

-- a test that gives no fault holds
holds : (b : Bool) (fault : ItemFault) → unless b fault ≡ None → b ≡ true
holds true fault none = refl
holds false fault none = cc

-- ---- field by field

abbrev key_record : Option ℤ → List ℕ → IdKey
key_record home id = record { home = home; id = id }

zero_time : (unit : Unit) → IsTimeIn unit (pos 0)
zero_time Microseconds = (omega (arith, ints), omega (arith, ints))
zero_time Nanoseconds = (omega (arith, ints), omega (arith, ints))

-- a number is in range where a test says so
within_is : (greatest : ℕ) (n z : ℤ) → within greatest n ≡ Some z → (neg_ℤ (pos greatest) ≤ℤ z) × (z ≤ℤ pos greatest)
within_is greatest n z is = by_test (int_le (neg_ℤ (pos greatest)) n && int_le n (pos greatest)) refl is
  where
    by_test : (b : Bool) → (int_le (neg_ℤ (pos greatest)) n && int_le n (pos greatest)) ≡ b → (if b then Some n else None) ≡ Some z → (neg_ℤ (pos greatest) ≤ℤ z) × (z ≤ℤ pos greatest)
    by_test true h same = let here : n ≡ z = cc in rw (← here) (grind (arith, ints), grind (arith, ints))
    by_test false h none = cc

in_range : (greatest : ℕ) (o : Option ℤ) (z : ℤ) → option_and_then (within greatest) o ≡ Some z → (neg_ℤ (pos greatest) ≤ℤ z) × (z ≤ℤ pos greatest)
in_range greatest None z none = cc
in_range greatest (Some n) z is = within_is greatest n z is

time_of_number : (unit : Unit) (v : FieldValue) (z : ℤ) → time_in unit v ≡ Some z → IsTimeIn unit z
time_of_number unit v z is = in_range (greatest_in unit) (number_in unit v) z is

-- the time of an event, where it is read, is in range; else it is 0
time_at : (unit : Unit) (read : Bool) (f : Option FieldValue) → where_read read (time_fault unit f) ≡ None → IsTimeIn unit (if read then time_or_zero unit f else pos 0)
time_at unit false f none = zero_time unit
time_at unit true None none = cc
time_at unit true (Some v) none = by (time_in unit v) refl (holds _ NotWhole none)
  where
    by : (o : Option ℤ) → time_in unit v ≡ o → is_some o ≡ true → IsTimeIn unit (unwrap_or o (pos 0))
    by None is right = cc
    by (Some z) is right = time_of_number unit v z is

natural-within : (greatest : ℕ) (z : ℤ) → z ≤ℤ pos greatest → natural z ≤ greatest
natural-within greatest (pos n) below = omega (arith, ints)
natural-within greatest (negsuc n) below = omega arith

-- the length of an event, where it is read, is in range; else it is 0
duration_at : (unit : Unit) (read : Bool) (f : Option FieldValue) → where_read read (duration_fault unit f) ≡ None → (if read then duration_or_zero unit f else 0) ≤ greatest_in unit
duration_at unit false f none = omega arith
duration_at unit true None none = cc
duration_at unit true (Some v) none = by (time_in unit v) refl (holds _ NotWhole none)
  where
    by : (o : Option ℤ) → time_in unit v ≡ o → is_length o ≡ true → natural (unwrap_or o (pos 0)) ≤ greatest_in unit
    by None is right = cc
    by (Some z) is right = natural-within (greatest_in unit) z (time_of_number unit v z is).1

-- what is in the range of a unit is in the range of all times
IsTime-in : (unit : Unit) (t : ℤ) → IsTimeIn unit t → IsTime t
IsTime-in Microseconds t here = (omega (arith, ints, here), omega (arith, ints, here))
IsTime-in Nanoseconds t here = (omega (arith, ints, here), omega (arith, ints, here))

length-in : (unit : Unit) (n : ℕ) → n ≤ greatest_in unit → n ≤ greatest_time
length-in Microseconds n here = omega (arith, here)
length-in Nanoseconds n here = here

-- whether there is a key doesn't turn on the process
same_home : (home other : Option ℤ) (t : Option (List ℕ)) → is_some (option_map (key_record home) t) ≡ is_some (option_map (key_record other) t)
same_home home other None = refl
same_home home other (Some t) = refl

is_some-parts_key : (pid : ℤ) (global local : Option ArgValue) → is_some (parts_key pid global local) ≡ is_some (parts_key (pos 0) global local)
is_some-parts_key pid (Some g) local = refl
is_some-parts_key pid None (Some l) = same_home (Some pid) (Some (pos 0)) (id_text l)
is_some-parts_key pid None None = refl

pub is_some-key_of : (pid : ℤ) (id id2 : Option FieldValue) → is_some (key_of pid id id2) ≡ is_some (key_of (pos 0) id id2)
is_some-key_of pid (Some (Plain v)) id2 = refl
is_some-key_of pid (Some (Float x)) id2 = refl
is_some-key_of pid (Some (Pairs ps)) id2 = refl
is_some-key_of pid None (Some v) = is_some-parts_key pid (value_of (codes "global") (pairs v)) (value_of (codes "local") (pairs v))
is_some-key_of pid None None = refl

key_at_zero : (id id2 : Option FieldValue) → id_fault id id2 ≡ None → unless (is_some id || is_some id2) NoId ≡ None → is_some (key_of (pos 0) id id2) ≡ true
key_at_zero (Some (Plain v)) id2 right there = holds _ (BadField Id) right
key_at_zero (Some (Float x)) id2 right there = holds _ (BadField Id) right
key_at_zero (Some (Pairs ps)) id2 right there = holds _ (BadField Id) right
key_at_zero None (Some v) right there = holds _ (BadField Id) right
key_at_zero None None right there = cc

key_there : (pid : ℤ) (id id2 : Option FieldValue) → id_fault id id2 ≡ None → unless (is_some id || is_some id2) NoId ≡ None → IsSome (key_of pid id id2)
key_there pid id id2 right there = is_some-key_of pid id id2 ∙ key_at_zero id id2 right there

-- ---- where an id is known

home_of_text : (home : Option ℤ) (t : Option (List ℕ)) → (pid : ℤ) → (home ≡ None) ⊎ (home ≡ Some pid) → IfSome (option_map (key_record home) t) (IsKnownAt pid)
home_of_text home None pid known = tt
home_of_text home (Some t) pid known = known

home_of_parts : (pid : ℤ) (global local : Option ArgValue) → IfSome (parts_key pid global local) (IsKnownAt pid)
home_of_parts pid (Some g) local = home_of_text None (id_text g) pid (inl refl)
home_of_parts pid None (Some l) = home_of_text (Some pid) (id_text l) pid (inr refl)
home_of_parts pid None None = tt

home_of_key : (pid : ℤ) (id id2 : Option FieldValue) → IfSome (key_of pid id id2) (IsKnownAt pid)
home_of_key pid (Some (Plain v)) id2 = home_of_text None (id_text v) pid (inl refl)
home_of_key pid (Some (Float x)) id2 = tt
home_of_key pid (Some (Pairs ps)) id2 = tt
home_of_key pid None (Some v) = home_of_parts pid (value_of (codes "global") (pairs v)) (value_of (codes "local") (pairs v))
home_of_key pid None None = tt

home_at : (read : Bool) (pid : ℤ) (id id2 : Option FieldValue) → IfSome (if read then key_of pid id id2 else None) (IsKnownAt pid)
home_at true pid id id2 = home_of_key pid id id2
home_at false pid id id2 = tt

AllWhole-from_test : (ps : List (List ℕ × ArgValue)) → all_whole ps ≡ true → AllWhole ps
AllWhole-from_test [] right = tt
AllWhole-from_test ((name, Whole n) ∷ ps) right = (refl, AllWhole-from_test ps right)
AllWhole-from_test ((name, Words w) ∷ ps) right = cc
AllWhole-from_test ((name, Flag b) ∷ ps) right = cc
AllWhole-from_test ((name, Nil) ∷ ps) right = cc
AllWhole-from_test ((name, Other) ∷ ps) right = cc

-- ---- phase by phase

-- what the absence of each fault says of an event
record NoFaults (unit : Unit) (phase : Phase) (f : Fields) : Type 0 where
  no_time : where_read (reads_time phase) (time_fault unit f.ts) ≡ None
  no_duration : where_read (reads_duration phase) (duration_fault unit f.dur) ≡ None
  no_id : where_read (reads_id phase) (id_fault f.id f.id2) ≡ None
  no_lack : where_read (needs_id phase) (unless (is_some f.id || is_some f.id2) NoId) ≡ None
  no_reach : where_read (reads_reach phase) (unless (is_some (reach_of f.s)) BadReach) ≡ None
  no_series : where_read (wants_whole_args phase) (unless (all_whole (args_of f.args)) BadSeries) ≡ None

no_faults : (unit : Unit) (phase : Phase) (f : Fields) → fault_of unit phase f ≡ None → NoFaults unit phase f
no_faults unit phase f none =
    let each = all_none (faults unit phase f) none in
    let from_id = each.1.1.1.1.1.1 in
    record { no_time = each.0; no_duration = each.1.0; no_id = from_id.0; no_lack = from_id.1.1.0; no_reach = from_id.1.1.1.0; no_series = from_id.1.1.1.1.0 }

good_at : (unit : Unit) (phase : Phase) (f : Fields) → NoFaults unit phase f → IsGoodAt phase (event_of unit phase f)
good_at unit SpanBegin f none = (refl, refl, refl, refl)
good_at unit SpanEnd f none = (refl, refl, refl, refl)
good_at unit Complete f none = (length-in unit _ (duration_at unit true f.dur none.no_duration), refl, refl, refl)
good_at unit AsyncBegin f none = (refl, key_there _ _ _ none.no_id none.no_lack, refl)
good_at unit AsyncPoint f none = (refl, key_there _ _ _ none.no_id none.no_lack, refl)
good_at unit AsyncEnd f none = (refl, key_there _ _ _ none.no_id none.no_lack, refl)
good_at unit FlowStart f none = (refl, key_there _ _ _ none.no_id none.no_lack, refl, refl)
good_at unit FlowStep f none = (refl, key_there _ _ _ none.no_id none.no_lack, refl, refl)
good_at unit FlowEnd f none = (refl, key_there _ _ _ none.no_id none.no_lack, refl, refl)
good_at unit Counter f none = (refl, refl, refl, AllWhole-from_test (args_of f.args) (holds _ BadSeries none.no_series))
good_at unit Instant f none = (refl, refl, refl, holds _ BadReach none.no_reach)
good_at unit Meta f none = (refl, refl, refl, refl, refl)

-- what holds of the event that fields without a fault give
abbrev IsRead : Unit → Item → Type 0
IsRead unit read = IsGoodItem read × IsItemInRange unit read

IsRead-event_of : (unit : Unit) (phase : Phase) (f : Fields) → NoFaults unit phase f → IsRead unit (Good (event_of unit phase f))
IsRead-event_of unit phase f none =
    let time = time_at unit (reads_time phase) f.ts none.no_time in (
      record { in_time = IsTime-in unit _ time; by_home = home_at (reads_id phase) (whole_or_zero f.pid) f.id f.id2; by_phase = good_at unit phase f none },
      record { time = time; length = duration_at unit (reads_duration phase) f.dur none.no_duration },
    )

-- ---- the items

read_item_at : (unit : Unit) (phase : Phase) (f : Fields) (fault : Option ItemFault) → fault_of unit phase f ≡ fault → IsRead unit (unwrap_or (option_map Bad fault) (Good (event_of unit phase f)))
read_item_at unit phase f None is = IsRead-event_of unit phase f (no_faults unit phase f is)
read_item_at unit phase f (Some fault) is = (tt, tt)

read_item_of_phase : (unit : Unit) (f : Fields) (phase : Option Phase) → IsRead unit (item_of_phase unit f phase)
read_item_of_phase unit f None = (tt, tt)
read_item_of_phase unit f (Some phase) = read_item_at unit phase f _ refl

read_item_of_letter : (unit : Unit) (f : Fields) (letter : Option (List ℕ)) → IsRead unit (item_of_letter unit f letter)
read_item_of_letter unit f None = (tt, tt)
read_item_of_letter unit f (Some letter) = read_item_of_phase unit f (phase_of letter)

read_item_of_fields : (unit : Unit) (f : Fields) → IsRead unit (item_of_fields unit f)
read_item_of_fields unit f = read_item_of_letter unit f (option_and_then words f.ph)

pub IsGoodItem-item_of_fields : (unit : Unit) (f : Fields) → IsGoodItem (item_of_fields unit f)
IsGoodItem-item_of_fields unit f = (read_item_of_fields unit f).0

pub IsItemInRange-item_of_fields : (unit : Unit) (f : Fields) → IsItemInRange unit (item_of_fields unit f)
IsItemInRange-item_of_fields unit f = (read_item_of_fields unit f).1

read_item_of_data : (unit : Unit) (d : Data) → IsRead unit (item_of_data unit d)
read_item_of_data unit (object ms) = read_item_of_fields unit (fields_of ms)
read_item_of_data unit null = (tt, tt)
read_item_of_data unit (boolean b) = (tt, tt)
read_item_of_data unit (number n) = (tt, tt)
read_item_of_data unit (string s) = (tt, tt)
read_item_of_data unit (array ds) = (tt, tt)

are_read : (unit : Unit) (ds : Items) → ByRecursion (IsRead unit) (items_of unit ds)
are_read unit no_items = tt
are_read unit (item d ds) = (read_item_of_data unit d, are_read unit ds)

module _ (unit : Unit) (ds : Items) (items : List Item) (is : items ≡ items_of unit ds) where
  all_read : All (IsRead unit) items
  all_read = All-from_recursion (IsRead unit) items (subst (ByRecursion (IsRead unit)) (sym is) (are_read unit ds))

  pub All-good_items_of : All IsGoodItem items
  All-good_items_of = All-weaker (IsRead unit) IsGoodItem (λ one read. read.0) items all_read

  pub All-in_range_items_of : All (IsItemInRange unit) items
  All-in_range_items_of = All-weaker (IsRead unit) (IsItemInRange unit) (λ one read. read.1) items all_read
