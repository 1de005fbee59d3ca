-- A time or a length, as a field gives it in the unit of a run.
use Rattle.std.specs.{Float.{Float, fin, Ieee.{up, down, Nearest.closest}}, Int.RustNames.int_le, Prelude.{ℕ, ◌*◌, ◌≤◌, ℤ, pos, neg_ℤ, ◌*ℤ◌, ◌≤ℤ◌, ◌&&◌, ⊤, Option, Some, None, option_map, option_and_then, if◌then◌else◌}}
use Rattle.fast_float.specs.Text.{with_sign}
use Rattle.span_read.specs.{Event, Item, Good, greatest_time, Unit, Microseconds, Nanoseconds, Fields.whole, declared.fields.FieldValue.FieldValue}
use Rattle.span_read.specs.declared.fields.FieldValue.TheVariants as field

-- a float of microseconds, m * 2 ^ e, as whole nanoseconds: the number nearest to 1000 * m * 2 ^ e, and of two as near the even one; 2 ^ e is the fraction up e / down e
abbrev pub nanoseconds : Float → Option ℤ
nanoseconds (fin negative m e) = Some (with_sign negative (closest (1000 * (m * up e)) (down e)))
nanoseconds _ = None

-- a field's number of microseconds, as whole nanoseconds
abbrev pub nanoseconds_of : FieldValue → Option ℤ
nanoseconds_of (field.Float x) = nanoseconds x
nanoseconds_of v = option_map (λ n. pos 1000 *ℤ n) (whole v)

-- the number, if its size is in range
abbrev pub within : ℕ → ℤ → Option ℤ
within greatest n = if int_le (neg_ℤ (pos greatest)) n && int_le n (pos greatest) then Some n else None

-- how many of the unit a field's number is, of any size: whole microseconds, or any number as nanoseconds
abbrev pub number_in : Unit → FieldValue → Option ℤ
number_in Microseconds v = whole v
number_in Nanoseconds v = nanoseconds_of v

-- the greatest time and length in the unit; in microseconds 2^53 - 1, up to which a float has each whole number
abbrev pub greatest_in : Unit → ℕ
greatest_in Microseconds = 9007199254740991
greatest_in Nanoseconds = greatest_time

-- how many of the unit a field says, if it says a number that the unit takes, in its range
abbrev pub time_in : Unit → FieldValue → Option ℤ
time_in unit v = option_and_then (within (greatest_in unit)) (number_in unit v)

-- the time is in the range of the unit
abbrev pub IsTimeIn : Unit → ℤ → Type 0
IsTimeIn unit t = (neg_ℤ (pos (greatest_in unit)) ≤ℤ t) × (t ≤ℤ pos (greatest_in unit))

-- the time and the length of an event are in the range of the unit
pub record IsInRange (unit : Unit) (event : Event) : Type 0 where
  pub time : IsTimeIn unit event.ts
  pub length : event.dur ≤ greatest_in unit

-- so are those of an item's event, if it has one
abbrev pub IsItemInRange : Unit → Item → Type 0
IsItemInRange unit (Good event) = IsInRange unit event
IsItemInRange unit item = ⊤
