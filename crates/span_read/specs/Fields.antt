-- The fields of an event, each as a member of the element's object gives it. A member that is null is there.
use Rattle.std.specs.{Fmt.signed_decimal, Map.lookup, Option.option_or, Prelude.{ℤ, pos, List, [], ◌∷◌, Option, Some, None, option_map, option_and_then, unwrap_or, codes}}
use Rattle.serde_json.specs.{Data.{Data, null, boolean, number, float, string, object, Members, no_members, member}, Find.{get_member, as_i64}}
use Rattle.span_read.specs.{ArgValue, Whole, Words, Flag, Nil, Other, IdKey, Reach, Global, Process, Thread, Arguments, as_text, as_whole, value_of, Bytes, same_text, declared.fields.{FieldValue.{FieldValue, TheVariants.{Plain, Float, Pairs}}, Fields.Fields}}

-- a value by its kind; a number is whole if it fits 64 bits with its sign, and `1.0`, `1e3` and `-0` are not whole
abbrev pub arg_value : Data → ArgValue
arg_value null = Nil
arg_value (boolean b) = Flag b
arg_value (number n) = unwrap_or (option_map Whole (as_i64 n)) Other
arg_value (string s) = Words s
arg_value _ = Other

abbrev pub pairs_of : Members → Arguments
pairs_of no_members = []
pairs_of (member name d ms) = (name, arg_value d) ∷ pairs_of ms

-- of an object its members are read, by their kinds, and of a number with a point or an exponent its value
abbrev pub field_value : Data → FieldValue
field_value (object ms) = Pairs (pairs_of ms)
field_value (number (float x)) = Float x
field_value d = Plain (arg_value d)

abbrev pub field_at : Bytes → Members → Option FieldValue
field_at name ms = option_map field_value (get_member name ms)

-- the members of an event's object that are read, each under its name
abbrev pub fields_of : Members → Fields
fields_of ms = record {
  ph = field_at (codes "ph") ms;
  ts = field_at (codes "ts") ms;
  dur = field_at (codes "dur") ms;
  pid = field_at (codes "pid") ms;
  tid = field_at (codes "tid") ms;
  name = field_at (codes "name") ms;
  cat = field_at (codes "cat") ms;
  id = field_at (codes "id") ms;
  id2 = field_at (codes "id2") ms;
  scope = field_at (codes "scope") ms;
  s = field_at (codes "s") ms;
  args = field_at (codes "args") ms;
}

-- the number or the text that a field is
abbrev pub whole : FieldValue → Option ℤ
whole (Plain v) = as_whole v
whole _ = None

abbrev pub words : FieldValue → Option Bytes
words (Plain v) = as_text v
words _ = None

-- what is no object has no members
abbrev pub pairs : FieldValue → Arguments
pairs (Pairs ps) = ps
pairs _ = []

abbrev pub whole_or_zero : Option FieldValue → ℤ
whole_or_zero f = unwrap_or (option_and_then whole f) (pos 0)

abbrev pub text_or_empty : Option FieldValue → Bytes
text_or_empty f = unwrap_or (option_and_then words f) []

-- an id is a text, or a whole number, which is read as its decimal text
abbrev pub id_text : ArgValue → Option Bytes
id_text v = option_or (as_text v) (option_map signed_decimal (as_whole v))

-- an id that is known everywhere, or in one process alone
abbrev pub key_with : Option ℤ → ArgValue → Option IdKey
key_with home v = option_map (λ t. record { home = home; id = t }) (id_text v)

-- `id2` has a member `global`, or else a member `local`, which is known in its process alone
abbrev pub parts_key : ℤ → Option ArgValue → Option ArgValue → Option IdKey
parts_key pid (Some global) local = key_with None global
parts_key pid None (Some local) = key_with (Some pid) local
parts_key pid None None = None

-- the key that `id` gives, which must be a text or a whole number, or else `id2`
abbrev pub key_of : ℤ → Option FieldValue → Option FieldValue → Option IdKey
key_of pid (Some (Plain v)) id2 = key_with None v
key_of pid (Some _) id2 = None
key_of pid None (Some id2) = parts_key pid (value_of (codes "global") (pairs id2)) (value_of (codes "local") (pairs id2))
key_of pid None None = None

-- each word of `s` with what it says
abbrev pub reaches : List (Bytes × Reach)
reaches = (codes "g", Global) ∷ (codes "p", Process) ∷ (codes "t", Thread) ∷ []

-- an instant without `s` reaches its thread
abbrev pub reach_of : Option FieldValue → Option Reach
reach_of None = Some Thread
reach_of (Some f) = option_and_then (λ word. lookup (same_text word) reaches) (words f)

-- `args` that is no object is read as empty
abbrev pub args_of : Option FieldValue → Arguments
args_of f = unwrap_or (option_map pairs f) []
