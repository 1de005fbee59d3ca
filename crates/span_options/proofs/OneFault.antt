-- Words have one fault at most: none of the tests that a command without subcommands makes comes to two kinds.
use Rattle.std.proofs.Common.{◌≡◌, ◌≤◌, ◌==◌, ◌&&◌, ℕ, Bool, cond, false, true, zero, suc, List, [], ◌∷◌, Option, Some, None, length, nat_lt, drop, slice_get, is_some, chars, encode_utf8, ◌||◌, ap, inl, inr, refl, sym, arith}
use Rattle.std.specs.Option.{option_map_or}
use Rattle.clap.specs.Facts.{parser_of_value, unwrap_or_range}
use Rattle.clap.specs.Faults.{action_fault, bundle_step_fault, built_fault, count_fault, default_fault, defaults_fault, flag_word_fault, flags_fault, level_fault, long_fault, option_fault, other_fault, positional_fault, react_fault, set_fault, settle_fault, short_fault, step_fault, stray_fault, turn_fault, use_fault, values_fault, walk_fault, word_fault}
use Rattle.clap.specs.Kinds.{IsAmong, Kinds, check_kinds, or_else, range_kinds, request_kinds, value_kinds, values_kinds}
use Rattle.clap.specs.Simple.{Shape, built}
use Rattle.clap.specs.Lexer.{long_of, short_of}
use Rattle.clap.specs.Walk.{Held, Row, Rule, Step, Text, Waiting, Walk, action_of, arg_by_id, arg_by_index, arg_by_long, arg_by_short, attached_value, has_row, idle, is_empty, most_values, nothing_held, reacted, settled, value, values_or_missing, walk, walk_from, walked, with_default, word_met}
use Rattle.clap.specs.declared.builder.action.ArgAction.{ArgAction}
use Rattle.clap.specs.declared.builder.action.ArgAction.TheVariants as action
use Rattle.clap.specs.declared.builder.value_parser.ValueParser.{ValueParser}
use Rattle.clap.specs.declared.error.kind.ErrorKind.{ErrorKind}
use Rattle.span_options.specs.{Command.{command}, Laws.{FaultsAreAlone}}

record IsSingle (kinds : Kinds) : Type 0 where
  pub at_most : length kinds ≤ 1

none : IsSingle []
none = record { at_most = omega arith }

one : (kind : ErrorKind) → IsSingle (kind ∷ [])
one kind = record { at_most = omega arith }

or_else-single : (first next : Kinds) → IsSingle first → IsSingle next → IsSingle (or_else first next)
or_else-single [] next first_is next_is = next_is
or_else-single (kind ∷ kinds) next first_is next_is = first_is

cond-single : (test : Bool) (where_true where_false : Kinds) → IsSingle where_true → IsSingle where_false → IsSingle (cond test where_true where_false)
cond-single true where_true where_false true_is false_is = true_is
cond-single false where_true where_false true_is false_is = false_is

option_map_or-single : {X : Type 0} (of : X → Kinds) (some : Option X) (other : Kinds) → ((x : X) → IsSingle (of x)) → IsSingle other
    → IsSingle (option_map_or of some other)
option_map_or-single of None other of_is other_is = other_is
option_map_or-single of (Some x) other of_is other_is = of_is x

-- ---- one use of an argument

value_kinds-single : (ignore_case : Bool) (parser : ValueParser) (text : Text) → IsSingle (value_kinds ignore_case parser text)
value_kinds-single ignore_case parser text = cond-single _ _ _ none (one _)

values_kinds-single : (ignore_case : Bool) (parser : ValueParser) (values : List Text) → IsSingle (values_kinds ignore_case parser values)
values_kinds-single ignore_case parser [] = none
values_kinds-single ignore_case parser (text ∷ values) =
    or_else-single _ _ (value_kinds-single ignore_case parser text) (values_kinds-single ignore_case parser values)

range_kinds-single : (least most n : ℕ) → IsSingle (range_kinds least most n)
range_kinds-single least most n = cond-single (nat_lt 0 least && n == 0) _ _ (one _)
    (cond-single (least == most) _ _ (cond-single _ _ _ none (one _))
    (cond-single (nat_lt n least) _ _ (one _) (cond-single (nat_lt most n) _ _ (one _) none)))

request_kinds-single : (asked : ArgAction) → IsSingle (request_kinds asked)
request_kinds-single action.Help = one _
request_kinds-single action.HelpShort = one _
request_kinds-single action.HelpLong = one _
request_kinds-single action.Version = one _
request_kinds-single other = none

values_fault-single : (rule : Rule) (values : List Text) → IsSingle (values_fault rule values)
values_fault-single rule values = values_kinds-single rule.ignore_case (parser_of_value rule.parser) values

count_fault-single : (rule : Rule) (values : List Text) (rows : List Row) → IsSingle (count_fault rule values rows)
count_fault-single rule [] rows = cond-single _ _ _ none (one _)
count_fault-single rule (text ∷ values) rows = values_fault-single rule (text ∷ values)

set_fault-single : (again : Bool) (rule : Rule) (values : List Text) (rows : List Row) → IsSingle (set_fault again rule values rows)
set_fault-single again rule values rows = or_else-single _ _ (cond-single _ _ _ (one _) none) (values_fault-single rule values)

action_fault-single : (asked : ArgAction) (again : Bool) (rule : Rule) (values : List Text) (rows : List Row)
    → IsSingle (action_fault asked again rule values rows)
action_fault-single action.Set again rule values rows = set_fault-single again rule values rows
action_fault-single action.SetTrue again rule values rows = set_fault-single again rule values rows
action_fault-single action.SetFalse again rule values rows = set_fault-single again rule values rows
action_fault-single action.Append again rule values rows = values_fault-single rule values
action_fault-single action.Count again rule values rows = count_fault-single rule values rows
action_fault-single other again rule values rows = request_kinds-single other

use_fault-single : (again : Bool) (rule : Rule) (values : List Text) (rows : List Row) → IsSingle (use_fault again rule values rows)
use_fault-single again rule values rows =
    or_else-single _ _ (range_kinds-single (unwrap_or_range rule.range).start_inclusive (most_values rule) (length values))
    (action_fault-single (action_of rule) again rule (values_or_missing rule values) rows)

-- ---- one word

module _ (rules : List Rule) (again : Bool) where
  settle_fault-single : (held : Held) → IsSingle (settle_fault rules again held)
  settle_fault-single held = option_map_or-single _ held.pending _
      (λ p. option_map_or-single _ (arg_by_id rules p.0) _ (λ rule. use_fault-single again rule p.1 held.rows) none) none

  react_fault-single : (rule : Rule) (values : List Text) (held : Held) → IsSingle (react_fault rules again rule values held)
  react_fault-single rule values held = or_else-single _ _ (settle_fault-single held) (use_fault-single again rule values (settled rules held).rows)

  option_fault-single : (rule : Rule) (attached : Option Text) (held : Held) → IsSingle (option_fault rules again rule attached held)
  option_fault-single rule None held = settle_fault-single held
  option_fault-single rule (Some text) held = react_fault-single rule (text ∷ []) held

  long_fault-single : (met : Option Rule) (attached : Option Text) (held : Held) → IsSingle (long_fault rules again met attached held)
  long_fault-single None attached held = one _
  long_fault-single (Some rule) attached held = cond-single _ _ _ (option_fault-single rule attached held)
      (cond-single _ _ _ (one _) (react_fault-single rule [] held))

  short_fault-single : (met : Option Rule) (rest : Text) (held : Held) (next : Held → Kinds) → ((after : Held) → IsSingle (next after))
      → IsSingle (short_fault rules again met rest held next)
  short_fault-single None rest held next next_is = one _
  short_fault-single (Some rule) rest held next next_is = cond-single _ _ _ (option_fault-single rule (attached_value rest) held)
      (or_else-single _ _ (react_fault-single rule [] held) (next_is (reacted rules rule [] held)))

  bundle_step_fault-single : (first : Option ℕ) (flags : Text) (skip : ℕ) (held : Held) (next : Text → ℕ → Held → Kinds)
      → ((rest : Text) (less : ℕ) (after : Held) → IsSingle (next rest less after)) → IsSingle (bundle_step_fault rules again first flags skip held next)
  bundle_step_fault-single None flags skip held next next_is = none
  bundle_step_fault-single (Some x) flags zero held next next_is =
      let rest = drop (length (encode_utf8 x)) flags in
      short_fault-single (arg_by_short rules x) rest held (next rest 0) (next_is rest 0)
  bundle_step_fault-single (Some x) flags (suc skip) held next next_is = next_is (drop (length (encode_utf8 x)) flags) skip held

  flags_fault-single : (most : ℕ) (flags : Text) (skip : ℕ) (held : Held) → IsSingle (flags_fault rules again most flags skip held)
  unfolding flags_fault
  flags_fault-single zero flags skip held = none
  flags_fault-single (suc most) flags skip held =
      bundle_step_fault-single (slice_get (chars flags) 0) flags skip held (flags_fault rules again most) (flags_fault-single most)

  flag_word_fault-single : (long : Option (Text × Option Text)) (word : Text) (held : Held) → IsSingle (flag_word_fault rules again long word held)
  flag_word_fault-single None word held =
      option_map_or-single _ (short_of word) _ (λ flags. flags_fault-single (length flags) flags held.skip (record held { skip = 0 })) none
  flag_word_fault-single (Some p) word held = long_fault-single (arg_by_long rules p.0) p.1 held

  positional_fault-single : (rule : Rule) (held : Held) → IsSingle (positional_fault rules again rule held)
  positional_fault-single rule held = cond-single _ _ _ none (settle_fault-single held)

-- ---- after the words

default_fault-single : (rows : List Row) (rule : Rule) → IsSingle (default_fault rows rule)
default_fault-single rows rule =
    cond-single (has_row rule.id rows || is_empty rule.defaults) _ _ none
    (or_else-single _ _ (request_kinds-single (action_of rule)) (values_fault-single rule rule.defaults))

defaults_fault-single : (rows : List Row) (rules : List Rule) → IsSingle (defaults_fault rows rules)
unfolding defaults_fault
defaults_fault-single rows [] = none
defaults_fault-single rows (rule ∷ rules) = or_else-single _ _ (default_fault-single rows rule) (defaults_fault-single (with_default rows rule) rules)

check_kinds-single : (wants_help wants_subcommand wants_argument : Bool) → IsSingle (check_kinds wants_help wants_subcommand wants_argument)
check_kinds-single true wants_subcommand wants_argument = one _
check_kinds-single false true wants_argument = one _
check_kinds-single false false true = one _
check_kinds-single false false false = none

-- ---- words of a command without subcommands

module _ (shape : Shape) (leaf : shape.is_leaf ≡ true) where
  other_fault-single : (word : Text) (held : Held) → IsSingle (other_fault shape None word held)
  other_fault-single word held = cond-single _ _ _ none (flag_word_fault-single shape.rules shape.args_override_self (long_of word) word held)

  word_fault-single : (is_trailing : Bool) (waiting : Waiting) (word : Text) (held : Held) → IsSingle (word_fault shape [] is_trailing waiting word held)
  word_fault-single is_trailing idle word held = cond-single is_trailing _ _ none (other_fault-single word held)
  word_fault-single is_trailing other word held = cond-single is_trailing _ _ none (other_fault-single word held)

  stray_fault-single : IsSingle (stray_fault shape)
  stray_fault-single = rw leaf (one _)

  step_fault-single : (position : ℕ) (held : Held) (step : Step) → IsSingle (step_fault shape position held step)
  step_fault-single position held value =
      option_map_or-single _ (arg_by_index shape.rules position) _ (λ rule. positional_fault-single shape.rules shape.args_override_self rule held)
      stray_fault-single
  step_fault-single position held other = none

  turn_fault-single : (before : Walk) (word : Text) → IsSingle (turn_fault shape [] before word)
  turn_fault-single before word =
      let met = word_met shape.rules [] before.is_trailing before.waiting before.position word before.held in
      cond-single (is_some before.stopped) _ _ none
      (or_else-single _ _ (word_fault-single before.is_trailing before.waiting word before.held) (step_fault-single before.position met.0 met.1))

  walk_fault-single : (before : Walk) (words : List Text) → IsSingle (walk_fault shape [] before words)
  unfolding walk_fault
  walk_fault-single before [] = none
  walk_fault-single before (word ∷ words) =
      or_else-single _ _ (turn_fault-single before word) (walk_fault-single (walked shape.rules [] before word) words)

  level_fault-single : (held : Held) (words : List Text) (has_subcommand : Bool) (below : Kinds) → IsSingle below
      → IsSingle (level_fault shape [] held words has_subcommand below)
  level_fault-single held words has_subcommand below below_is =
      let end = (walk shape.rules [] held words).held in
      or_else-single _ _ (walk_fault-single (walk_from held) words) (or_else-single _ _ below_is
      (or_else-single _ _ (settle_fault-single shape.rules shape.args_override_self end)
      (or_else-single _ _ (defaults_fault-single (settled shape.rules end).rows shape.rules)
      (check_kinds-single _ _ _))))

  built_fault-single : (held : Held) (words : List Text) → IsSingle (built_fault (record { top = shape; subs = [] }) held words)
  built_fault-single held words = level_fault-single held words _ _ (option_map_or-single _ _ _ (λ p. none) none)

-- the faults of words are one at most
pub faults-single : FaultsAreAlone
faults-single words = (built_fault-single (built command).top refl nothing_held words).at_most

-- where there is one kind at most, a kind that is among them is the first
pub first-among : (kinds : Kinds) (kind : ErrorKind) → length kinds ≤ 1 → IsAmong kind kinds → slice_get kinds 0 ≡ Some kind
first-among [] kind single among = absurd among
first-among (first ∷ []) kind single (inl is) = ap (λ is_first. Some is_first) (sym is)
first-among (first ∷ []) kind single (inr among) = absurd among
first-among (first ∷ second ∷ others) kind single among = absurd (omega arith)
