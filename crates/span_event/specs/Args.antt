-- The arguments of an event, as a list of pairs of a name and a value.
use Rattle.std.specs.{BTreeMap.insert_entry, List.list_all, Prelude.{◌≡◌, ℤ, Bool, List, [], ◌∷◌, ◌++◌, Option, Some, None, IsSome, is_some, is_none, filter, if◌then◌else◌}, declared.cmp.Ordering.TheVariants.Less}
use Rattle.span_event.specs.{Text.{Bytes, text_cmp, same_text}, declared.args.ArgValue.{ArgValue, TheVariants.{Whole, Words, Flag, Nil, Other}}}

abbrev pub Arguments : Type 0
Arguments = List (Bytes × ArgValue)

-- the name is below each later name
abbrev pub IsBelowAll : Bytes → Arguments → Type 0
IsBelowAll name [] = Unit {0}
IsBelowAll name (p ∷ ps) = (text_cmp name p.0 ≡ Less) × IsBelowAll name ps

-- the names rise in byte order, so no name comes twice
abbrev pub IsInNameOrder : Arguments → Type 0
IsInNameOrder [] = Unit {0}
IsInNameOrder (p ∷ ps) = IsBelowAll p.0 ps × IsInNameOrder ps

-- the value of the first pair that has the name
abbrev pub value_of : Bytes → Arguments → Option ArgValue
value_of name [] = None
value_of name (p ∷ ps) = if same_text p.0 name then Some p.1 else value_of name ps

-- the pairs in byte order of their names
abbrev pub in_name_order : Arguments → Arguments
in_name_order [] = []
in_name_order (p ∷ ps) = insert_entry text_cmp (in_name_order ps) p.0 p.1

-- the pairs of a whose name b lacks
abbrev pub lacking : Arguments → Arguments → Arguments
lacking b a = filter (λ p. is_none (value_of p.0 b)) a

-- the pairs of b, and those of a whose name b lacks, in byte order of names
abbrev pub merged : Arguments → Arguments → Arguments
merged a b = in_name_order (b ++ lacking b a)

-- the number that a value is, if it is a whole number
abbrev pub as_whole : ArgValue → Option ℤ
as_whole (Whole n) = Some n
as_whole (Words w) = None
as_whole (Flag b) = None
as_whole Nil = None
as_whole Other = None

-- the text that a value is, if it is a text
abbrev pub as_text : ArgValue → Option Bytes
as_text (Whole n) = None
as_text (Words w) = Some w
as_text (Flag b) = None
as_text Nil = None
as_text Other = None

-- the truth value that a value is, if it is one
abbrev pub as_flag : ArgValue → Option Bool
as_flag (Whole n) = None
as_flag (Words w) = None
as_flag (Flag b) = Some b
as_flag Nil = None
as_flag Other = None

-- each value is a whole number
abbrev pub all_whole : Arguments → Bool
all_whole ps = list_all (λ p. is_some (as_whole p.1)) ps

abbrev pub AllWhole : Arguments → Type 0
AllWhole [] = Unit {0}
AllWhole (p ∷ ps) = IsSome (as_whole p.1) × AllWhole ps
