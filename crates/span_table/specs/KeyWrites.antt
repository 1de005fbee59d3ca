-- What keys are hashed by.
use Rattle.std.specs.{Hash.{HashWrites, i64, u8}, Prelude.{true, false, [], ◌∷◌, ◌++◌, Some, None, flat_map}}
use Rattle.span_table.specs.{Nil, Flag, Whole, Words, Other, Columns.Value, Keys.TableKey}

-- a byte that no text has, which gives the kind, and then the value
abbrev pub value_writes : Value → HashWrites
value_writes None = u8 248
value_writes (Some Nil) = u8 249
value_writes (Some (Flag false)) = u8 250
value_writes (Some (Flag true)) = u8 251
value_writes (Some (Whole n)) = u8 252 ++ i64 n
value_writes (Some (Words text)) = u8 253 ++ text ∷ []
value_writes (Some Other) = u8 254

abbrev pub key_writes : TableKey → HashWrites
key_writes key = flat_map value_writes key
