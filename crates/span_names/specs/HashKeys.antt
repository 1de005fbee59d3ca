-- How keys hash.
use Rattle.std.specs.{Hash.DefaultHasher.initial, Prelude.{Option, Some, None}, RandomState.initial_hasher, declared.hash.{DefaultHasher.DefaultHasher, RandomState.RandomState}}
use Rattle.span_names.specs.declared.hash_keys.HashKeys.{HashKeys}

-- the hasher of random keys, where there are any; else that of the fixed ones
abbrev pub hasher_of : Option RandomState → DefaultHasher
hasher_of (Some keys) = initial_hasher keys
hasher_of None = initial

abbrev pub hasher_by : HashKeys → DefaultHasher
hasher_by keys = hasher_of keys.random
