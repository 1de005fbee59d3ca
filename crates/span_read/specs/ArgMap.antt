-- The pairs that are kept, few or many.
use Rattle.span_read.specs.{Arguments, declared.arg_map.ArgPairs.{ArgPairs, TheVariants.{Few, Many}}}

abbrev pub pairs_in : ArgPairs → Arguments
pairs_in (Few pairs) = pairs.items
pairs_in (Many map) = map.entries
