use Rattle.std.proofs.Common.{List, ◌++◌, ap}
use Rattle.span_runs.specs.{Bytes}
use Rattle.span_runs.proofs.Listing.{names_from-names_in}
use Rattle.span_runs.proofs.names.with_names.Goals as goal

-- no byte is taken
pub loop-byte-init : goal.loop-byte-init
loop-byte-init c = rw (c.separator_of-separator.ensures, c.new-begun.ensures.items) (ap (λ (names : List Bytes). c.args.given.items ++ names) (names_from-names_in c.args.bytes.now))
