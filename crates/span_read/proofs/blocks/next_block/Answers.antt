use Rattle.std.specs.Vec.Iter.{into_iter_items}
use Rattle.std.proofs.lemmas.List.Elements.{All-tail}
use Rattle.span_read.specs.Blocks.{HasItems}
use Rattle.span_read.proofs.blocks.next_block.Goals as goal

pub returns-in-Some-clause-each : goal.returns-in-Some-clause-each
returns-in-Some-clause-each c = All-tail HasItems c.in-Some.block (into_iter_items c.next.new.self) (rw c.in-Some.ensures.cases.0 at c.requires)
