use Rattle.std.proofs.Common.{◌≡◌, ◌++◌}
use Rattle.span_read.specs.Blocks.{in_blocks}
use Rattle.std.specs.Vec.Iter.{into_iter_items}
use Rattle.span_read.proofs.blocks.ItemBlocks.into_list.Given as goal

-- the blocks so far were moved
abbrev pub invariant-loop-block : goal.invariant-loop-block
invariant-loop-block l = (l.list.items ++ in_blocks (into_iter_items l.block-iterator)) ++ l.last.items ≡ l.fn.self
