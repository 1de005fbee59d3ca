-- Items that are kept in blocks; for private clauses.
use Rattle.std.specs.{Global.Vec, Prelude.{◌≡◌, List, [], flat_map, Option, Some, None}}
use Rattle.span_read.specs.{Item}

-- the items of blocks, one block after another
abbrev pub in_blocks : List (Vec Item) → List Item
in_blocks = flat_map (λ block. block.items)

abbrev pub of_block : Option (Vec Item) → List Item
of_block None = []
of_block (Some block) = block.items

abbrev pub HasItems : Vec Item → Type 0
HasItems block = block.items ≡ [] → ⊥
