use Rattle.std.specs.Prelude.{fold}
use Rattle.std.proofs.Common.{◌≡◌, take}
use Rattle.span_table.specs.KeyWrites.{key_writes}
use Rattle.span_table.proofs.key.KeyHash.hash.Given as goal

-- the values so far were written
abbrev pub invariant-loop-value : goal.invariant-loop-value
invariant-loop-value g l = l.state ≡ fold g.H.Hasher.write l.initial.state (key_writes (take l.value-index l.value-items))
