use Rattle.std.proofs.Common.{◌≡◌, map, take}
use Rattle.span_page.specs.{Input}
use Rattle.span_page.proofs.data.names_of.Given as goal

abbrev pub invariant-loop-file : goal.invariant-loop-file
invariant-loop-file l = map (λ name. name.now) l.names.items ≡ map (λ (file : Input). file.name) (take l.file-index l.files)
