use Rattle.std.proofs.Common.{◌≡◌, ◌++◌, map, string_bytes, take}
use Rattle.span_runs.specs.declared.source.Name.TheVariants.{File}
use Rattle.span_runs.proofs.folders.put_below.Given as goal

-- the files of the paths so far
abbrev pub invariant-loop-path : goal.invariant-loop-path
invariant-loop-path l = l.files.items ≡ l.fn.files.items ++ map (λ path. File (string_bytes l.beginning ++ path)) (take l.path-index l.below)
