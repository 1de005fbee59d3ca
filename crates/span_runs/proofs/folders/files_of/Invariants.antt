use Rattle.std.proofs.Common.{take}
use Rattle.span_runs.proofs.FolderFiles.{HasListed}
use Rattle.span_runs.proofs.folders.files_of.Given as goal

-- the files of the names so far are listed
abbrev pub invariant-loop-name : goal.invariant-loop-name
invariant-loop-name g l = HasListed (g.S.Source.folders l.source) l.ending (take l.name-index l.names) l.files.items l.cut
