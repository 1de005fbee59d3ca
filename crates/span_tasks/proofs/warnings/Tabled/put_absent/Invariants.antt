use Rattle.std.proofs.Common.{◌≡◌, ◌++◌, drop, string_bytes}
use Rattle.span_tasks.specs.Warnings.{absent_from}
use Rattle.span_tasks.proofs.warnings.Tabled.put_absent.Given as goal

-- the lines of the columns to come complete those of all
abbrev pub invariant-loop-place : goal.invariant-loop-place
invariant-loop-place l = string_bytes l.out ++ absent_from l.place (drop l.place l.self.columns.now) (l.self.tables.now ++ l.self.more.now)
    ≡ string_bytes l.fn.out ++ absent_from 0 l.self.columns.now (l.self.tables.now ++ l.self.more.now)
