use Rattle.std.specs.Str.{IsUtf8}
use Rattle.std.proofs.Common.{subst, sym, true≢false}
use Rattle.template_names.proofs.Utf8.{IsUtf8-merged}
use Rattle.template_names.proofs.merging.merged.Goals as goal

pub unreachable-requires : goal.unreachable-requires
unreachable-requires c = true≢false (sym (c.in-Err.ensures.succeeds (subst IsUtf8 (sym c.in_ok-written.ensures) (IsUtf8-merged c.args.text.now c.utf8.text))))
