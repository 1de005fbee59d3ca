use Rattle.std.proofs.Common.{inr, length, subst}
use Rattle.span_tasks.specs.{BeginOtherwise}
use Rattle.span_tasks.proofs.Begun.{AreFirst-brought}
use Rattle.span_tasks.proofs.reading.read_up_to.Goals as goal

-- they begin otherwise
pub returns-then-begins_otherwise-clause-begun : goal.returns-then-begins_otherwise-clause-begun
returns-then-begins_otherwise-clause-begun g c =
    let left = g.R.Read.remaining in
    let brings = c.in_ok-read_some.ensures.brought in
    let bytes = c.read_some.new.bytes.items in
    inr (
      length bytes,
      AreFirst-brought (left c.args.reader.now) (left c.loop-first.reader) (left c.read_some.new.reader) c.loop-first.bytes.items brings.brought bytes c.loop-first.invariant.given brings.consumed brings.appended,
      subst (BeginOtherwise c.args.extent.first) c.deref.ensures.value (c.begins_otherwise.ensures.0 c.if-begins_otherwise.true),
    )
