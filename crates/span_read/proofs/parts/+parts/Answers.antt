use Rattle.std.proofs.Common.{◌≡◌, ◌-◌, ◌++◌, sym, subst}
use Rattle.span_read.specs.Parts.{AreElements}
use Rattle.span_read.proofs.Cutting.{AreElements-cut}
use Rattle.span_read.proofs.parts.+parts.Goals as goal

pub read_part-returns : goal.read_part-returns
read_part-returns g t c =
    let part = c.args.part in
    let first = rw c.in_ok-items.was at c.read_both-first.ensures.front in
    let second = rw c.in_ok-second.was at c.read_both-first.ensures.back in
    let joined : c.join.new.self ≡ c.in_ok-items.items ++ c.in_ok-second.field-0 = c.in_ok-join.ensures.items in
    subst (AreElements part.format.unit (part.depth - 1) part.text.now) (sym joined) (AreElements-cut part.format.unit (part.depth - 1) part.text.now c.in-Some.front.now c.in-Some.back.now _ _ c.in-Some.ensures first second)
