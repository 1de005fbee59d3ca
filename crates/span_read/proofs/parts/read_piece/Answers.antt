use Rattle.std.proofs.Common.{◌-◌, [], subst, rules}
use Rattle.span_read.specs.Elements.{Adds, ReadsSoFar}
use Rattle.span_read.proofs.Cutting.{AreElements-read}
use Rattle.span_read.proofs.parts.read_piece.Goals as goal

pub returns-in-Text : goal.returns-in-Text
returns-in-Text c =
    let taken = rw c.in-Text.is at c.in_ok-end.ensures.taken in
    let all = subst (λ ts. ReadsSoFar (c.args.piece.depth - 1) ts [] (Adds c.args.piece.format c.new-elements.result c.take.new.self)) c.in_ok-new.ensures.ok taken.1 in
    AreElements-read c.args.piece.format (c.args.piece.depth - 1) c.args.piece.text.now c.new-elements.result c.take.new.self c.new-elements.ensures.items c.new-elements.ensures.few (search rules) all
