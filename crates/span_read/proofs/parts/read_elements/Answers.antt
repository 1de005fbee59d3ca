use Rattle.std.proofs.Common.{◌-◌, ◌++◌, append_assoc, sym, ap, ◌∙◌, subst, rules}
use Rattle.span_read.specs.Parts.{AreElements}
use Rattle.span_read.proofs.Cutting.{AreElements-cut}
use Rattle.span_read.proofs.parts.read_elements.Goals as goal

pub pieces-preserved : goal.pieces-preserved
pieces-preserved c =
    let part = c.args.part in
    let piece = c.in_ok-read_piece.field-0 in (
      search rules,
      λ is more.
          let whole = AreElements-cut part.format.unit (part.depth - 1) c.pieces.rest.now c.in-Some.front.now c.in-Some.behind.now piece is c.in-Some.ensures c.in_ok-read_piece.ensures more in
          subst (AreElements part.format.unit (part.depth - 1) part.text.now) (sym (append_assoc c.pieces.items piece is) ∙ ap (λ xs. xs ++ is) (sym c.in_ok-join.ensures.items)) (c.pieces.invariant.1 (piece ++ is) whole),
    )

pub returns : goal.returns
returns c =
    let part = c.args.part in
    subst (AreElements part.format.unit (part.depth - 1) part.text.now) (sym c.in_ok-join-2.ensures.items) (c.pieces.invariant.1 c.in_ok-read_piece-2.field-0 c.in_ok-read_piece-2.ensures)
