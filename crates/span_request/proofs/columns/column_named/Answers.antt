use Rattle.std.proofs.Common.{◌∙◌, ap, sym, true≢false}
use Rattle.span_request.specs.Columns.{has_comma}
use Rattle.span_request.proofs.ColumnNames.{found-named, has_comma-named}
use Rattle.span_request.proofs.columns.column_named.Goals as goal

pub returns-then-has_comma : goal.returns-then-has_comma
returns-then-has_comma c = λ column is. true≢false (c.if-has_comma.ensures ∙ ap has_comma (sym is.0) ∙ has_comma-named column is.1)

pub returns : goal.returns
returns c = found-named c.args.name.now c.named.result (sym c.if-has_comma.ensures) c.named.ensures.name c.named.ensures.found c.named.ensures.key c.named.ensures.parent_key
