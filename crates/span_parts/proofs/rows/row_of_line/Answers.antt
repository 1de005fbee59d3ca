use Rattle.std.proofs.Common.{map, sym, ap, subst, ◌∙◌}
use Rattle.json.specs.Reads.{token_of}
use Rattle.span_parts.specs.{json_line, IsRowOf, Schema}
use Rattle.span_parts.proofs.{Lines.tokens-line, Lists.{Some-same, no-both}}
use Rattle.span_parts.proofs.rows.row_of_line.Goals as goal

pub returns-in_default-clause-found : goal.returns-in_default-clause-found
returns-in_default-clause-found c = λ row is.
    let schema = c.args.shape.now.schema.now in
    let found = c.in_ok-row.ensures schema row c.requires.schema is.fits (c.deref.ensures.value ∙ ap (λ (s : Schema). s.numbers) c.schema.view_is) c.requires.names (ap (map token_of) c.deref-2.ensures.value ∙ c.in_ok-tokens.ensures ∙ tokens-line schema row c.args.line.now is) in
    sym c.in_default.is ∙ found

pub returns-clause-found : goal.returns-clause-found
returns-clause-found c = λ row is.
    let schema = c.args.shape.now.schema.now in
    let found = c.in_ok-row.ensures schema row c.requires.schema is.fits (c.deref.ensures.value ∙ ap (λ (s : Schema). s.numbers) c.schema.view_is) c.requires.names (ap (map token_of) c.deref-2.ensures.value ∙ c.in_ok-tokens.ensures ∙ tokens-line schema row c.args.line.now is) in
    sym c.in-Some.is ∙ found

pub returns-then-not-is_row_of-clause-found : goal.returns-then-not-is_row_of-clause-found
returns-then-not-is_row_of-clause-found c = λ row is.
    let schema = c.args.shape.now.schema.now in
    let found = c.in_ok-row.ensures schema row c.requires.schema is.fits (c.deref.ensures.value ∙ ap (λ (s : Schema). s.numbers) c.schema.view_is) c.requires.names (ap (map token_of) c.deref-2.ensures.value ∙ c.in_ok-tokens.ensures ∙ tokens-line schema row c.args.line.now is) in
    let same = Some-same c.in-Some.row row (sym c.in-Some.is ∙ found) in
    let yes = c.is_row_of.ensures.1 (subst (IsRowOf schema) (sym same) is.fits) in
    absurd (no-both c.is_row_of.result c.if-not-is_row_of.true yes)

pub returns-then-not-branch-clause-found : goal.returns-then-not-branch-clause-found
returns-then-not-branch-clause-found c = λ row is.
    let schema = c.args.shape.now.schema.now in
    let found = c.in_ok-row.ensures schema row c.requires.schema is.fits (c.deref.ensures.value ∙ ap (λ (s : Schema). s.numbers) c.schema.view_is) c.requires.names (ap (map token_of) c.deref-2.ensures.value ∙ c.in_ok-tokens.ensures ∙ tokens-line schema row c.args.line.now is) in
    let same = Some-same c.in-Some.row row (sym c.in-Some.is ∙ found) in
    let yes = c.in_ok-is_row.ensures.1 (is.printed ∙ ap (json_line schema) (sym same)) in
    absurd (no-both c.in_ok-is_row.field-0 c.if-not-branch.true yes)
