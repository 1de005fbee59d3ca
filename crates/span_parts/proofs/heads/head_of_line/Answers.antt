use Rattle.std.proofs.Common.{map, sym, ap, subst, ◌∙◌}
use Rattle.json.specs.Reads.{token_of}
use Rattle.span_parts.specs.{counts_fit, json_head, IsSchema, First.Says}
use Rattle.span_parts.proofs.{Lines.tokens-first, Lists.no-both}
use Rattle.span_parts.proofs.heads.head_of_line.Goals as goal

pub returns-in_default-clause-found : goal.returns-in_default-clause-found
returns-in_default-clause-found c = λ schema unit rows counts may is.
    let said = c.in_ok-first.ensures schema unit rows counts may (ap (map token_of) c.deref.ensures.value ∙ c.in_ok-tokens.ensures ∙ tokens-first schema unit rows counts c.args.line.now may is) in
    subst (Says schema unit rows counts) c.in_default.is said

pub returns-clause-found : goal.returns-clause-found
returns-clause-found c = λ schema unit rows counts may is.
    let said = c.in_ok-first.ensures schema unit rows counts may (ap (map token_of) c.deref.ensures.value ∙ c.in_ok-tokens.ensures ∙ tokens-first schema unit rows counts c.args.line.now may is) in
    subst (Says schema unit rows counts) c.in-Some.is said

pub returns-then-not-is_schema-clause-found : goal.returns-then-not-is_schema-clause-found
returns-then-not-is_schema-clause-found c = λ schema unit rows counts may is.
    let said = subst (Says schema unit rows counts) c.in-Some.is (c.in_ok-first.ensures schema unit rows counts may (ap (map token_of) c.deref.ensures.value ∙ c.in_ok-tokens.ensures ∙ tokens-first schema unit rows counts c.args.line.now may is)) in
    let yes = c.is_schema.ensures.1 (subst IsSchema (sym said.0) may.schema_fits) in
    no-both c.is_schema.result c.if-not-is_schema.true yes

pub returns-then-not-counts_fit-clause-found : goal.returns-then-not-counts_fit-clause-found
returns-then-not-counts_fit-clause-found c = λ schema unit rows counts may is.
    let said = subst (Says schema unit rows counts) c.in-Some.is (c.in_ok-first.ensures schema unit rows counts may (ap (map token_of) c.deref.ensures.value ∙ c.in_ok-tokens.ensures ∙ tokens-first schema unit rows counts c.args.line.now may is)) in
    let yes = c.counts_fit.ensures ∙ ap counts_fit said.3 ∙ may.counts_fit in
    no-both c.counts_fit.result c.if-not-counts_fit.true yes

pub returns-then-not-branch-clause-found : goal.returns-then-not-branch-clause-found
returns-then-not-branch-clause-found c = λ schema unit rows counts may is.
    let said = subst (Says schema unit rows counts) c.in-Some.is (c.in_ok-first.ensures schema unit rows counts may (ap (map token_of) c.deref.ensures.value ∙ c.in_ok-tokens.ensures ∙ tokens-first schema unit rows counts c.args.line.now may is)) in
    let yes = c.in_ok-is_head.ensures.1 (is ∙ (λ i. json_head (sym said.0 i) (sym said.1 i) (sym said.2 i) (sym said.3 i))) in
    no-both c.in_ok-is_head.field-0 c.if-not-branch.true yes
