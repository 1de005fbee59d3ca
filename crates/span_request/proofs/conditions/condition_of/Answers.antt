use Rattle.std.proofs.{Common.{◌∙◌, subst, sym}, lemmas.Bool.and_parts}
use Rattle.std.specs.Prelude.{MatchOption}
use Rattle.span_request.specs.{Columns.{IsNamed, NamesNone}, Conditions.IsParted}
use Rattle.span_request.proofs.ConditionParts.{IsNoCondition-empty, IsNoCondition-unknown}
use Rattle.span_request.proofs.conditions.condition_of.Goals as goal

pub returns-then-contains-is_empty : goal.returns-then-contains-is_empty
returns-then-contains-is_empty c =
    let word = c.args.word.now in
    let front = c.in-Some.front.now in
    let text = c.in-Some.text.now in
    let both = and_parts c.in-Some.contains c.is_empty.result c.if-contains-is_empty.true in
    IsNoCondition-empty word front text (subst (λ contains. IsParted word front contains text) both.0 c.in-Some.ensures) (sym c.is_empty.ensures ∙ both.1)

pub returns-in_default-2 : goal.returns-in_default-2
returns-in_default-2 c =
    let name = c.unmarked-negated.result.0.now in
    IsNoCondition-unknown c.args.word.now c.in-Some.front.now name c.in-Some.text.now c.in-Some.contains c.unmarked-negated.result.1 c.in-Some.ensures c.unmarked-negated.ensures.parts c.unmarked-negated.ensures.whole
    (subst (λ found. MatchOption found (NamesNone name) (IsNamed name)) c.in_default-2.is c.in_ok-column.ensures)
