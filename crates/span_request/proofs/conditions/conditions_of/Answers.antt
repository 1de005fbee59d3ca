use Rattle.std.proofs.Common.{◌<◌, arith, length, subst}
use Rattle.std.specs.Prelude.{MatchResult}
use Rattle.span_request.specs.{Conditions.{IsCondition, IsNoCondition}}
use Rattle.span_request.proofs.ConditionParts.{AreConditions-next, AreNoConditions-at}
use Rattle.span_request.proofs.conditions.conditions_of.Goals as goal

pub loop-word-preserved : goal.loop-word-preserved
loop-word-preserved c =
    let words = c.args.words.now in
    let low : c.loop-word.word-index < length words = omega arith in
    let is = subst (λ word. MatchResult c.in_ok-condition.field-0 (IsCondition word) (λ rule. IsNoCondition word)) c.as_str.ensures c.in_ok-condition.ensures in
    AreConditions-next words c.loop-word.word-index c.word-item.result c.loop-word.conditions.items c.push.new.self.items c.in-Ok.condition low c.word-item.is c.loop-word.invariant
    (subst (λ found. MatchResult found (IsCondition c.word-item.result) (λ rule. IsNoCondition c.word-item.result)) c.in-Ok.is is)
    c.in_ok-push-in-Ok.ensures.items

pub returns-in-Err : goal.returns-in-Err
returns-in-Err c =
    let words = c.args.words.now in
    let low : c.loop-word.word-index < length words = omega arith in
    let is = subst (λ word. MatchResult c.in_ok-condition.field-0 (IsCondition word) (λ rule. IsNoCondition word)) c.as_str.ensures c.in_ok-condition.ensures in
    AreNoConditions-at words c.loop-word.word-index c.word-item.result low c.word-item.is
    (subst (λ found. MatchResult found (IsCondition c.word-item.result) (λ rule. IsNoCondition c.word-item.result)) c.in-Err.is is)
