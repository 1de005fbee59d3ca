use Rattle.std.proofs.{Common.{subst, sym}, lemmas.Bool.or_parts}
use Rattle.std.specs.Prelude.{MatchResult}
use Rattle.span_request.specs.{Asked.{AskNothing, IsAskedBy}, Rules.{excluded, idle, is_broken, unsuited, untested}}
use Rattle.span_request.proofs.Unsound.{AreUnsound-suited}
use Rattle.span_request.proofs.request.asked.Goals as goal

pub returns-in-Err : goal.returns-in-Err
returns-in-Err c = λ asked sound.
    let options = c.args.options.now in
    subst (λ found. MatchResult found (IsAskedBy options) (λ rule. AskNothing options)) c.in-Err.is c.in_ok-summed.ensures asked sound.summed

pub returns-in-Some-unsuited_rule : goal.returns-in-Some-unsuited_rule
returns-in-Some-unsuited_rule c =
    let options = c.args.options.now in
    AreUnsound-suited options c.in-Ok.summed (subst (λ found. MatchResult found (IsAskedBy options) (λ rule. AskNothing options)) c.in-Ok.is c.in_ok-summed.ensures)
    (sym c.in-Some-unsuited_rule.ensures)

pub returns : goal.returns
returns c =
    let options = c.args.options.now in
    let whole = or_parts (is_broken (excluded options)) (is_broken (idle options)) (sym c.in_default.ensures) in
    let suits = or_parts (is_broken (unsuited options c.in-Ok.summed)) (is_broken (untested options c.in-Ok.summed)) (sym c.in_default-unsuited_rule.ensures) in (
      c.in-Ok.summed,
      record {
        apart = whole.0;
        busy = whole.1;
        summed = subst (λ found. MatchResult found (IsAskedBy options) (λ rule. AskNothing options)) c.in-Ok.is c.in_ok-summed.ensures;
        suited = suits.0;
        tested = suits.1;
      },
      c.in_ok-task_of.ensures,
    )
