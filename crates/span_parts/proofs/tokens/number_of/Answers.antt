use Rattle.std.proofs.{Common.{sym, ◌∙◌}, lemmas.Fmt.parse-decimal}
use Rattle.span_parts.proofs.tokens.number_of.Goals as goal

pub returns-in-Ok : goal.returns-in-Ok
returns-in-Ok c = λ number small is.
    let read = sym c.in-Ok.is ∙ parse-decimal 64 number c.args.text.now c.parse.result small small is c.parse.ensures.value.0 in
    cc

pub returns-in-Err : goal.returns-in-Err
returns-in-Err c = λ number small is.
    let read = sym c.in-Err.is ∙ parse-decimal 64 number c.args.text.now c.parse.result small small is c.parse.ensures.value.0 in
    absurd cc
