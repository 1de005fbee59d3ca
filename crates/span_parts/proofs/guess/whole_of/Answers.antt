use Rattle.std.specs.Int.{w64}
use Rattle.std.proofs.{Common.{rules, ◌≡◌, sym, ◌∙◌}, lemmas.Fmt.parse-signed_decimal}
use Rattle.span_parts.proofs.guess.whole_of.Goals as goal

pub returns-in-Ok : goal.returns-in-Ok
returns-in-Ok c = λ number fits is.
    let read = sym c.in-Ok.is ∙ parse-signed_decimal w64 number c.args.text.now c.parse.result fits fits.sfits is c.parse.ensures.value.0 in
    let same : c.in-Ok.number ≡ number = cc in
    search (rules, same)

pub returns-in-Err : goal.returns-in-Err
returns-in-Err c = λ number fits is.
    let read = sym c.in-Err.is ∙ parse-signed_decimal w64 number c.args.text.now c.parse.result fits fits.sfits is c.parse.ensures.value.0 in
    absurd cc
