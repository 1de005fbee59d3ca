use Rattle.std.proofs.Common.{◌∙◌, [], ap, sym}
use Rattle.std.specs.Prelude.{unwrap_or}
use Rattle.std.proofs.lemmas.Result.{IfOk-weaker}
use Rattle.clap.specs.Words.{found_of}
use Rattle.span_options.proofs.Reading.{texts_of-all}
use Rattle.span_options.proofs.options.texts_of.Goals as goal

pub returns-in-Some : goal.returns-in-Some
returns-in-Some c = IfOk-weaker c.copied.result _ _
    (λ texts is. is ∙ ap (λ values. unwrap_or values []) c.in-Some.ensures ∙ sym (texts_of-all c.args.name.now (found_of c.args.matches.now)))
    c.copied.ensures

pub returns-in-None : goal.returns-in-None
returns-in-None c = c.new.ensures.items ∙ ap (λ values. unwrap_or values []) c.in-None.ensures ∙ sym (texts_of-all c.args.name.now (found_of c.args.matches.now))
