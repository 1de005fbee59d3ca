use Rattle.std.proofs.Common.{◌∙◌, ap}
use Rattle.std.specs.Prelude.{option_and_then}
use Rattle.std.specs.Str.Parse.{ExplainsUnsignedError, HasUnsignedDigitsIfOk}
use Rattle.clap.specs.Words.{found_of, one_text}
use Rattle.clap.proofs.WalkLemmas.{one_text-rows}
use Rattle.span_options.specs.Given.{as_number}
use Rattle.span_options.proofs.Reading.{number_of-read}
use Rattle.span_options.proofs.options.number_of.Goals as goal

pub returns : goal.returns
returns c = number_of-read (ExplainsUnsignedError 10) HasUnsignedDigitsIfOk (one_text (found_of c.args.matches.now) c.args.name.now) c.get_one.result c.get_one.ensures.none c.get_one.ensures.value
    ∙ ap (option_and_then as_number) (one_text-rows (found_of c.args.matches.now) c.args.name.now)
