use Rattle.std.proofs.Common.{◌∙◌, ap, codes, false, sym}
use Rattle.std.specs.Option.{option_map_or}
use Rattle.std.specs.Str.{bytes_eq}
use Rattle.clap.specs.Words.{found_of}
use Rattle.span_options.proofs.Reading.{is_on-first}
use Rattle.span_options.proofs.options.is_on.Goals as goal

pub returns-in-Some : goal.returns-in-Some
returns-in-Some c = c.eq.ensures ∙ ap (λ value. option_map_or (λ text. bytes_eq text (codes "true")) value false) c.in-Some.ensures
    ∙ sym (is_on-first c.args.name.now (found_of c.args.matches.now))

pub returns-in-None : goal.returns-in-None
returns-in-None c = ap (λ value. option_map_or (λ text. bytes_eq text (codes "true")) value false) c.in-None.ensures
    ∙ sym (is_on-first c.args.name.now (found_of c.args.matches.now))
