use Rattle.std.proofs.Common.{◌≡◌, true, [], length, arith, ap, subst, ◌∙◌}
use Rattle.template_names.specs.Marks.{marks}
use Rattle.template_names.proofs.MarkLemmas.{length-marks_behind, merged-none, none_closes}
use Rattle.template_names.proofs.merging.has_match.Goals as goal

pub loop-mark-init : goal.loop-mark-init
loop-mark-init c =
    let text = c.args.text.now in
    let all : c.of-marks.result ≡ marks text = c.of-marks.ensures ∙ ap marks c.as_bytes.ensures.value in
    record {
      rest = λ none. merged-none text (subst (λ left. none_closes 0 left ≡ true) all none);
      few = omega (arith, ap length all, length-marks_behind 0 [] text);
    }
