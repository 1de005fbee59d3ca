use Rattle.std.proofs.Common.{ap, ◌∙◌, sym}
use Rattle.span_runs.proofs.Stopping.{OfStop-weaker}
use Rattle.span_tasks.specs.{Schema, comparison_of, json_changes_fit, json_comparison_of, leading_number}
use Rattle.span_tasks.proofs.texts.TableTexts.ordered_changes.Goals as goal

-- the comparison is what the form asks for
pub returns-in-Ok-clause-text : goal.returns-in-Ok-clause-text
returns-in-Ok-clause-text c =
    let asked = c.comparing-asked.ensures in
    let by = asked.by ∙ ap (λ (schema : Schema). leading_number c.args.self.now.options.now.numbers schema) c.schema.ensures in
    rw c.in-Text.is (c.in-Ok.ensures ∙ (λ i. comparison_of (asked.unit i) (by i) (asked.most i) (asked.shown i) c.args.self.now.says_runs c.args.base.now c.args.other.now))

-- for other programs
pub returns-in-Ok-json_comparison-clause-text : goal.returns-in-Ok-json_comparison-clause-text
returns-in-Ok-json_comparison-clause-text c =
    let asked = c.comparing-asked-in-Json.ensures in
    let by = asked.by ∙ ap (λ (schema : Schema). leading_number c.args.self.now.options.now.numbers schema) c.schema-in-Json.ensures in
    rw c.in-Json.is (c.in-Ok-json_comparison.ensures.text ∙ (λ i. json_comparison_of (asked.unit i) (by i) (asked.shown i) c.args.base.now c.args.other.now))

pub returns-in-Ok-json_comparison-clause-fits : goal.returns-in-Ok-json_comparison-clause-fits
returns-in-Ok-json_comparison-clause-fits c =
    let asked = c.comparing-asked-in-Json.ensures in
    let by = asked.by ∙ ap (λ (schema : Schema). leading_number c.args.self.now.options.now.numbers schema) c.schema-in-Json.ensures in
    rw c.in-Json.is ((λ i. json_changes_fit (sym by i) (sym asked.shown i) c.args.base.now c.args.other.now) ∙ c.in-Ok-json_comparison.ensures.fits)

-- a number is too great
pub returns-in-Err-json_comparison-clause-stop : goal.returns-in-Err-json_comparison-clause-stop
returns-in-Err-json_comparison-clause-stop c =
    let asked = c.comparing-asked-in-Json.ensures in
    let by = asked.by ∙ ap (λ (schema : Schema). leading_number c.args.self.now.options.now.numbers schema) c.schema-in-Json.ensures in
    rw c.in-Json.is (OfStop-weaker _ _ (λ lines said. ((λ i. json_changes_fit (sym by i) (sym asked.shown i) c.args.base.now c.args.other.now) ∙ c.in-Err-json_comparison.ensures.too_great said.0, said.1))
    c.halt_of_text.result c.halt_of_text.ensures)
