use Rattle.std.proofs.Common.{ap, ◌∙◌}
use Rattle.span_tasks.specs.{Number, Schema, leading_number, ranking_of}
use Rattle.span_tasks.proofs.texts.TableTexts.table.Goals as goal

-- the ranking is what the form asks for
pub returns-in-Ok-clause-text : goal.returns-in-Ok-clause-text
returns-in-Ok-clause-text c =
    let options = c.args.self.now.options.now in
    rw c.in-Ranking.is (c.in-Ok.ensures ∙ ap (λ (by : Number). ranking_of c.args.self.now.unit c.in-Ranking.most by options.shown c.args.self.now.says_runs c.args.table.now) (c.leading-by.ensures ∙ ap (λ (schema : Schema). leading_number options.numbers schema) c.schema.ensures))
