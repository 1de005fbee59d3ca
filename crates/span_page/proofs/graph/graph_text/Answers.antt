use Rattle.std.proofs.{Common.{ap, ◌∙◌}, lemmas.Result.IfOk-weaker}
use Rattle.span_page.specs.{Graph.rows_json}
use Rattle.span_page.proofs.graph.graph_text.Goals as goal

-- they are those of the sums
pub returns-in-Ok-clause-text : goal.returns-in-Ok-clause-text
returns-in-Ok-clause-text c =
    IfOk-weaker c.rows_text.result _ _ (λ text is sums stands. is ∙ ap rows_json (c.deref.ensures.value ∙ c.in-Ok.ensures.rows sums stands)) c.rows_text.ensures.text
