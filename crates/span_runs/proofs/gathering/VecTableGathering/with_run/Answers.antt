use Rattle.std.proofs.{Common.{List, [], ◌∷◌, ◌++◌, ap₂, sym, ◌∙◌}, lemmas.List.map_push}
use Rattle.span_runs.specs.{SpanTable, Apart.run_of, Runs.table_of_run}
use Rattle.span_runs.proofs.AlikeRuns.{table_of-last}
use Rattle.span_runs.proofs.gathering.VecTableGathering.with_run.Goals as goal

-- its table comes last, which is that of a run that is alike
pub returns-in-Ok-push-clause-runs : goal.returns-in-Ok-push-clause-runs
returns-in-Ok-push-clause-runs c = λ runs other alike is.
    let table = c.in_order.ensures ∙ (rw (c.in-Ok.ensures, c.unread.ensures) at c.in-Ok-of.ensures) ∙ table_of-last c.args.schema.now [] (run_of c.args.run.now) other alike in
    c.in-Ok-push.ensures.items ∙ ap₂ (λ (tables : List SpanTable) (last : SpanTable). tables ++ last ∷ []) is table ∙ sym (map_push (table_of_run c.args.schema.now) runs other)
