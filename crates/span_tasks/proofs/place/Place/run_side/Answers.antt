use Rattle.std.proofs.{Common.{[], ◌∷◌, ap, sym, subst, ◌∙◌}, lemmas.Slice.Zip.AllZip-long}
use Rattle.span_runs.proofs.InTurn.{table_of_run-in_turn}
use Rattle.span_tasks.specs.{IsHint, Summed.summed_of}
use Rattle.span_tasks.proofs.place.Place.run_side.Goals as goal

-- there is one end for each file
pub side_of_run-requires-after_bounds : goal.side_of_run-requires-after_bounds
side_of_run-requires-after_bounds g c κs bounds =
    let run = c.in-Ok.run' in
    sym (AllZip-long _ run.inputs.items run.collected.end.ends.items c.in-Ok.ensures.run.is.account.account.each_file_once_in_order)

-- the table is that of the run
pub returns-in-Ok-side_of_run-clause-side : goal.returns-in-Ok-side_of_run-clause-side
returns-in-Ok-side_of_run-clause-side g c =
    let run = c.in-Ok.run' in
    let ended = c.in-Ok.ensures.run in
    let options = c.args.options.now in
    let side = c.in-Ok-side_of_run.ensures in (
      record { unit = side.unit; schema = side.schema },
      record {
        run = run;
        ended = ended;
        is = side.tables;
        in_turn = λ separate. side.tables ∙ ap (λ table. table ∷ [])
            (table_of_run-in_turn run.inputs.items c.args.settings.now run.collected.end.ends.items run.collected.end.asked run.collected.end.sealing run.collected.ledger.journal
            ended.is.account separate (rw ended.is.status at ended.below) (summed_of options));
        said = ap (λ lines. lines.items) side.lines;
        warned = side.warnings;
      },
    )

pub returns-in-Ok-side_of_run-clause-hints : goal.returns-in-Ok-side_of_run-clause-hints
returns-in-Ok-side_of_run-clause-hints g c = subst (λ hints. IsHint hints.items) (sym c.in-Ok-side_of_run.ensures.hints) c.in-Ok.ensures.run.hints
