use Rattle.std.proofs.{Common.{length, inr, sym, ap, refl, ◌∙◌}, lemmas.Slice.Zip.AllZip-long}
use Rattle.span_runs.proofs.Stopping.{OfStop-weaker}
use Rattle.span_tasks.proofs.InTurn.{text_of-in_turn}
use Rattle.span_tasks.proofs.place.Place.print_view.Goals as goal

-- there is one end for each file
pub made_of_view-made-requires-after_bounds : goal.made_of_view-made-requires-after_bounds
made_of_view-made-requires-after_bounds g c κs bounds =
    let run = c.in-Ok.run' in
    sym (AllZip-long _ run.inputs.items run.collected.end.ends.items c.in-Ok.ensures.run.is.account.account.each_file_once_in_order)

-- the view is printed
pub returns-in-Ok-made : goal.returns-in-Ok-made
returns-in-Ok-made g c =
    let run = c.in-Ok.run' in
    let ended = c.in-Ok.ensures.run in
    let settings = c.args.settings.now in
    let is = c.in-Ok-made.ensures.text in (
      ended.hints,
      record {
        run = run;
        ended = ended;
        fits = c.in-Ok-made.ensures.fits;
        is = is;
        in_turn = λ separate. is ∙ text_of-in_turn run.inputs.items settings run.collected.end.ends.items run.collected.end.asked run.collected.end.sealing run.collected.ledger.journal
            ended.is.account separate (rw ended.is.status at ended.below) c.args.view.now;
        said = refl;
        warned = c.in-Ok-made.ensures.warnings;
      },
    )

-- it exceeds a bound
pub returns-in-Err-made : goal.returns-in-Err-made
returns-in-Err-made g c =
    OfStop-weaker _ _ (λ lines exceeds. inr (record { run = c.in-Ok.run'; ended = c.in-Ok.ensures.run; exceeds = exceeds })) c.in-Err-made.halt c.in-Err-made.ensures.stop
