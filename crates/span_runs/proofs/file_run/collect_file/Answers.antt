use Rattle.std.proofs.Common.{◌∙◌, ap, inl, inr, sym}
use Rattle.span_collect.proofs.Statuses.{status_of-lt}
use Rattle.span_runs.specs.{run_line, Stops.StopsAt}
use Rattle.span_runs.proofs.Stopping.{OfStop-weaker}
use Rattle.span_runs.proofs.file_run.collect_file.Goals as goal

-- its run ended, not with 2
pub returns-clause-collected : goal.returns-clause-collected
returns-clause-collected g c =
    let collected = c.in-Ok-collect_alone.collected in
    let ensures = c.in-Ok-collect_alone.ensures in record {
      read = c.in-Ok.ensures.read;
      account = ensures.account;
      status = status_of-lt collected.end.ends.items collected.end.asked collected.end.sealing (λ two. c.if-collected-eq2.false (ensures.status ∙ two));
      one = ensures.one;
    }

-- it was not read
pub returns-in-Err-clause-stop : goal.returns-in-Err-clause-stop
returns-in-Err-clause-stop g c =
    OfStop-weaker _ (StopsAt (g.S.Source.bytes c.args.source.now) c.args.settings.now c.args.name.now) (λ lines says. inl says) c.in-Err.halt c.in-Err.ensures.unread

-- its run was refused
pub returns-in-Err-collect_alone-clause-stop : goal.returns-in-Err-collect_alone-clause-stop
returns-in-Err-collect_alone-clause-stop g c =
    OfStop-weaker _ (StopsAt (g.S.Source.bytes c.args.source.now) c.args.settings.now c.args.name.now)
    (λ lines says. inr (inl (record {
      file = c.in-Ok.file;
      read = c.in-Ok.ensures.read;
      error = c.in-Err-collect_alone.error;
      refused = c.in-Err-collect_alone.ensures.refused;
      said = says ∙ ap run_line c.code.ensures;
    })))
    c.of_run.result c.of_run.ensures

-- its run ended with 2
pub returns-then-collected-eq2-clause-stop : goal.returns-then-collected-eq2-clause-stop
returns-then-collected-eq2-clause-stop g c =
    let collected = c.in-Ok-collect_alone.collected in
    let ensures = c.in-Ok-collect_alone.ensures in
    OfStop-weaker _ (StopsAt (g.S.Source.bytes c.args.source.now) c.args.settings.now c.args.name.now)
    (λ lines says. inr (inr (record {
      file = c.in-Ok.file;
      read = c.in-Ok.ensures.read;
      ends = collected.end.ends.items;
      asked = collected.end.asked;
      sealing = collected.end.sealing;
      journal = collected.ledger.journal;
      account = ensures.account;
      status = sym ensures.status ∙ c.if-collected-eq2.true;
      said = says;
    })))
    c.cut_of.result c.cut_of.ensures
