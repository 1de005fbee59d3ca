use Rattle.std.proofs.{Common.{[], List, suc, take, drop, sym, subst}, lemmas.List.take_more}
use Rattle.span_runs.specs.{Folders.{StopsAtName, StopsListing}, declared.source.Name.Name}
use Rattle.span_runs.proofs.{FolderFiles.{HasListed, HasListed-none, HasListed-push, StopsListing-at}, GatheredFiles.around-name, Stopping.OfStop-weaker}
use Rattle.span_runs.proofs.folders.files_of.Goals as goal

-- no file is listed
pub loop-name-init : goal.loop-name-init
loop-name-init g c =
    let folders = g.S.Source.folders c.args.source.now in
    subst (λ (files : List Name). HasListed folders c.args.ending.now [] files 0) (sym c.new-files.ensures.items) (HasListed-none folders c.args.ending.now)

-- those of the next name are
pub loop-name-preserved : goal.loop-name-preserved
loop-name-preserved g c =
    let at = c.loop-name in
    rw (take_more c.args.names.now at.name-index c.name-item.result c.loop-name-test.true, sym c.name-item.is)
    (HasListed-push (g.S.Source.folders c.args.source.now) c.args.ending.now (take at.name-index c.args.names.now) at.files.items c.put_files.new.files.items c.name-item.result at.cut c.in-Ok.cut at.invariant c.in-Ok.ensures.puts)

-- the next name stopped
pub returns-in-Err-clause-stop : goal.returns-in-Err-clause-stop
returns-in-Err-clause-stop g c =
    let folders = g.S.Source.folders c.args.source.now in
    let names = c.args.names.now in
    let at = c.loop-name in
    OfStop-weaker (StopsAtName folders c.args.ending.now c.name-item.result) _
    (λ lines stops. subst (λ (all : List Name). StopsListing folders c.args.ending.now all lines) (around-name names at.name-index c.name-item.result c.loop-name-test.true c.name-item.is)
    (StopsListing-at folders c.args.ending.now (take at.name-index names) (drop (suc at.name-index) names) c.name-item.result at.invariant.each lines at.invariant.stand stops))
    c.in-Err.halt c.in-Err.ensures.stop
