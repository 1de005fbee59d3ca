use Rattle.std.specs.Prelude.{map, []}
use Rattle.std.proofs.lemmas.Result.{IfOk-weaker}
use Rattle.span_tasks.specs.Pages.{AreHeld, shown_alone, shown_runs}
use Rattle.span_tasks.proofs.ShownRuns.{AreHeld-few, AreHeld-many}
use Rattle.span_tasks.proofs.place.Place.show_files.Goals as goal

-- few files are shown
pub returns-then-names-le-MOST_SHOWN-clause-shown : goal.returns-then-names-le-MOST_SHOWN-clause-shown
returns-then-names-le-MOST_SHOWN-clause-shown g c =
    let source = (g.S.Source.bytes c.args.self.now.source.now) in
    let names = c.args.files.now.names.items in
    let cut = c.args.files.now.cut in
    let settings = c.args.apart.settings in
    let view = c.args.view.now in
    IfOk-weaker c.show_in_turn.result (AreHeld (map (shown_alone settings)) source cut names settings view) (AreHeld (shown_runs settings) source cut names settings view)
    (λ shown. AreHeld-few source cut settings view names shown (rw c.as_slice-names.ensures.value at c.if-names-le-MOST_SHOWN.true)) (rw c.as_slice-names.ensures.value at c.show_in_turn.ensures.shown)

-- many are just summed
pub returns-clause-shown : goal.returns-clause-shown
returns-clause-shown g c =
    let source = (g.S.Source.bytes c.args.self.now.source.now) in
    let names = c.args.files.now.names.items in
    let cut = c.args.files.now.cut in
    let settings = c.args.apart.settings in
    let view = c.args.view.now in
    IfOk-weaker c.show_sum.result (AreHeld (λ files. []) source cut names settings view) (AreHeld (shown_runs settings) source cut names settings view)
    (λ shown. AreHeld-many source cut settings view names shown (rw c.as_slice-names.ensures.value at c.if-names-le-MOST_SHOWN.false)) c.show_sum.ensures.shown
