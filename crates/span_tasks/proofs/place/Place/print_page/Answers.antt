use Rattle.std.proofs.Common.{◌++◌, ◌∷◌, [], inl, inr, map, refl, subst, ap, ◌∙◌}
use Rattle.span_runs.proofs.Stopping.{OfStop-weaker}
use Rattle.span_stack_sums.specs.{KeyedSums, Stacks.stack_sums}
use Rattle.span_tasks.specs.{SpanTable, Stands, narrowed, run_alone, warning_lines, Pages.{page_with, shown_runs}, Texts.{PageExceeds, PageFits}, Warnings.absent_lines}
use Rattle.span_tasks.proofs.StacksApart.{stack_sums-shorter}
use Rattle.span_tasks.proofs.place.Place.print_page.Goals as goal

-- the page is printed
pub returns-in-Ok-text_of_runs : goal.returns-in-Ok-text_of_runs
returns-in-Ok-text_of_runs g c =
    let summed = c.in-Ok.shown.summed in
    let held = c.in-Ok.ensures.shown in
    let settings = c.args.apart.settings in
    let view = c.args.view.now in
    let labels = view.labels.items in
    let table = c.in-Ok-narrowed.ensures ∙ ap (narrowed view.options.narrowing) c.in-Ok-into_table.ensures in
    let files = held.sums.files in
    let runs = map (run_alone settings) files in
    let stands = subst (λ (sums : KeyedSums). Stands summed.runs.stacks.rows sums) (stack_sums-shorter labels c.args.files.now.cut runs) held.sums.runs.stacks.rows in (
      inl c.new.ensures.items,
      record {
        summed = summed;
        sums = held.sums;
        fits = subst (λ (table : SpanTable). PageFits view.options.shown table c.in-Ok-text_of_runs.text.items) table c.in-Ok-text_of_runs.ensures.fits;
        page = c.in-Ok-text_of_runs.ensures.text labels (shown_runs settings files) (stack_sums labels runs) held.runs stands ∙ ap (λ table. page_with settings view table files) table;
        said = refl;
        warned = (rw c.deref.ensures.value at c.in-Ok-warned_of_page.ensures) ∙ ap (λ (table : SpanTable). warning_lines summed.said.warnings.items ++ absent_lines view.options.columns.items (table ∷ [])) table;
      },
    )

-- it exceeds a bound
pub returns-in-Err-text_of_runs : goal.returns-in-Err-text_of_runs
returns-in-Err-text_of_runs g c =
    let summed = c.in-Ok.shown.summed in
    let held = c.in-Ok.ensures.shown in
    let settings = c.args.apart.settings in
    let view = c.args.view.now in
    let labels = view.labels.items in
    let table = c.in-Ok-narrowed.ensures ∙ ap (narrowed view.options.narrowing) c.in-Ok-into_table.ensures in
    let files = held.sums.files in
    let runs = map (run_alone settings) files in
    let stands = subst (λ (sums : KeyedSums). Stands summed.runs.stacks.rows sums) (stack_sums-shorter labels c.args.files.now.cut runs) held.sums.runs.stacks.rows in
    OfStop-weaker _ _ (λ lines exceeds. inr (record {
      summed = summed;
      sums = held.sums;
      exceeds = subst (λ (table : SpanTable). PageExceeds view.options.shown table (page_with settings view table files) lines) table
          (exceeds labels (shown_runs settings files) (stack_sums labels runs) held.runs stands);
    })) c.in-Err-text_of_runs.halt c.in-Err-text_of_runs.ensures.stop
