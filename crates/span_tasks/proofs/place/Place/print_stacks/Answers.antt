use Rattle.std.proofs.Common.{◌<◌, inl, inr, refl, ap, subst, ◌∙◌}
use Rattle.span_runs.proofs.Stopping.{OfStop-weaker}
use Rattle.span_stack_sums.specs.Stacks.{Stands, stack_sums}
use Rattle.span_tasks.specs.{IsStackSum, IsTextOf, labels_in, most_names, shortened, stacks_of, warning_lines}
use Rattle.span_tasks.proofs.StacksApart.{AreGathered-as, stack_sums-shorter}
use Rattle.span_tasks.proofs.place.Place.print_stacks.Goals as goal

-- the stacks are printed
pub returns : goal.returns
returns g c =
    let files = c.args.files.now in
    let settings = c.args.apart.settings in
    let columns = c.args.columns.now.items in
    let sum = c.in-Ok.gathered.runs in
    let said = c.in-Ok.gathered.said in (
      inl c.new.ensures.items,
      record {
        of_files = said;
        gathered = AreGathered-as _ files.names.items settings (λ runs. shortened files.cut (IsStackSum columns) runs sum) (λ runs. IsTextOf (stacks_of columns runs) c.in-Ok-into_text.text.items) said
            (λ runs is. c.in-Ok-into_text.ensures.text (stack_sums columns runs) (subst (Stands sum.rows) (stack_sums-shorter columns files.cut runs) is.rows))
            c.in-Ok.ensures;
        said = refl;
        warned = (λ i. (c.into_bytes.ensures.value i).items) ∙ c.in-Ok-warning_lines.ensures ∙ ap warning_lines c.deref.ensures.value;
      },
    )

-- they have too many labels
pub returns-in-Err-into_text : goal.returns-in-Err-into_text
returns-in-Err-into_text g c =
    let files = c.args.files.now in
    let settings = c.args.apart.settings in
    let columns = c.args.columns.now.items in
    let sum = c.in-Ok.gathered.runs in
    let said = c.in-Ok.gathered.said in
    OfStop-weaker _ _ (λ lines stop. inr (record {
      of_files = said;
      gathered = AreGathered-as _ files.names.items settings (λ runs. shortened files.cut (IsStackSum columns) runs sum) (λ runs. most_names < labels_in (stacks_of columns runs)) said
          (λ runs is. c.in-Err-into_text.ensures.full stop.0 (stack_sums columns runs) (subst (Stands sum.rows) (stack_sums-shorter columns files.cut runs) is.rows))
          c.in-Ok.ensures;
      said = stop.1;
    })) c.halt_of_stacks.result c.halt_of_stacks.ensures
