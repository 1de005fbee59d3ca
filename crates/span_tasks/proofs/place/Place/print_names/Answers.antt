use Rattle.std.proofs.Common.{inl, inr}
use Rattle.span_runs.proofs.Stopping.{OfStop-weaker}
use Rattle.span_tasks.proofs.place.Place.print_names.Goals as goal

-- a folder of the files stopped
pub returns-in-Err-files_of : goal.returns-in-Err-files_of
returns-in-Err-files_of g c =
    let base = rw (c.base_of.ensures, c.ending_of-ending.ensures) at c.in-Ok.ensures.listed in
    OfStop-weaker _ _ (λ lines stops. inr (c.in-Ok.base, base, inl stops)) c.in-Err-files_of.halt (rw c.ending_of-ending.ensures at c.in-Err-files_of.ensures.stop)

-- the text is printed
pub returns-in-Ok-print_task : goal.returns-in-Ok-print_task
returns-in-Ok-print_task g c = (
  c.in-Ok-print_task.ensures.0,
  record {
    base = c.in-Ok.base;
    earlier = rw (c.base_of.ensures, c.ending_of-ending.ensures) at c.in-Ok.ensures.listed;
    files = c.in-Ok-files_of.files;
    later = rw c.ending_of-ending.ensures at c.in-Ok-files_of.ensures.listed;
    prints = c.in-Ok-print_task.ensures.1;
  },
)

-- the task stopped
pub returns : goal.returns
returns g c =
    let base = rw (c.base_of.ensures, c.ending_of-ending.ensures) at c.in-Ok.ensures.listed in
    let files = rw c.ending_of-ending.ensures at c.in-Ok-files_of.ensures.listed in
    OfStop-weaker _ _ (λ lines stops. inr (c.in-Ok.base, base, inr (c.in-Ok-files_of.files, files, stops))) c.in-Err-print_task.halt c.in-Err-print_task.ensures
