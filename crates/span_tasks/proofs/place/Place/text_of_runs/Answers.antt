use Rattle.std.proofs.Common.{◌∙◌, inr, ap, subst}
use Rattle.span_runs.proofs.Stopping.{OfStop-weaker}
use Rattle.span_tasks.specs.{Bytes, IsTooLong, page_of_runs, rows_of}
use Rattle.span_tasks.proofs.place.Place.text_of_runs.Goals as goal

-- the table fits, and the page with it is too long
pub returns-in-Err-end-clause-stop : goal.returns-in-Err-end-clause-stop
returns-in-Err-end-clause-stop g c =
    let unit = c.args.texts.now.unit in
    let json = c.in-Ok.ensures.text in
    let table = c.in-Ok-string_of.ensures ∙ json.printed in
    OfStop-weaker _ _ (λ lines said labels runs sums holds stands.
    inr (json.fits, subst IsTooLong (ap (λ (text : Bytes). page_of_runs unit labels text (rows_of sums) runs) table) (c.in-Err-end.ensures.full unit labels runs sums holds stands said.0), said.1))
    c.halt_of_page.result c.halt_of_page.ensures
