use Rattle.span_table_text.proofs.{RunTables.{print-shown, prints-parts}, ShownSums.shown_table-added}
use Rattle.span_table_text.proofs.laws.print_law.Goals as goal

pub returns : goal.returns
returns c = record { whole = print-shown; parts = prints-parts; shown = shown_table-added }
