use Rattle.span_report.proofs.SameReports.{key_lines-alike, process_lines-alike, report_of-alike}
use Rattle.span_report.proofs.laws.report_law.Goals as goal

pub returns-clause-lines : goal.returns-clause-lines
returns-clause-lines c = process_lines-alike

pub returns-clause-report : goal.returns-clause-report
returns-clause-report c = report_of-alike

pub returns-clause-keys : goal.returns-clause-keys
returns-clause-keys c = key_lines-alike
