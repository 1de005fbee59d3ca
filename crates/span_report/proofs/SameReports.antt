-- The report of a journal follows from its counts, and from the acts on each topic.
use Rattle.std.specs.Prelude.{flat_map}
use Rattle.std.proofs.Common.{◌++◌, ap}
use Rattle.span_journal.proofs.Topics.{KeyRows.{async_rows-own, flow_rows-own}, Rows.{rows-follow, values-follow}}
use Rattle.span_report.specs.{of_process, Laws.{KeyLinesFollowFromActs, ProcessLinesFollowFromActs, ReportsFollowFromActs}, Lines.{async_line, flow_line}, Report.{head_lines, process_lines}}

-- journals that have the same acts on a process have the same lines of it
pub process_lines-alike : ProcessLinesFollowFromActs
process_lines-alike pid journal other alike = ap process_lines (values-follow (of_process pid) journal other alike).rows

-- journals that have the same acts on a key have the same line of it
pub key_lines-alike : KeyLinesFollowFromActs
key_lines-alike = record {
  asynchronous = λ key journal other alike. ap (flat_map async_line) (async_rows-own journal other key alike);
  flows = λ key journal other alike. ap (flat_map flow_line) (flow_rows-own journal other key alike);
}

-- journals that are alike have the same report
pub report_of-alike : ReportsFollowFromActs
report_of-alike unit journal other alike =
    let rows = rows-follow journal other alike in
    λ i. head_lines unit (alike.counts i) ++ (flat_map process_lines (rows.processes i) ++ (flat_map async_line (rows.asynchronous i) ++ flat_map flow_line (rows.flows i)))
