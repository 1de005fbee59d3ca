-- What decides a report.
use Rattle.std.specs.{Ordering.is_eq, Prelude.{◌≡◌, ℕ, ℤ, List, filter, flat_map}}
use Rattle.span_report.specs.{Unit, AsyncRow, FlowRow, AsyncKey, FlowKey, async_cmp, flow_cmp, Entry, rows_in_process, async_rows, flow_rows, AreAlike, acts_on, of_async, of_flow, of_process, Lines.{async_line, flow_line}, Report.{process_lines, report_of}}

-- the lines of a process follow from the accepted acts on it
abbrev pub ProcessLinesFollowFromActs : Type 0
ProcessLinesFollowFromActs = (pid : ℤ) (journal other : List Entry) → acts_on (of_process pid) journal ≡ acts_on (of_process pid) other →
    process_lines (rows_in_process journal pid) ≡ process_lines (rows_in_process other pid)

-- the line of an asynchronous key, if it has one
abbrev pub async_lines : AsyncKey → List Entry → List ℕ
async_lines key journal = flat_map async_line (filter (λ (row : AsyncRow). is_eq (async_cmp row.key key)) (async_rows journal))

-- the line of a flow key, if it has one
abbrev pub flow_lines : FlowKey → List Entry → List ℕ
flow_lines key journal = flat_map flow_line (filter (λ (row : FlowRow). is_eq (flow_cmp row.key key)) (flow_rows journal))

-- the line of a key follows from the accepted acts on it
pub record KeyLinesFollowFromActs : Type 0 where
  pub asynchronous : (key : AsyncKey) (journal other : List Entry) → acts_on (of_async key) journal ≡ acts_on (of_async key) other → async_lines key journal ≡ async_lines key other
  pub flows : (key : FlowKey) (journal other : List Entry) → acts_on (of_flow key) journal ≡ acts_on (of_flow key) other → flow_lines key journal ≡ flow_lines key other

-- journals that have the same accepted acts on each topic, and as many entries of each kind, have the same report in each unit
abbrev pub ReportsFollowFromActs : Type 0
ReportsFollowFromActs = (unit : Unit) (journal other : List Entry) → AreAlike journal other → report_of unit journal ≡ report_of unit other
