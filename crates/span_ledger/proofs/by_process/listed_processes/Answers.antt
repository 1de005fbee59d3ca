use Rattle.std.proofs.Common.{map, ap, ap₂, ◌∙◌}
use Rattle.span_keyed_tracks.proofs.Results.{if_ok-map}
use Rattle.span_ledger.specs.{series_rows, accepted, counter_events, Grouped.{rows_in_group, groups_of}}
use Rattle.span_ledger.proofs.RowsInGroups.{rows_by_process-grouped}
use Rattle.span_ledger.proofs.by_process.listed_processes.Goals as goal

pub returns : goal.returns
returns c =
    let journal = c.args.journal.now in
    let counters = counter_events (accepted journal) in
    if_ok-map c.list_of.result _ _
    (λ processes are.
    ap (map (rows_in_group journal)) (are ∙ c.in_ok-groups.ensures counters c.requires.phases.counters)
    ∙ ap₂ (λ ps ts. map (rows_in_group journal) (groups_of ps ts (series_rows counters))) c.requires.processes c.requires.listed
    ∙ rows_by_process-grouped journal)
    c.list_of.ensures
