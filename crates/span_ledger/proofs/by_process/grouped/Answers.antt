use Rattle.std.specs.{Cmp.int_cmp_total, List.Sorted.IsStrictlySortedBy, Ordering.int_cmp}
use Rattle.std.proofs.Common.{rules, ◌≡◌, [], ap, ap₂, subst, ◌∙◌}
use Rattle.span_journal.proofs.Sorted.{ascending-sorted}
use Rattle.span_ledger.specs.{CounterStandsFor, series_rows, Gives, Grouped.groups_of, Tracked.TracksKept}
use Rattle.span_ledger.proofs.by_process.grouped.Goals as goal

pub returns : goal.returns
returns c = λ list stands.
    let tracks = c.args.tracks.now in
    let threads = c.in_ok-ordered_threads.field-0.keys in
    let sorted = subst (IsStrictlySortedBy int_cmp) (ap (λ (t : TracksKept). t.processes) c.tracks.view_is) (ascending-sorted int_cmp_total c.tracks.inside.listed.processes) in
    let groups : c.in_ok-groups.groups.entries ≡ groups_of tracks.processes [] [] = search rules in
    let listed : threads ≡ tracks.listed = search rules in
    let series : Gives CounterStandsFor tracks.phases.counters series_rows c.in_ok-sorted.field-0.items = search rules in
    c.in_ok-add_series.ensures tracks.processes threads sorted (c.in_ok-add_threads.ensures tracks.processes sorted groups)
    ∙ ap₂ (groups_of tracks.processes) listed (series list stands)
