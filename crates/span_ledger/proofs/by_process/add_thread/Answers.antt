use Rattle.std.proofs.Common.{sym, ap}
use Rattle.span_keyed_tracks.proofs.Results.{on_ok-map}
use Rattle.span_ledger.specs.Grouped.{with_thread}
use Rattle.span_ledger.proofs.Grouping.{GroupsGrow-absent, GroupsGrow-written}
use Rattle.span_ledger.proofs.by_process.add_thread.Goals as goal

pub returns-in-Some : goal.returns-in-Some
returns-in-Some c =
    on_ok-map c.add_thread.result _ _
    (λ becomes. GroupsGrow-written c.args.thread.pid (with_thread c.args.thread) c.args.groups.now.entries _ c.in-Some.group.now c.add_thread.new.self (sym c.in-Some.ensures.value) becomes (c.get_mut.follows.holds c.add_thread.new.self).0)
    c.add_thread.ensures

pub returns-in-None : goal.returns-in-None
returns-in-None c = GroupsGrow-absent c.args.thread.pid (with_thread c.args.thread) c.args.groups.now.entries _ (sym c.in-None.ensures.value) (ap (λ m. m.entries) c.get_mut.follows.holds-at-none)
