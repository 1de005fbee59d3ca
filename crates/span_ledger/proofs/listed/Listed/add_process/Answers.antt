use Rattle.std.specs.{BTreeSet.insert_key, Ordering.{int_cmp, int_eq}}
use Rattle.std.proofs.Common.{◌≡◌, rules, ap, ◌∙◌, to_z, of_z, w64}
use Rattle.indexmap.specs.IndexSet.{insert_key as add_key}
use Rattle.span_keyed_tracks.proofs.Results.{if_ok-there}
use Rattle.span_ledger.specs.{ascending, Tracked.ListedKept}
use Rattle.span_ledger.proofs.Listing.{ascending-process, have_processes-process}
use Rattle.span_ledger.proofs.listed.Listed.add_process.Goals as goal

pub invariant_of-self : goal.invariant_of-self
invariant_of-self c =
    let keys = if_ok-there c.insert.result _ c.if-is_err.ensures.value c.insert.ensures.keys in
    rw keys (have_processes-process c.self.inside.processes.keys _ c.self.inside.threads.keys c.self.invariant)

pub returns-clause-processes : goal.returns-clause-processes
returns-clause-processes c =
    let pid : to_z w64 (of_z w64 c.args.pid) ≡ c.args.pid = search rules in
    let keys = if_ok-there c.insert.result _ c.if-is_err.ensures.value c.insert.ensures.keys in
    ap (ascending int_cmp) keys ∙ ap (λ k. ascending int_cmp (add_key int_eq c.self.inside.processes.keys k)) pid
    ∙ ascending-process c.self.inside.processes.keys c.args.pid
    ∙ ap (λ (l : ListedKept). insert_key int_cmp (ascending int_cmp l.processes) c.args.pid) c.self.view_is
