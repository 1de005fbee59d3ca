use Rattle.std.specs.{BTreeSet.insert_key, List.list_any, Ordering.{int_cmp, int_eq}}
use Rattle.std.proofs.Common.{◌≡◌, Bool, true, false, not, rules, sym, ap, ◌∙◌, to_z, of_z, w64}
use Rattle.indexmap.specs.IndexSet.{insert_key as add_key}
use Rattle.span_keyed_tracks.proofs.Results.{if_ok-there}
use Rattle.span_ledger.specs.{thread_cmp, same_thread, ascending, Tracked.ListedKept}
use Rattle.span_ledger.proofs.Listing.{add_key-listed, ascending-process, ascending-thread, have_processes-thread}
use Rattle.span_ledger.proofs.listed.Listed.list.Goals as goal

not-false : (b : Bool) → not b ≡ false → b ≡ true
not-false true e = cc
not-false false e = cc

pub invariant_of-self : goal.invariant_of-self
invariant_of-self c =
    let processes = if_ok-there c.insert.result _ c.if-is_err.ensures.value c.insert.ensures.keys in
    let pid : to_z w64 (of_z w64 c.args.thread.pid) ≡ c.args.thread.pid = search rules in
    rw (processes, c.in-Ok-default-true.ensures.keys, pid) (have_processes-thread c.self.inside.processes.keys c.self.inside.threads.keys c.args.thread c.self.invariant)

pub returns-else-is_err-clause-processes : goal.returns-else-is_err-clause-processes
returns-else-is_err-clause-processes c =
    let processes = if_ok-there c.insert.result _ c.if-is_err.ensures.value c.insert.ensures.keys in
    let pid : to_z w64 (of_z w64 c.args.thread.pid) ≡ c.args.thread.pid = search rules in
    ap (ascending int_cmp) processes ∙ ap (λ k. ascending int_cmp (add_key int_eq c.self.inside.processes.keys k)) pid
    ∙ ascending-process c.self.inside.processes.keys c.args.thread.pid
    ∙ ap (λ (l : ListedKept). insert_key int_cmp (ascending int_cmp l.processes) c.args.thread.pid) c.self.view_is

pub returns-in-Ok-default-false-clause-processes : goal.returns-in-Ok-default-false-clause-processes
returns-in-Ok-default-false-clause-processes c =
    let known : list_any (same_thread c.args.thread) c.self.inside.threads.keys ≡ true = not-false _ (sym c.in-Ok-default-false.ensures.added ∙ c.in-Ok-default-false.field-0-1-test) in
    ap (ascending int_cmp) (sym (add_key-listed c.self.inside.processes.keys c.self.inside.threads.keys c.args.thread c.self.invariant known))
    ∙ ascending-process c.self.inside.processes.keys c.args.thread.pid
    ∙ ap (λ (l : ListedKept). insert_key int_cmp (ascending int_cmp l.processes) c.args.thread.pid) c.self.view_is

pub returns-in-Ok-default-false-clause-threads : goal.returns-in-Ok-default-false-clause-threads
returns-in-Ok-default-false-clause-threads c =
    ap (ascending thread_cmp) c.in-Ok-default-false.ensures.keys ∙ ascending-thread c.self.inside.threads.keys c.args.thread
    ∙ ap (λ (l : ListedKept). insert_key thread_cmp (ascending thread_cmp l.threads) c.args.thread) c.self.view_is
