use Rattle.std.specs.{BTreeSet.insert_key, List.list_any, Ordering.int_cmp}
use Rattle.std.proofs.{Common.{◌≡◌, ◌<◌, ℕ, List, length, true, Some, slice_get, rules, subst, sym, ap, ◌∙◌}, lemmas.{List.Folds.list_any_at, Option.get_or_from_slice_get}}
use Rattle.span_ledger.specs.{Thread, thread_cmp, same_thread, ascending, Tracked.ListedKept}
use Rattle.span_ledger.proofs.Listing.{ascending-listed_process, ascending-listed_thread}
use Rattle.span_ledger.proofs.listed.Listed.has_at.Goals as goal

-- a thread that stands somewhere among those listed is listed
listed-at : (threads : List Thread) (i : ℕ) (t thread : Thread) → i < length threads → Some t ≡ slice_get threads i → same_thread thread t ≡ true → list_any (same_thread thread) threads ≡ true
listed-at threads i t thread within at same = list_any_at (same_thread thread) threads i t within (ap (same_thread thread) (get_or_from_slice_get threads i t t (sym at)) ∙ same)

pub returns-in-Some-clause-processes : goal.returns-in-Some-clause-processes
returns-in-Some-clause-processes c = λ is.
    let within : c.args.index < length c.self.inside.threads.keys = search rules in
    let listed = listed-at c.self.inside.threads.keys c.args.index c.in-Some.listed.now c.args.thread.now within c.in-Some.ensures.key (sym c.eq.ensures ∙ is) in
    subst (λ (l : ListedKept). ascending int_cmp l.processes ≡ insert_key int_cmp (ascending int_cmp l.processes) c.args.thread.now.pid) c.self.view_is
    (ascending-listed_process c.self.inside.processes.keys c.self.inside.threads.keys c.args.thread.now c.self.invariant listed)

pub returns-in-Some-clause-threads : goal.returns-in-Some-clause-threads
returns-in-Some-clause-threads c = λ is.
    let within : c.args.index < length c.self.inside.threads.keys = search rules in
    let listed = listed-at c.self.inside.threads.keys c.args.index c.in-Some.listed.now c.args.thread.now within c.in-Some.ensures.key (sym c.eq.ensures ∙ is) in
    subst (λ (l : ListedKept). ascending thread_cmp l.threads ≡ insert_key thread_cmp (ascending thread_cmp l.threads) c.args.thread.now) c.self.view_is
    (ascending-listed_thread c.self.inside.threads.keys c.args.thread.now listed)
