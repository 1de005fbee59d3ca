use Rattle.std.specs.{BTreeSet.insert_key, Ordering.int_cmp}
use Rattle.std.proofs.Common.{◌≡◌, rules, sym, ap, ◌∙◌, to_z, of_z, w64}
use Rattle.span_ledger.proofs.Ascending.{ascending-passed}
use Rattle.span_ledger.proofs.listed.Listed.ordered_processes.Goals as goal

pub loop-pid-preserved : goal.loop-pid-preserved
loop-pid-preserved c =
    let pid = c.in-Some.pid in
    let same : to_z w64 (of_z w64 pid.now) ≡ pid.now = search rules in
    c.in_ok-insert.ensures.keys ∙ ap (insert_key int_cmp c.loop-pid.set.keys) same ∙ ap (λ keys. insert_key int_cmp keys pid.now) c.loop-pid.invariant ∙ sym (ascending-passed int_cmp c.loop-pid.yielded pid)
