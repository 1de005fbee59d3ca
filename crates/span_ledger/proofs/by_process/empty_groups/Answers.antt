use Rattle.std.specs.{BTreeMap.insert_entry, Cmp.int_cmp_total, Ordering.int_cmp}
use Rattle.std.proofs.Common.{◌≡◌, [], map, rules, sym, ap, ap₂, ◌∙◌, to_z, of_z, w64}
use Rattle.span_journal.proofs.Sorted.{ascending-sorted}
use Rattle.span_ledger.specs.{ascending, Grouped.groups_of}
use Rattle.span_ledger.proofs.{Ascending.ascending-passed, Grouping.groups_of-inserted}
use Rattle.span_ledger.proofs.by_process.empty_groups.Goals as goal

pub loop-pid-preserved-in_ok-insert : goal.loop-pid-preserved-in_ok-insert
loop-pid-preserved-in_ok-insert c =
    let pid = c.in-Some.pid in
    let same : to_z w64 (of_z w64 pid.now) ≡ pid.now = search rules in
    let passed = map (λ p. p.now) c.loop-pid.yielded in
    c.in_ok-insert.ensures.entries
    ∙ ap (λ p. insert_entry int_cmp c.loop-pid.groups.entries p c.new.result) same
    ∙ ap₂ (λ l g. insert_entry int_cmp l pid.now g) c.loop-pid.invariant (c.new.ensures pid.now)
    ∙ groups_of-inserted pid.now (ascending int_cmp passed) (ascending-sorted int_cmp_total passed)
    ∙ ap (λ pids. groups_of pids [] []) (sym (ascending-passed int_cmp c.loop-pid.yielded pid))

pub loop-pid-preserved : goal.loop-pid-preserved
loop-pid-preserved c =
    let pid = c.in-Some.pid in
    let same : to_z w64 (of_z w64 pid.now) ≡ pid.now = search rules in
    let passed = map (λ p. p.now) c.loop-pid.yielded in
    c.in_ok-insert.ensures.entries
    ∙ ap (λ p. insert_entry int_cmp c.loop-pid.groups.entries p c.new.result) same
    ∙ ap₂ (λ l g. insert_entry int_cmp l pid.now g) c.loop-pid.invariant (c.new.ensures pid.now)
    ∙ groups_of-inserted pid.now (ascending int_cmp passed) (ascending-sorted int_cmp_total passed)
    ∙ ap (λ pids. groups_of pids [] []) (sym (ascending-passed int_cmp c.loop-pid.yielded pid))
