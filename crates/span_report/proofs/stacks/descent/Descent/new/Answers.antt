use Rattle.std.proofs.{Common.{◌<◌, ◌^◌, List, arith, rules, refl, subst}, lemmas.Int.ints}
use Rattle.span_self_time.proofs.Counts.{add-distance}
use Rattle.span_ledger.proofs.Sorting.{IsSorted-from_sort_by}
use Rattle.span_report.specs.{least_time, distance, greatest_until, Stacks.Pending.IsSplit, declared.stacks.{descent.Descent.Descent, pending.{PendingFrame.PendingFrame, Stretch.Stretch}}}
use Rattle.span_report.proofs.StackLemmas.{Descending.{IsReady-new, StartsWith-new}, Nearing.nearness-total, Starts.{latest-le-greatest, least-le-earliest}}
use Rattle.span_report.proofs.stacks.descent.Descent.new.Goals as goal

-- all the time in which spans may lie
abbrev whole : Stretch
whole = record { from = least_time; until = greatest_until; next = 0 }

pub returns-clause-ready : goal.returns-clause-ready
returns-clause-ready c =
    let split = subst (λ (l : List PendingFrame). IsSplit c.in_ok-spans.spans 0 whole c.in_ok-split.field-0 l c.split.new.found.items) c.new-pending.ensures.items c.in_ok-split.ensures in
    let d : Descent = record { spans = c.in_ok-spans.spans; pending = c.sort_unstable_by.new.self; found = c.new-2.result; stack = c.new-3.result } in
    let end = add-distance whole.from whole.until (omega (arith, ints)) in
    let small : distance whole.from whole.until < 2 ^ 64 = omega (arith, ints, end) in
    IsReady-new d whole c.in_ok-split.field-0 c.split.new.found.items split c.sort_unstable_by.ensures.permutation c.new-3.ensures.items
    (IsSorted-from_sort_by nearness-total c.sort_unstable_by.new.self.items c.sort_unstable_by.ensures.sorted (λ a r f' call. search rules)) c.new-2.ensures.items small

pub returns-clause-starts : goal.returns-clause-starts
returns-clause-starts c =
    let spans = c.args.spans.items in
    let split = subst (λ (l : List PendingFrame). IsSplit c.in_ok-spans.spans 0 whole c.in_ok-split.field-0 l c.split.new.found.items) c.new-pending.ensures.items c.in_ok-split.ensures in
    let d : Descent = record { spans = c.in_ok-spans.spans; pending = c.sort_unstable_by.new.self; found = c.new-2.result; stack = c.new-3.result } in
    StartsWith-new d whole c.in_ok-split.field-0 c.split.new.found.items split c.sort_unstable_by.ensures.permutation c.new-3.ensures.items
    spans c.requires.are c.in_ok-spans.ensures (least-le-earliest spans c.requires.in_time) (latest-le-greatest spans c.requires.in_time) refl
