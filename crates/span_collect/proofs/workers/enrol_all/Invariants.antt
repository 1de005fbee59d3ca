use Rattle.std.proofs.Common.{◌≡◌, ◌≤◌, length, vec_capacity, All, IfSome}
use Rattle.span_collect.specs.Work.{IsNewSeat}
use Rattle.span_collect.proofs.workers.enrol_all.Given as goal

-- so many seats were made, and there is room for the others
abbrev pub invariant-loop : goal.invariant-loop
invariant-loop g l = record {
  same : l.main ≡ l.fn.main;
  count : length l.seats.items ≡ l.counter;
  room : l.count ≤ vec_capacity l.seats;
  new : All (λ seat. IfSome seat (IsNewSeat l.share)) l.seats.items;
}
