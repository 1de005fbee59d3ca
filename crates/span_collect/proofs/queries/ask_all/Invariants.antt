use Rattle.std.proofs.Common.{◌≡◌, take}
use Rattle.span_collect.specs.{Account.asking, Work.HasRecorded}
use Rattle.span_collect.proofs.queries.ask_all.Given as goal

-- the queries so far were asked
abbrev pub invariant-loop-query : goal.invariant-loop-query
invariant-loop-query g l = record {
  recorded : HasRecorded l.share (asking (take l.query-index l.asks)) l.seat;
  first : l.seat.number ≡ 0;
  done : l.done ≡ l.query-index;
}
