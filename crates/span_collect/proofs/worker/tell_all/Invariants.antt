use Rattle.std.proofs.Common.{◌≡◌, ◌++◌, All, List, length}
use Rattle.span_collect.specs.{IsGoodItem, Item, Account.telling, Work.HasRecorded}
use Rattle.span_collect.proofs.worker.tell_all.Given as goal

-- the items so far were told
abbrev pub invariant-items : goal.invariant-items
invariant-items g l = record {
  told : List Item;
  all : told ++ l.remaining ≡ l.fn.items;
  done : l.done ≡ length told;
  recorded : HasRecorded l.share (telling told) l.seat;
  named : l.caller ≡ l.seat.number;
  good : All IsGoodItem l.remaining;
}

abbrev pub decreases-items : goal.decreases-items
decreases-items g l = length l.remaining
