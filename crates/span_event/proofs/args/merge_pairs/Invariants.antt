use Rattle.std.proofs.Common.{◌≡◌, ◌++◌, length}
use Rattle.span_event.specs.Args.{IsInNameOrder, merged}
use Rattle.span_event.proofs.args.merge_pairs.Given as goal

-- the pairs so far, and what is left of both, make the whole
abbrev pub invariant-names : goal.invariant-names
invariant-names l = record {
  so_far : l.pairs.items ++ merged l.from_begin l.from_end ≡ merged l.begin l.end;
  begin_in_order : IsInNameOrder l.from_begin;
  end_in_order : IsInNameOrder l.from_end;
}

abbrev pub decreases-names : goal.decreases-names
decreases-names l = length (merged l.from_begin l.from_end)
