use Rattle.std.specs.Int.{int_min, int_max}
use Rattle.std.proofs.Common.{◌≡◌, ◌≤ℤ◌, pos, drop, map}
use Rattle.span_closed_spans.specs.{earliest, latest, span_of}
use Rattle.span_closed_spans.proofs.walk.bounds.Given as goal

abbrev pub invariant-loop-span : goal.invariant-loop-span
invariant-loop-span l = record {
  first : l.earliest ≤ℤ pos 0;
  then : pos 0 ≤ℤ l.latest;
  from : int_min l.earliest (earliest (map span_of (drop l.span-index l.spans))) ≡ earliest (map span_of l.spans);
  until : int_max l.latest (latest (map span_of (drop l.span-index l.spans))) ≡ latest (map span_of l.spans);
}
