use Rattle.std.proofs.{Common.{ap, length, map, arith}, lemmas.Map.Entries.length-keys_of}
use Rattle.span_closed_spans.specs.{span_of, TotalsKept.entries_of}
use Rattle.span_closed_spans.proofs.Names.{length-names_of-le}
use Rattle.span_closed_spans.proofs.closed.ClosedSpans.name_count.Goals as goal

pub overflow_cast-result : goal.overflow_cast-result
overflow_cast-result c =
    let spans = map span_of c.self.inside.list.items in
    let names = ap length c.self.invariant.1.names in
    omega (arith, c.count.ensures, length-keys_of (entries_of c.self.inside.totals), names, length-names_of-le spans, c.self.invariant.0.few)
