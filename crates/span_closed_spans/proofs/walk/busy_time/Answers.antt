use Rattle.std.proofs.{Common.{map, arith}, lemmas.Int.ints}
use Rattle.span_closed_spans.specs.{span_of}
use Rattle.span_closed_spans.proofs.Unbroken.{IsSpanned-in_time}
use Rattle.span_closed_spans.proofs.walk.busy_time.Goals as goal

pub time_counted-requires-clause-forward : goal.time_counted-requires-clause-forward
time_counted-requires-clause-forward c = let spanned = IsSpanned-in_time (map span_of c.args.spans.now) c.requires.in_time in omega (arith, ints, spanned.first, spanned.then, c.bounds-from.ensures.from, c.bounds-from.ensures.until)

pub time_counted-requires-clause-from_in_time : goal.time_counted-requires-clause-from_in_time
time_counted-requires-clause-from_in_time c = let spanned = IsSpanned-in_time (map span_of c.args.spans.now) c.requires.in_time in omega (arith, ints, spanned.from, c.bounds-from.ensures.from)

pub time_counted-requires-clause-to_in_time : goal.time_counted-requires-clause-to_in_time
time_counted-requires-clause-to_in_time c = let spanned = IsSpanned-in_time (map span_of c.args.spans.now) c.requires.in_time in omega (arith, ints, spanned.to, c.bounds-from.ensures.until)
