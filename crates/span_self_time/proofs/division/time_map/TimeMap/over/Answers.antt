use Rattle.std.proofs.{Common.{rules, ◌≡◌, inl, inr, ◌≤ℤ◌, ◌<ℤ◌, w64, to_z, of_z, arith}, lemmas.Int.{ints, clamps}}
use Rattle.span_self_time.specs.Division.{owner_of, TimeMap.Ties.IsBarred}
use Rattle.span_self_time.proofs.{TimeMap.Barring.outranks-start, division.time_map.TimeMap.over.Goals.{then-span-owned, else-span-owned}}
use Rattle.span_self_time.proofs.division.time_map.TimeMap.over.Goals as goal

pub returns-in-Some-clause-barred : goal.returns-in-Some-clause-barred
returns-in-Some-clause-barred c = λ owners u are from beyond before.
    let s = owner_of c.args.span.now in
    let o = owner_of c.args.owned.now in
    let start : to_z w64 (of_z w64 o.start) ≡ o.start = search rules in
    let first : to_z w64 (of_z w64 s.start) ≡ s.start = search rules in
    let max : to_z w64 (of_z w64 c.max.result) ≡ c.max.result = search rules in
    let until : to_z w64 (of_z w64 c.in-Some.until) ≡ c.in-Some.until = search rules in
    let below : s.start ≤ℤ o.start = outranks-start s o c.requires in
    let ends : to_z w64 (of_z w64 c.args.owned.now.span_until) ≡ c.args.owned.now.span_until = search rules in
    let latest = rw (until, ends) at c.max.ensures.value in
    let here : u <ℤ c.max.result = rw max at before in
    let sooner : u <ℤ c.in-Some.until = omega (arith, ints, clamps, latest, here, beyond) in
    let barred : IsBarred owners o.start c.in-Some.until = rw start at (c.in-Some.ensures.barred owners are) in
    elim c.if-span-owned.branch [
      | then-span-owned w ↦
          let test = rw (first, start) at w.if-span-owned.true in
          barred s u from sooner (inl (omega (arith, ints, test)))
      | else-span-owned w ↦
          let test = rw (first, start) at w.if-span-owned.false in
          let last : to_z w64 (of_z w64 c.args.span.now.span_until) ≡ c.args.span.now.span_until = search rules in
          let bound = c.in-Some.ensures.sooner in
          barred s u from sooner (inr (omega (arith, ints, test, below), omega (arith, ints, bound, w.end-is, last)))
    ]
