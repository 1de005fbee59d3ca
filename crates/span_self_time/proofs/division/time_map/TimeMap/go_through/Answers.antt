use Rattle.std.proofs.{Common.{rules, ◌≡◌, ◌≤ℤ◌, w64, to_z, of_z, arith}, lemmas.Int.ints}
use Rattle.span_self_time.specs.Division.{owner_of}
use Rattle.span_self_time.proofs.{TimeMap.Charging.IsTaking-end}
use Rattle.span_self_time.proofs.division.time_map.TimeMap.go_through.Goals as goal

pub returns : goal.returns
returns c = λ owners enter start.
    let until : to_z w64 (of_z w64 c.args.span.now.span_until) ≡ c.args.span.now.span_until = search rules in
    let test = rw until at c.loop-time-test.false in
    let beyond : c.args.span.now.span_until ≤ℤ to_z w64 c.loop-time.time-bits = omega (arith, ints, test) in
    IsTaking-end (owner_of c.args.span.now) (to_z w64 c.loop-time.time-bits) c.loop-time.self owners enter.lasts beyond (c.loop-time.invariant owners enter start)
