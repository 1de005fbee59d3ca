use Rattle.std.proofs.Common.{rules, ◌≡◌, false, w64, to_z, of_z, subst, arith}
use Rattle.span_self_time.specs.{Division.{Owners, owner_of, OwnTimes.AreTimes}, Spans.outranks}
use Rattle.span_self_time.proofs.SegmentStacks.Taking.{IsTakenTo-kept, taken_to-kept}
use Rattle.span_self_time.proofs.division.segment_stacks.SegmentStacks.pass.Goals as goal

pub returns-then-outranks-clause-taken : goal.returns-then-outranks-clause-taken
returns-then-outranks-clause-taken c = λ owners is.
    let result : to_z w64 (of_z w64 c.cede.result) ≡ c.cede.result = search rules in
    let from : to_z w64 (of_z w64 c.args.from) ≡ c.args.from = search rules in
    rw result (c.cede.ensures.taken owners (rw from is))

pub returns-clause-taken : goal.returns-clause-taken
returns-clause-taken c = λ owners is.
    let until : to_z w64 (of_z w64 c.args.owned.segment.until) ≡ c.args.owned.segment.until = search rules in
    let below : outranks (owner_of c.args.span.now) (owner_of c.args.owned) ≡ false = search rules in
    rw until (record {
      taken = rw c.push_reserved.ensures.items (IsTakenTo-kept _ _ _ _ _ owners is.next below);
      times = subst (λ (o : Owners). AreTimes o c.args.self.now.times) (taken_to-kept _ _ _ _ _ owners is.next below) is.times;
      kept = is.kept;
      room = λ before. omega (arith, is.room, c.push_reserved.ensures.len, c.push_reserved.ensures.capacity);
    })
