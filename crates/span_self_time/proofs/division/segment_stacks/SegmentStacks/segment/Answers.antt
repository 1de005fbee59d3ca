use Rattle.std.specs.Option.{option_map}
use Rattle.std.proofs.{Common.{◌≡◌, ◌≤◌, ◌+◌, ◌-◌, length, get_or, sym, ap, ◌∙◌, arith, vec_len, rules}, lemmas.Option.{slice_get-map, slice_get_read, slice_get_past}}
use Rattle.span_self_time.specs.{Division.SegmentStacks.segments_of, declared.segment.OwnedSegment.OwnedSegment}
use Rattle.span_self_time.proofs.SegmentStacks.Ends.{get_or-segments_of, length-segments_of}
use Rattle.span_self_time.proofs.division.segment_stacks.SegmentStacks.segment.Goals as goal

pub returns-then-behind-len : goal.returns-then-behind-len
returns-then-behind-len c =
    let past = c.args.self.now.past.items in
    let future = c.args.self.now.future.items in
    let owned = c.index.result.now in
    let before : vec_len c.args.self.now.past ≡ length past = search rules in
    let behind : vec_len c.args.self.now.future ≡ length future = search rules in
    let from : length past ≤ c.args.i = omega (arith, ap length c.deref.ensures.value, c.in_default.ensures.lookup.3) in
    let at : length future - 1 - (c.args.i - length past) ≡ c.len-then-behind-len.result - 1 - (c.args.i - c.len.result) = omega arith in
    let is : owned ≡ get_or (segments_of past future) c.args.i owned =
    c.index.ensures ∙ ap (λ k. get_or future k owned) (sym at) ∙ sym (get_or-segments_of past future c.args.i owned from (omega arith)) in
    sym (slice_get-map (λ (p : OwnedSegment). p.segment) (segments_of past future) c.args.i
    ∙ ap (option_map (λ (p : OwnedSegment). p.segment)) (slice_get_read (segments_of past future) (length past + length future) c.args.i owned (sym (length-segments_of past future)) (omega arith) is))

pub returns-else-behind-len : goal.returns-else-behind-len
returns-else-behind-len c =
    let past = c.args.self.now.past.items in
    let future = c.args.self.now.future.items in
    let before : vec_len c.args.self.now.past ≡ length past = search rules in
    let behind : vec_len c.args.self.now.future ≡ length future = search rules in
    let from : length past ≤ c.args.i = omega (arith, ap length c.deref.ensures.value, c.in_default.ensures.lookup.3) in
    sym (slice_get-map (λ (p : OwnedSegment). p.segment) (segments_of past future) c.args.i
    ∙ ap (option_map (λ (p : OwnedSegment). p.segment)) (slice_get_past (segments_of past future) c.args.i (omega (arith, length-segments_of past future))))
