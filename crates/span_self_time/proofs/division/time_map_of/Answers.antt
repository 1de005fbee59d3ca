use Rattle.std.proofs.Common.{◌≡◌, ℕ, map, take, sym, ap, ◌∙◌, subst}
use Rattle.span_self_time.specs.{Closed.span_of, Division.{Owners, bare, owner_of, owners_of, taken, IsNew, CanAdd, TimeMap.IsTimeMap}, Spans.Span}
use Rattle.span_self_time.proofs.{SelfSums.{lasts-read, IsInTime-read}, SpanTimes.{AreSettled-owners_of, IsNew-read, owners_of-more}}
use Rattle.span_self_time.proofs.division.time_map_of.Goals as goal

pub add-requires : goal.add-requires
add-requires c =
    let before = map span_of (take c.loop-span.span-index c.args.spans.now) in
    let own : owner_of c.whole.result ≡ bare (span_of c.span-item.result) = ap owner_of c.whole.ensures in
    let span = c.span-item.result in
    subst (λ (s : Span ℕ). CanAdd IsTimeMap s c.loop-span.time_map) (sym own) (record {
      is = record {
        owners = owners_of before;
        holds = (c.loop-span.invariant, IsNew-read c.args.spans.now c.loop-span.span-index span c.requires c.loop-span-test.true c.span-item.is, AreSettled-owners_of before);
      };
      forward = lasts-read c.args.spans.now c.loop-span.span-index span c.requires c.loop-span-test.true c.span-item.is;
      in_time = IsInTime-read c.args.spans.now c.loop-span.span-index span c.requires c.loop-span-test.true c.span-item.is;
    })

pub loop-span-preserved : goal.loop-span-preserved
loop-span-preserved c =
    let before = map span_of (take c.loop-span.span-index c.args.spans.now) in
    let own : owner_of c.whole.result ≡ bare (span_of c.span-item.result) = ap owner_of c.whole.ensures in
    let new = subst (λ (s : Span ℕ). IsNew s (owners_of before)) (sym own) (IsNew-read c.args.spans.now c.loop-span.span-index c.span-item.result c.requires c.loop-span-test.true c.span-item.is) in
    let shared = c.in_ok-add.ensures.ok (owners_of before) c.loop-span.invariant new (AreSettled-owners_of before) in
    subst (λ (o : Owners). IsTimeMap o c.add.new.self) (ap (λ (s : Span ℕ). taken s (owners_of before)) own ∙ sym (owners_of-more c.args.spans.now c.loop-span.span-index c.span-item.result c.loop-span-test.true c.span-item.is)) shared
