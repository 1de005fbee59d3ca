use Rattle.std.proofs.{Common.{rules, ◌≡◌, ◌+◌, ◌<◌, ◌≢◌, ◌^◌, ◌≤ℤ◌, ℕ, [], ◌∷◌, ◌++◌, map, length, ap, ◌∙◌, arith, All, length-append}, lemmas.{Int.ints, List.{map_push, length-map, Elements.{All-push, All-map}}}}
use Rattle.span_self_time.proofs.Apart.{AreSpans-append}
use Rattle.span_closed_spans.specs.{Span, span_of, IsInTime}
use Rattle.span_closed_spans.proofs.closed.tests.gather.Goals as goal

pub returns : goal.returns
returns g c =
    let spans = c.args.spans.now in
    let more = map span_of c.args.gathered.now.items in
    let span = span_of c.args.span in
    let lasts : span.start ≤ℤ span.until = omega (arith, ints) in
    let in_time : IsInTime span = (omega (arith, ints), omega (arith, ints)) in
    let differs : All (λ x. x.at ≢ c.args.span.at) c.deref.result.now = c.are_opened_elsewhere.ensures (search rules) in
    let apart : All (λ x. x.at ≢ span.at) more = All-map (λ (x : Span ℕ). x.at ≢ span.at) span_of c.args.gathered.now.items (rw c.deref.ensures.value at differs) in
    let after : map span_of c.push.new.self.items ≡ more ++ span ∷ [] = ap (map span_of) c.in_ok-push.ensures.items ∙ map_push span_of c.args.gathered.now.items c.args.span in
    let few : length spans + length (more ++ span ∷ []) < 2 ^ 32 =
    omega (arith, length-append more (span ∷ []), length-map c.args.gathered.now.items span_of, c.args.gathered.now.ok.0, c.spans.inside.list.ok.0, length-map c.spans.inside.list.items span_of, ap length c.spans.view_is) in
    rw after (record {
      are = AreSpans-append more span c.requires.are apart lasts;
      in_time = All-push IsInTime more span c.requires.in_time in_time;
      apart = All-push (λ (y : Span ℕ). All (λ x. x.at ≢ y.at) spans) more span c.requires.apart (c.is_new.ensures (search rules));
      few = few;
    })
