use Rattle.std.proofs.Common.{◌≡◌, to_z, of_z, w64, rules}
use Rattle.span_ledger.specs.{Begin, suits}
use Rattle.span_ledger.proofs.ThreadAnswers.{IsToldTo-began}
use Rattle.span_ledger.proofs.thread_tracks.tell_step.Goals as goal

pub returns-in_ok-depth-in-SpanBegin : goal.returns-in_ok-depth-in-SpanBegin
returns-in_ok-depth-in-SpanBegin c =
    let event = c.args.event.now in
    let own = c.in_ok-depth-in-SpanBegin in
    let ts : to_z w64 (of_z w64 event.ts) ≡ event.ts = search rules in
    let begin : Begin _ = record { name = c.args.number; ts = event.ts; at = c.args.at; args = event.args } in
    rw c.in-SpanBegin.is (IsToldTo-began c.args.track.now c.begin_span.new.self (suits c.args.wanted) begin own.depth (rw ts at own.ensures.refusal) own.ensures.depth (rw ts at own.ensures.stands))
