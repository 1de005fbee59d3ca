use Rattle.std.proofs.Common.{rules, ◌≡◌, Err, to_z, of_z, w64, to_z-of_z}
use Rattle.span_ledger.specs.{any_name}
use Rattle.span_ledger.proofs.ThreadAnswers.{IsToldTo-sealed, TellsThread-seal}
use Rattle.span_ledger.proofs.thread_tracks.seal.Goals as goal

pub returns-in_err-spans : goal.returns-in_err-spans
returns-in_err-spans c =
    let ts : to_z w64 (of_z w64 c.args.ts) ≡ c.args.ts = to_z-of_z c.ranges.ts in
    let is : c.from_residual.result ≡ Err c.in_err-spans.field-0.0 = search rules in
    rw is (TellsThread-seal c.args.track.now c.seal_all.new.self any_name c.args.ts c.in_err-spans.field-0.0 (rw ts at c.in_err-spans.ensures.refusal) c.in_err-spans.ensures.err)

pub returns : goal.returns
returns c =
    let ts : to_z w64 (of_z w64 c.args.ts) ≡ c.args.ts = to_z-of_z c.ranges.ts in
    IsToldTo-sealed c.args.track.now c.seal_all.new.self any_name c.args.ts c.in_ok-spans.spans (rw ts at c.in_ok-spans.ensures.refusal) c.in_ok-spans.ensures.spans (rw ts at c.in_ok-spans.ensures.stands)
