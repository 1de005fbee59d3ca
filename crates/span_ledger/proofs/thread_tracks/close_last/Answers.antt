use Rattle.std.proofs.Common.{◌≡◌, to_z, of_z, w64, rules}
use Rattle.span_track.proofs.Threads.Closing.{end_refusal-any_name}
use Rattle.span_ledger.specs.{distance, merged_args, suits}
use Rattle.span_ledger.proofs.ThreadAnswers.{IsToldTo-ended}
use Rattle.span_ledger.proofs.thread_tracks.close_last.Goals as goal

pub close_span-requires-clause-taken : goal.close_span-requires-clause-taken
close_span-requires-clause-taken c =
    let ts : to_z w64 (of_z w64 c.args.event.now.ts) ≡ c.args.event.now.ts = search rules in
    rw ts (end_refusal-any_name (suits c.args.wanted) c.args.track.now c.args.event.now.ts c.requires.taken)

pub returns-clause-told : goal.returns-clause-told
returns-clause-told c =
    let track = c.args.track.now in
    let event = c.args.event.now in
    let ts : to_z w64 (of_z w64 event.ts) ≡ event.ts = search rules in
    let start : to_z w64 (of_z w64 c.in_ok-start.start) ≡ c.in_ok-start.start = search rules in
    let merged : c.in_ok-merged.merged ≡ merged_args track event.args = search rules in
    let kept : c.in_ok-kept.kept ≡ merged_args track event.args = search rules in
    let given : c.in_ok-given.given ≡ c.in_ok-kept.kept = search rules in
    let lasts : c.distance-length.result ≡ distance c.in_ok-start.start event.ts = search rules in
    rw start (IsToldTo-ended track c.close_span.new.self (suits c.args.wanted) event.ts event.args c.in_ok-kept.kept c.in_ok-start.start c.distance-length.result
    c.requires.taken c.in_ok-start.ensures.start lasts kept ((rw ts at c.in_ok-start.ensures.stands) event.args merged))
