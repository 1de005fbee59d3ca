use Rattle.std.proofs.Common.{◌≡◌, subst, to_z, of_z, w64, to_z-of_z}
use Rattle.span_ledger.specs.{any_name, thread_seal, Telling.TellsSpans, Tracked.SpansKept}
use Rattle.span_ledger.proofs.ThreadTelling.{TellsSpans-seal}
use Rattle.span_ledger.proofs.thread_tracks.ThreadTracks.seal.Goals as goal

pub returns : goal.returns
returns c =
    let ts : to_z w64 (of_z w64 c.args.ts) ≡ c.args.ts = to_z-of_z c.ranges.ts in
    let told : SpansKept = record { names = c.self.inside.names; threads = c.seal_thread.new.tracks.entries } in
    subst (λ (old : SpansKept). TellsSpans any_name old (thread_seal c.args.thread.now c.args.ts) c.seal_thread.result told) c.self.view_is
    (TellsSpans-seal (record { names = c.self.inside.names; threads = c.self.inside.threads.entries }) c.args.thread.now c.args.ts c.seal_thread.new.tracks.entries c.seal_thread.result (rw ts at c.seal_thread.ensures))
