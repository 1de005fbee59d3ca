use Rattle.std.proofs.Common.{◌≡◌, refl, subst, to_z, of_z, w64, to_z-of_z}
use Rattle.span_ledger.specs.{Accepted, a_seal, any_name, thread_seal, Telling.{accepted_at, TellsPhase}, Tracked.PhasesKept}
use Rattle.span_ledger.proofs.PhaseTelling.{TellsPhase-spans}
use Rattle.span_ledger.proofs.phase_tracks.PhaseTracks.seal.Goals as goal

pub returns : goal.returns
returns c =
    let ts : to_z w64 (of_z w64 c.args.ts) ≡ c.args.ts = to_z-of_z c.ranges.ts in
    let a : Accepted = accepted_at c.args.at (a_seal c.args.thread.now c.args.ts) in
    subst (λ (kept : PhasesKept). TellsPhase any_name kept a c.seal.result (record { spans = c.seal.new.self; asynchronous = c.self.inside.asynchronous; flows = c.self.inside.flows; counters = c.self.inside.counters; meta = c.self.inside.meta })) c.self.view_is
    (TellsPhase-spans any_name a _ c.seal.result (thread_seal c.args.thread.now c.args.ts) refl c.seal.new.self (rw ts at c.seal.ensures))
