use Rattle.std.specs.BTreeMap.{BTreeMap}
use Rattle.std.proofs.Common.{rules, ◌≡◌, ℕ, [], Some, refl, sym, ap, to_z, of_z, w64, to_z-of_z}
use Rattle.span_event.proofs.Orders.{thread_cmp-same, thread_cmp-total}
use Rattle.span_ledger.specs.{Thread, Refused, sealed, ThreadSpans, any_name, thread_spans, thread_step_answer}
use Rattle.span_ledger.proofs.{KeyTelling.{Tells-found, Tells-first}, ThreadAnswers.TellsThread-seal}
use Rattle.span_ledger.proofs.thread_tracks.seal_thread.Goals as goal

pub returns-in-Some : goal.returns-in-Some
returns-in-Some c =
    let ts : to_z w64 (of_z w64 c.args.ts) ≡ c.args.ts = to_z-of_z c.ranges.ts in
    let own : c.deref_mut.result.now ≡ c.in-Some.track.now = search rules in
    let after = c.get_mut.follows.lender c.seal.new.track in
    Tells-found thread_cmp-total thread_cmp-same thread_spans (thread_step_answer any_name) c.args.tracks.now.entries after.entries c.args.thread.now (sealed c.args.ts) c.in-Some.ensures.ordered c.in-Some.track.now c.seal.new.track c.seal.result
    (sym c.in-Some.ensures.value) (c.get_mut.follows.holds c.seal.new.track).0 (rw (ts, own) at c.seal.ensures)

-- a track of no steps has nothing to close
pub returns-in-None : goal.returns-in-None
returns-in-None c =
    let none : ThreadSpans ℕ = thread_spans [] in
    Tells-first thread_cmp-total thread_cmp-same thread_spans (thread_step_answer any_name) c.args.tracks.now.entries c.get_mut.follows.lender-at-none.entries c.args.thread.now (sealed c.args.ts) c.in-None.ensures.ordered none none
    (sym c.in-None.ensures.value) refl (Refused c.code.result) (ap (λ (m : BTreeMap Thread (ThreadSpans ℕ)). m.entries) c.get_mut.follows.holds-at-none)
    (TellsThread-seal none none any_name c.args.ts (Refused c.code.result) (ap Some (sym c.code.ensures)) refl)
