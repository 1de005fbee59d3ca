use Rattle.std.specs.{BTreeMap.{BTreeMap, is_at, insert_entry}, Map.lookup}
use Rattle.std.proofs.Common.{rules, ◌≡◌, ℕ, [], Some, Ok, Err, sym, ap, subst, ◌∙◌}
use Rattle.span_event.proofs.Orders.{thread_cmp-same, thread_cmp-total}
use Rattle.span_keyed_tracks.proofs.Keyed.{kept_at-found}
use Rattle.span_ledger.specs.{thread_cmp, thread_of, Thread, ThreadSpans, HasRoom, IsNext, suits, thread_spans, thread_step_answer, span_step, Telling.TellsThreads}
use Rattle.span_ledger.proofs.KeyTelling.{Tells-found, Tells-first, IsToldTo-first}
use Rattle.span_ledger.proofs.thread_tracks.tell_thread.Goals as goal

pub tell_step-requires-clause-room : goal.tell_step-requires-clause-room
tell_step-requires-clause-room c =
    let found = (subst (λ (thread : Thread). Some c.in-Some.track.now ≡ lookup (is_at (thread_cmp thread)) c.args.tracks.now.entries) c.of-thread.ensures c.in-Some.ensures.value) in
    let own : c.deref_mut.result.now ≡ c.in-Some.track.now = search rules in
    subst HasRoom (kept_at-found thread_cmp (thread_spans []) c.args.tracks.now.entries (thread_of c.args.event.now) c.in-Some.track.now (sym found) ∙ sym own) c.requires.room

pub tell_step-requires-clause-next : goal.tell_step-requires-clause-next
tell_step-requires-clause-next c =
    let found = (subst (λ (thread : Thread). Some c.in-Some.track.now ≡ lookup (is_at (thread_cmp thread)) c.args.tracks.now.entries) c.of-thread.ensures c.in-Some.ensures.value) in
    let own : c.deref_mut.result.now ≡ c.in-Some.track.now = search rules in
    subst (IsNext c.args.at) (kept_at-found thread_cmp (thread_spans []) c.args.tracks.now.entries (thread_of c.args.event.now) c.in-Some.track.now (sym found) ∙ sym own) c.requires.next

pub returns-in-Some : goal.returns-in-Some
returns-in-Some c =
    let tracks = c.args.tracks.now in
    let after = c.get_mut.follows.lender c.tell_step.new.track in
    let own : c.deref_mut.result.now ≡ c.in-Some.track.now = search rules in
    let step = span_step c.args.number c.args.at c.args.event.now c.args.event.now.phase in
    subst (λ (thread : Thread). TellsThreads (suits c.args.wanted) tracks.entries (record { key = thread; step = step }) c.tell_step.result after.entries) c.of-thread.ensures
    (Tells-found thread_cmp-total thread_cmp-same thread_spans (thread_step_answer (suits c.args.wanted)) tracks.entries after.entries c.of-thread.result step c.in-Some.ensures.ordered c.in-Some.track.now c.tell_step.new.track c.tell_step.result
    (sym c.in-Some.ensures.value) (c.get_mut.follows.holds c.tell_step.new.track).0 (rw own at c.tell_step.ensures))

pub returns-in-Err : goal.returns-in-Err
returns-in-Err c =
    let tracks = c.args.tracks.now in
    let after = c.get_mut.follows.lender-at-none in
    let step = span_step c.args.number c.args.at c.args.event.now c.args.event.now.phase in
    subst (λ (thread : Thread). TellsThreads (suits c.args.wanted) tracks.entries (record { key = thread; step = step }) (Err c.in-Err.fault) after.entries) c.of-thread.ensures
    (Tells-first thread_cmp-total thread_cmp-same thread_spans (thread_step_answer (suits c.args.wanted)) tracks.entries after.entries c.of-thread.result step c.in_default.ensures.ordered c.new-track.result c.tell_step-2.new.track
    (sym c.in_default.ensures.value) c.new-track.ensures c.in-Err.fault (ap (λ (m : BTreeMap Thread (ThreadSpans ℕ)). m.entries) c.get_mut.follows.holds-at-none) c.in-Err.ensures)

pub returns-in_ok-keep-in-Ok : goal.returns-in_ok-keep-in-Ok
returns-in_ok-keep-in-Ok c =
    let tracks = c.args.tracks.now in
    let step = span_step c.args.number c.args.at c.args.event.now c.args.event.now.phase in
    let kept = c.in_ok-keep-in-Ok.ensures.kept ∙ ap (λ (m : BTreeMap Thread (ThreadSpans ℕ)). insert_entry thread_cmp m.entries c.of-thread.result c.tell_step-2.new.track) c.get_mut.follows.holds-at-none in
    subst (λ (thread : Thread). TellsThreads (suits c.args.wanted) tracks.entries (record { key = thread; step = step }) (Ok c.in-Ok.answers) c.keep.new.tracks.entries) c.of-thread.ensures
    (IsToldTo-first thread_cmp-total thread_cmp-same thread_spans (thread_step_answer (suits c.args.wanted)) tracks.entries c.keep.new.tracks.entries c.of-thread.result step c.in_default.ensures.ordered c.new-track.result c.tell_step-2.new.track
    (sym c.in_default.ensures.value) c.new-track.ensures c.in-Ok.answers kept c.in-Ok.ensures)
