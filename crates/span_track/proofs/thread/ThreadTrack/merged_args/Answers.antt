use Rattle.std.proofs.Common.{rules, ◌≡◌, ◌-◌, ℕ, length, Some, slice_get, sym, ap, ◌∙◌}
use Rattle.span_keyed_tracks.proofs.Results.{if_ok-map}
use Rattle.span_track.specs.{Kept.begin_of, Thread.ThreadSpans}
use Rattle.span_track.proofs.Threads.Closing.{opened-last, merged_args-open}
use Rattle.span_track.proofs.thread.ThreadTrack.merged_args.Goals as goal

pub returns : goal.returns
returns c =
    let read : Some c.in-Some.last_open.now ≡ slice_get c.self.inside.opened.items (length c.self.inside.opened.items - 1) = search rules in
    let is_open = sym (ap (λ (t : ThreadSpans ℕ). t.opened) c.self.view_is) ∙ opened-last c.self.inside.opened.items c.in-Some.last_open.now read in
    if_ok-map c.merge_args.result _ _ (λ m is. is ∙ sym (merged_args-open c.args.self.now _ (begin_of c.in-Some.last_open.now) c.args.args.now is_open)) c.merge_args.ensures
