use Rattle.std.proofs.Common.{rules, ◌≡◌, ◌∷◌, [], sym, subst}
use Rattle.span_keyed_tracks.specs.{Async.{async_end_refusal, async_matched, async_spans, length_closed_by}, Fault.{Answers, refusal_of}, Last.last_of, Matching.closes}
use Rattle.span_keyed_tracks.proofs.{Async.{async_spans-EndsLast, length_closed_by-EndsLast}, KeyChange.{ChangesAt-answered, ChangesAt-refusal, ChangesAt-stands}, Matching.Open.opener-open_of, Orders.{async_cmp-total, async_cmp-same}}
use Rattle.span_keyed_tracks.proofs.async_track.AsyncTrack.end_async.Goals as goal

pub returns-clause-refusal : goal.returns-clause-refusal
returns-clause-refusal c =
    ChangesAt-refusal async_cmp-total async_cmp-same async_spans c.new-none.ensures c.self.view_is c.change_at.ensures.changes (λ steps. async_end_refusal steps c.args.ts)
    (λ steps made value called.
    let answers : Answers made (refusal_of (async_matched (last_of (async_spans steps).opened) c.args.ts)) = search rules in
    subst (λ begin. Answers made (refusal_of (async_matched begin c.args.ts))) (sym (opener-open_of steps)) answers)

pub returns-clause-length : goal.returns-clause-length
returns-clause-length c =
    ChangesAt-answered async_cmp-total async_cmp-same async_spans c.new-none.ensures c.self.view_is c.change_at.result c.change_at.ensures.changes (λ steps length. length_closed_by steps (closes c.args.ts) ≡ length ∷ [])
    (λ steps answer value called. length_closed_by-EndsLast steps c.args.ts answer value (search rules))

pub returns-clause-stands : goal.returns-clause-stands
returns-clause-stands c =
    ChangesAt-stands async_cmp-total async_cmp-same async_spans c.new-none.ensures c.self.view_is c.change_at.result c.change_at.ensures.changes (closes c.args.ts)
    (λ steps answer value called. async_spans-EndsLast steps c.args.ts answer value (search rules))

pub change_at-requires-clause-same : goal.change_at-requires-clause-same
change_at-requires-clause-same c = async_cmp-same
