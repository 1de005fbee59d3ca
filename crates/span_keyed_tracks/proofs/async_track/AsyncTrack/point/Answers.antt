use Rattle.std.proofs.Common.{rules}
use Rattle.span_keyed_tracks.specs.{Async.{HasStepRoom, async_cmp, async_spans}, Matching.other}
use Rattle.span_keyed_tracks.proofs.{Async.async_spans-other, KeyChange.{kept_at-holds, ChangesAt-stands, by_third}, Orders.{async_cmp-total, async_cmp-same}}
use Rattle.span_keyed_tracks.proofs.async_track.AsyncTrack.point.Goals as goal

pub change_at-requires-clause-can : goal.change_at-requires-clause-can
change_at-requires-clause-can c = λ value is. let room = kept_at-holds async_cmp HasStepRoom c.args.key.now is c.new-none.ensures c.self.view_is c.requires.room in search rules

pub returns-clause-stands : goal.returns-clause-stands
returns-clause-stands c =
    ChangesAt-stands async_cmp-total async_cmp-same async_spans c.new-none.ensures c.self.view_is c.change_at.result c.change_at.ensures.changes (other tt)
    (λ steps answer value called. by_third (async_spans-other steps) (search rules))

pub change_at-requires-clause-same : goal.change_at-requires-clause-same
change_at-requires-clause-same c = async_cmp-same
