use Rattle.std.specs.Option.{option_map}
use Rattle.std.proofs.Common.{Some, ap, ◌∙◌}
use Rattle.span_keyed_tracks.specs.{Counters.Series, CountersKept.named}
use Rattle.span_keyed_tracks.proofs.SeriesKept.{found_at-is}
use Rattle.span_keyed_tracks.proofs.counter_track.CounterTrack.of.Goals as goal

pub returns-in_err-running : goal.returns-in_err-running
returns-in_err-running c = λ es stands.
    c.from_residual.ensures ∙ ap (option_map (λ (s : Series). s.totals)) (c.in_err-running.ensures ∙ found_at-is (named c.self.inside.counters.keys c.self.inside.series.entries) es c.args.key.now (c.self.view_is ∙ stands))

pub returns : goal.returns
returns c = λ es stands.
    ap Some c.totals.ensures ∙ ap (option_map (λ (s : Series). s.totals)) (c.in_ok-running.ensures ∙ found_at-is (named c.self.inside.counters.keys c.self.inside.series.entries) es c.args.key.now (c.self.view_is ∙ stands))
