use Rattle.bench_tracking.specs.Ready.{IsReady}
use Rattle.bench_tracking.proofs.tracking.track_of.Given as goal

abbrev pub invariant-loop-step : goal.invariant-loop-step
invariant-loop-step l = IsReady l.at l.track
