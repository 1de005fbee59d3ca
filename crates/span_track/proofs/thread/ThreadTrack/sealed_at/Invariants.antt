use Rattle.std.proofs.Common.{◌≡◌, map, take}
use Rattle.span_track.specs.{span_of, Kept.begin_of, Nesting.span_sealed}
use Rattle.span_track.proofs.thread.ThreadTrack.sealed_at.Given as goal

-- the spans of the begins so far
abbrev pub invariant-loop-begin : goal.invariant-loop-begin
invariant-loop-begin l = map span_of l.sealed.items ≡ map (λ o. span_sealed (begin_of o) l.ts) (take l.begin-index l.begin-items)
