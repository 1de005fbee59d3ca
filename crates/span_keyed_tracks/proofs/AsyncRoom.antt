-- A track of few events has room for a step of any key.
use Rattle.std.proofs.Common.{◌≡◌, ℕ, ◌+◌, ◌-◌, ◌<◌, ◌≤◌, ◌^◌, List, [], ◌∷◌, ◌++◌, length, refl, ap, ◌∙◌, arith, length-append}
use Rattle.span_keyed_tracks.specs.{Async.{AsyncStep, AsyncSpans, AsyncKept, AsyncEvent, AsyncStandsFor, HasAsyncRoom, async_cmp, async_spans, closed_lengths, length_between, never_sealed, no_length}, Last.last_of, Matching.{opens, closes, closes_all, other, opener, open_of, closed_with}, declared.keys.AsyncKey.AsyncKey}
use Rattle.span_keyed_tracks.proofs.{Async.{async_spans-opens, async_spans-other, async_spans_at-StandsFor, count_by-closes}, Keyed.size-steps_at, Matching.{Closed.{closed_of-append, length-closed_with}, Open.{opener-open_of, open_of-closes}}}

-- how many steps they account for
abbrev size : AsyncSpans → ℕ
size spans = length spans.opened + spans.closed + spans.points

size-append : (steps : List AsyncStep) (step : AsyncStep) → size (async_spans (steps ++ step ∷ [])) ≤ size (async_spans steps) + 1
size-append steps (opens ts) = omega (arith, ap size (async_spans-opens steps ts), length-append (open_of steps) (ts ∷ []))
size-append steps (closes_all never) = absurd never
size-append steps (other point) = omega (arith, ap size (async_spans-other steps))
size-append steps (closes ts) =
    let opened = ap length (open_of-closes steps ts) in
    let closed : length (closed_lengths (steps ++ closes ts ∷ [])) ≡ length (closed_lengths steps) + length (closed_with length_between never_sealed no_length (last_of (open_of steps)) ts) =
    ap length (closed_of-append length_between never_sealed no_length steps (closes ts)) ∙ length-append (closed_lengths steps) (closed_with length_between never_sealed no_length (opener steps) ts)
    ∙ ap (λ o. length (closed_lengths steps) + length (closed_with length_between never_sealed no_length o ts)) (opener-open_of steps) in
    let points = count_by-closes steps ts in
    omega (arith, opened, closed, points, length-closed_with length_between never_sealed no_length ts (λ b. refl) (open_of steps))

-- a key has room where the track stands for few events
pub HasAsyncRoom-StandsFor : (track : AsyncKept) (es : List AsyncEvent) (key : AsyncKey) → AsyncStandsFor track es → length es < 2 ^ 32 - 1 → HasAsyncRoom track key
HasAsyncRoom-StandsFor track es key stands few =
    rw (async_spans_at-StandsFor track es key stands) (omega (arith, few, size-steps_at async_cmp (λ (l : List AsyncStep). size (async_spans l)) refl size-append key es))
