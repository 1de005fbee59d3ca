-- A track of few events has room for a point of any key.
use Rattle.std.specs.Option.{option_map}
use Rattle.std.proofs.Common.{refl, ℕ, ◌+◌, ◌-◌, ◌<◌, ◌≤◌, ◌^◌, ℤ, List, [], ◌∷◌, ◌++◌, length, Option, Some, None, ap, arith}
use Rattle.span_keyed_tracks.specs.{Flow.{FlowPoint, started, stepped, finished, OpenChain, FlowChains, FlowKept, FlowEvent, FlowStandsFor, HasFlowRoom, chain_of, flow_chains, flow_cmp, points_of, summary}, FlowKept.longer, declared.keys.FlowKey.FlowKey}
use Rattle.span_keyed_tracks.proofs.{Flow.{count-append, flow_chains-started, flow_chains-stepped, unclosed-finished, flow_chains_at-StandsFor}, Keyed.size-steps_at}

-- how many points they account for
abbrev size : FlowChains → ℕ
size chains = chains.ended + points_of chains.unclosed

points_of-longer : (ts : ℤ) (unclosed : Option OpenChain) → points_of (option_map (longer ts) unclosed) ≤ points_of unclosed + 1
points_of-longer ts None = omega arith
points_of-longer ts (Some chain) = omega arith

size-append : (points : List FlowPoint) (point : FlowPoint) → size (flow_chains (points ++ point ∷ [])) ≤ size (flow_chains points) + 1
size-append points (started ts) = omega (arith, ap size (flow_chains-started points ts))
size-append points (stepped ts) = omega (arith, ap size (flow_chains-stepped points ts), points_of-longer ts (summary (chain_of points)))
size-append points (finished ts) = omega (arith, count-append points (finished ts), ap points_of (unclosed-finished points ts))

-- a key has room where the track stands for few events
pub HasFlowRoom-StandsFor : (track : FlowKept) (es : List FlowEvent) (key : FlowKey) → FlowStandsFor track es → length es < 2 ^ 32 - 1 → HasFlowRoom track key
HasFlowRoom-StandsFor track es key stands few =
    rw (flow_chains_at-StandsFor track es key stands) (omega (arith, few, size-steps_at flow_cmp (λ (l : List FlowPoint). size (flow_chains l)) refl size-append key es))
