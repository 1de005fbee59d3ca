-- How what is kept of the chains of one key changes, and how large it gets.
use Rattle.std.specs.{Option.option_map, Prelude.{ℕ, ◌+◌, ◌*◌, ◌<◌, ◌≤◌, ◌^◌, ℤ, ◌≤ℤ◌, Option, Some, None}}
use Rattle.span_keyed_tracks.specs.{IsTime, greatest_time, distance, Flow.{OpenChain, FlowChains, points_of}}

-- times of the chain are in range, and its last point is not before its first
abbrev pub IsInTime : Option OpenChain → Type 0
IsInTime None = Unit {0}
IsInTime (Some chain) = IsTime chain.start × IsTime chain.last × (chain.start ≤ℤ chain.last)

-- times are in range, so that the sum of lengths is bounded, and the numbers are numbers of 32 bits
pub record AreBounded (chains : FlowChains) : Type 0 where
  pub in_time : IsInTime chains.unclosed
  pub few : chains.ended + points_of chains.unclosed < 2 ^ 32
  pub short : chains.total ≤ chains.ended * (2 * greatest_time)

-- a chain of one point is unclosed
abbrev pub with_start : FlowChains → ℤ → FlowChains
with_start chains ts = record { ended = chains.ended; total = chains.total; unclosed = Some (record { start = ts; last = ts; points = 1 }) }

-- the unclosed chain with one more point
abbrev pub longer : ℤ → OpenChain → OpenChain
longer ts chain = record { start = chain.start; last = ts; points = chain.points + 1 }

-- the unclosed chain has one more point
abbrev pub with_step : FlowChains → ℤ → FlowChains
with_step chains ts = record { ended = chains.ended; total = chains.total; unclosed = option_map (longer ts) chains.unclosed }

-- the length of the unclosed chain at its finish
abbrev pub length_at : Option OpenChain → ℤ → ℕ
length_at None ts = 0
length_at (Some chain) ts = distance chain.start ts

-- one more chain has ended, and none is unclosed
abbrev pub with_finish : FlowChains → ℤ → FlowChains
with_finish chains ts = record { ended = chains.ended + 1; total = chains.total + length_at chains.unclosed ts; unclosed = None }
