-- Flow chains: the points of a key, from a start to a finish.
use Rattle.std.specs.{List.list_any, Ordering.ordering_then, Prelude.{◌≡◌, ℕ, ◌+◌, ◌<◌, ◌^◌, ◌-◌, Bool, true, false, if◌then◌else◌, ℤ, int_lt, List, [], ◌∷◌, ◌++◌, length, map, sum, count_by, Option, Some, None, Result, Ok, Err}, declared.cmp.Ordering.Ordering}
use Rattle.span_event.specs.declared.fault.Fault.{Fault}
use Rattle.span_keyed_tracks.specs.{FlowOpen, NoFlow, TimeGoesBack, id_cmp, text_cmp, distance, Fault.refusal_of, Keyed.{Keyed, entries_in, kept_at}, declared.{flow_track.{FlowClosed.FlowClosed, FlowRow.FlowRow, FlowTotals.FlowTotals}, keys.FlowKey.FlowKey}}

-- by category, name and id; texts by their bytes
abbrev pub flow_cmp : FlowKey → FlowKey → Ordering
flow_cmp a b = ordering_then (text_cmp a.cat b.cat) (ordering_then (text_cmp a.name b.name) (id_cmp a.id b.id))

-- a point of a chain, at a time: the first, one between, or the last
pub data FlowPoint : Type 0 where
  started : ℤ → FlowPoint
  stepped : ℤ → FlowPoint
  finished : ℤ → FlowPoint

-- a point of a key
abbrev pub FlowEvent : Type 0
FlowEvent = Keyed FlowKey FlowPoint

-- the time of a point
abbrev pub time_of : FlowPoint → ℤ
time_of (started ts) = ts
time_of (stepped ts) = ts
time_of (finished ts) = ts

-- the point is a start
abbrev pub is_start : FlowPoint → Bool
is_start (started ts) = true
is_start point = false

-- the point is a finish
abbrev pub is_finish : FlowPoint → Bool
is_finish (finished ts) = true
is_finish point = false

-- the points from the last start on; none, where there is no start
abbrev pub from_last_start : List FlowPoint → List FlowPoint
from_last_start [] = []
from_last_start (started ts ∷ later) = if list_any is_start later then from_last_start later else started ts ∷ later
from_last_start (point ∷ later) = from_last_start later

-- these points, unless a finish is among them
abbrev pub unless_finished : List FlowPoint → List FlowPoint
unless_finished points = if list_any is_finish points then [] else points

-- the unclosed chain: the points from the last start on, where no finish follows it
abbrev pub chain_of : List FlowPoint → List FlowPoint
chain_of points = unless_finished (from_last_start points)

-- the time of the first of these points
abbrev pub start_of : List FlowPoint → Option ℤ
start_of [] = None
start_of (point ∷ later) = Some (time_of point)

-- the length from a start, if there is one
abbrev pub length_from : Option ℤ → ℤ → List ℕ
length_from None ts = []
length_from (Some start) ts = distance start ts ∷ []

-- the length of the chain that a point ends: a finish, from the last start before it
abbrev pub length_ended_by : List FlowPoint → FlowPoint → List ℕ
length_ended_by earlier (finished ts) = length_from (start_of (from_last_start earlier)) ts
length_ended_by earlier point = []

-- the lengths of the chains that the later points end, in their order
abbrev pub lengths_after : List FlowPoint → List FlowPoint → List ℕ
lengths_after earlier [] = []
lengths_after earlier (point ∷ later) = length_ended_by earlier point ++ lengths_after (earlier ++ point ∷ []) later

-- the lengths of the chains that end
abbrev pub ended_lengths : List FlowPoint → List ℕ
ended_lengths points = lengths_after [] points

-- the time of the last of these points; `ts` where there is none
abbrev pub latest : ℤ → List FlowPoint → ℤ
latest ts [] = ts
latest ts (point ∷ later) = latest (time_of point) later

-- a chain by the times of its first and last point, and how many points it has
pub record OpenChain : Type 0 where
  pub start : ℤ
  pub last : ℤ
  pub points : ℕ

-- these points as a chain; no chain where there are none
abbrev pub summary : List FlowPoint → Option OpenChain
summary [] = None
summary (point ∷ later) = Some (record { start = time_of point; last = latest (time_of point) later; points = length (point ∷ later) })

-- how many finishes there are, the lengths of the chains that they end together, and the unclosed chain
pub record FlowChains : Type 0 where
  pub ended : ℕ
  pub total : ℕ
  pub unclosed : Option OpenChain

-- what the points of one key give
abbrev pub flow_chains : List FlowPoint → FlowChains
flow_chains points = record { ended = count_by is_finish points; total = sum (ended_lengths points); unclosed = summary (chain_of points) }

-- a start beside this unclosed chain: `FlowOpen` where there is one
abbrev pub flow_opened : Option OpenChain → Result (Unit {0}) Fault
flow_opened None = Ok tt
flow_opened (Some chain) = Err FlowOpen

-- a start of a key of which this is kept
abbrev pub flow_start_refusal : FlowChains → Option ℕ
flow_start_refusal chains = refusal_of (flow_opened chains.unclosed)

-- the chain that a step or a finish at this time belongs to: the unclosed one; `NoFlow` where there is none, `TimeGoesBack` where its time is
-- below that of the chain's last point
abbrev pub flow_continued : Option OpenChain → ℤ → Result OpenChain Fault
flow_continued None ts = Err NoFlow
flow_continued (Some chain) ts = if int_lt ts chain.last then Err TimeGoesBack else Ok chain

-- a step or a finish of a key of which this is kept
abbrev pub flow_point_refusal : FlowChains → ℤ → Option ℕ
flow_point_refusal chains ts = refusal_of (flow_continued chains.unclosed ts)

-- the chain with a finish at this time
abbrev pub closed_at : Option OpenChain → ℤ → Option FlowClosed
closed_at None ts = None
closed_at (Some chain) ts = Some (record { points = chain.points + 1; length = distance chain.start ts })

-- what a finish closes: how many points with the start and the finish, and the time from the one to the other
abbrev pub flow_closed : FlowChains → ℤ → Option FlowClosed
flow_closed chains ts = closed_at chains.unclosed ts

-- each key that has a point, in ascending order, with what its points give
abbrev pub FlowKept : Type 0
FlowKept = List (FlowKey × FlowChains)

-- the track keeps what these events give
abbrev pub FlowStandsFor : FlowKept → List FlowEvent → Type 0
FlowStandsFor track es = track ≡ entries_in flow_cmp flow_chains es

-- the track takes one more event
abbrev pub TakesFlow : FlowKept → FlowKept → FlowEvent → Type 0
TakesFlow old new e = (es : List FlowEvent) → FlowStandsFor old es → FlowStandsFor new (es ++ e ∷ [])

-- what is kept for a key; of an unknown key what no points give
abbrev pub flow_chains_at : FlowKept → FlowKey → FlowChains
flow_chains_at track key = kept_at flow_cmp (flow_chains []) track key

-- how many points a chain has; 0 where there is none
abbrev pub points_of : Option OpenChain → ℕ
points_of None = 0
points_of (Some chain) = chain.points

-- there is room for the number of one more point
abbrev pub HasPointRoom : FlowChains → Type 0
HasPointRoom chains = chains.ended + points_of chains.unclosed < 2 ^ 32 - 1

-- the same of a key
abbrev pub HasFlowRoom : FlowKept → FlowKey → Type 0
HasFlowRoom track key = HasPointRoom (flow_chains_at track key)

-- the numbers of what is kept for a key
abbrev pub flow_totals : FlowChains → FlowTotals
flow_totals chains = record { ended = chains.ended; total = chains.total; unclosed = points_of chains.unclosed }

-- the row of a key
abbrev pub flow_row : FlowKey × FlowChains → FlowRow
flow_row (key, chains) = record { key = key; totals = flow_totals chains }

-- the row of each key that has a point, in ascending order of keys
abbrev pub flow_rows : List FlowEvent → List FlowRow
flow_rows es = map flow_row (entries_in flow_cmp flow_chains es)
