-- What is kept of the chains of a key, from one point to the next.
use Rattle.std.specs.{List.list_any, Option.option_map, Prelude.{sum, count_by}}
use Rattle.std.proofs.{Common.{◌≡◌, ℕ, ◌+◌, Bool, true, false, ◌||◌, cond, ℤ, List, [], ◌∷◌, ◌++◌, length, Option, Some, None, refl, sym, ap, ap₂, ◌∙◌, arith, append-nil, append_assoc, length-append}, lemmas.List.Sums.sum_by-append}
use Rattle.span_keyed_tracks.specs.{distance, Flow.{FlowPoint, started, stepped, finished, FlowEvent, FlowKept, FlowStandsFor, closed_at, time_of, is_start, is_finish, from_last_start, unless_finished, chain_of, start_of, length_from, length_ended_by, lengths_after, ended_lengths, latest, OpenChain, summary, flow_chains, flow_chains_at, flow_cmp}, FlowKept.{with_start, with_step, with_finish, longer, length_at}, Keyed.steps_at, declared.{flow_track.FlowClosed.FlowClosed, keys.FlowKey.FlowKey}}
use Rattle.span_keyed_tracks.proofs.{Keyed.kept_at-entries_in, Orders.{flow_cmp-total, flow_cmp-same}}

list_any-push : {A : Type 0} (p : A → Bool) (xs : List A) (x : A) → list_any p (xs ++ x ∷ []) ≡ (list_any p xs || p x)
list_any-push p [] x = elim (p x) as (λ b. (b || false) ≡ b) [ true ↦ refl | false ↦ refl ]
list_any-push p (y ∷ xs) x = elim (p y) as (λ b. (b || list_any p (xs ++ x ∷ [])) ≡ ((b || list_any p xs) || p x)) [ true ↦ refl | false ↦ list_any-push p xs x ]

or_true : (b : Bool) → (b || true) ≡ true
or_true true = refl
or_true false = refl

or_false : (b : Bool) → (b || false) ≡ b
or_false true = refl
or_false false = refl

-- these points with one more, unless there are none
abbrev added_to : List FlowPoint → FlowPoint → List FlowPoint
added_to [] point = []
added_to (first ∷ later) point = (first ∷ later) ++ point ∷ []

from_last_start-started : (points : List FlowPoint) (ts : ℤ) → from_last_start (points ++ started ts ∷ []) ≡ started ts ∷ []
from_last_start-started [] ts = refl
from_last_start-started (started t ∷ points) ts =
    ap (λ b. cond b (from_last_start (points ++ started ts ∷ [])) (started t ∷ points ++ started ts ∷ [])) (list_any-push is_start points (started ts) ∙ or_true (list_any is_start points))
    ∙ from_last_start-started points ts
from_last_start-started (stepped t ∷ points) ts = from_last_start-started points ts
from_last_start-started (finished t ∷ points) ts = from_last_start-started points ts

from_last_start-added : (points : List FlowPoint) (point : FlowPoint) → is_start point ≡ false → from_last_start (points ++ point ∷ []) ≡ added_to (from_last_start points) point
from_last_start-added [] (started ts) h = cc
from_last_start-added [] (stepped ts) h = refl
from_last_start-added [] (finished ts) h = refl
from_last_start-added (started t ∷ points) point h =
    ap (λ b. cond b (from_last_start (points ++ point ∷ [])) (started t ∷ points ++ point ∷ [])) (list_any-push is_start points point ∙ ap (λ b. list_any is_start points || b) h ∙ or_false (list_any is_start points))
    ∙ by (list_any is_start points) (from_last_start-added points point h)
  where
    by : (b : Bool) → from_last_start (points ++ point ∷ []) ≡ added_to (from_last_start points) point →
        cond b (from_last_start (points ++ point ∷ [])) (started t ∷ points ++ point ∷ []) ≡ added_to (cond b (from_last_start points) (started t ∷ points)) point
    by true rest = rest
    by false rest = refl
from_last_start-added (stepped t ∷ points) point h = from_last_start-added points point h
from_last_start-added (finished t ∷ points) point h = from_last_start-added points point h

unless_finished-stepped : (points : List FlowPoint) (ts : ℤ) → unless_finished (added_to points (stepped ts)) ≡ added_to (unless_finished points) (stepped ts)
unless_finished-stepped [] ts = refl
unless_finished-stepped (first ∷ later) ts =
    ap (λ b. cond b [] ((first ∷ later) ++ stepped ts ∷ [])) (list_any-push is_finish (first ∷ later) (stepped ts) ∙ or_false (list_any is_finish (first ∷ later)))
    ∙ elim (list_any is_finish (first ∷ later)) as (λ b. cond b [] ((first ∷ later) ++ stepped ts ∷ []) ≡ added_to (cond b [] (first ∷ later)) (stepped ts)) [ true ↦ refl | false ↦ refl ]

unless_finished-finished : (points : List FlowPoint) (ts : ℤ) → unless_finished (added_to points (finished ts)) ≡ []
unless_finished-finished [] ts = refl
unless_finished-finished (first ∷ later) ts =
    ap (λ b. cond b [] ((first ∷ later) ++ finished ts ∷ [])) (list_any-push is_finish (first ∷ later) (finished ts) ∙ or_true (list_any is_finish (first ∷ later)))

latest-push : (t : ℤ) (points : List FlowPoint) (ts : ℤ) → latest t (points ++ stepped ts ∷ []) ≡ ts
latest-push t [] ts = refl
latest-push t (point ∷ points) ts = latest-push (time_of point) points ts

abbrev chain_with : ℤ → ℤ → ℕ → Option OpenChain
chain_with start last points = Some (record { start = start; last = last; points = points })

summary-added_to : (points : List FlowPoint) (ts : ℤ) → summary (added_to points (stepped ts)) ≡ option_map (longer ts) (summary points)
summary-added_to [] ts = refl
summary-added_to (first ∷ later) ts =
    ap₂ (chain_with (time_of first)) (latest-push (time_of first) later ts) (length-append (first ∷ later) (stepped ts ∷ []))

lengths_after-append : (earlier later : List FlowPoint) (point : FlowPoint) → lengths_after earlier (later ++ point ∷ []) ≡ lengths_after earlier later ++ length_ended_by (earlier ++ later) point
lengths_after-append earlier [] point = rw (append-nil earlier, append-nil (length_ended_by earlier point))
lengths_after-append earlier (first ∷ later) point =
    rw (lengths_after-append (earlier ++ first ∷ []) later point, append_assoc earlier (first ∷ []) later)
    (sym (append_assoc (length_ended_by earlier first) (lengths_after (earlier ++ first ∷ []) later) (length_ended_by (earlier ++ first ∷ later) point)))

ended_lengths-append : (points : List FlowPoint) (point : FlowPoint) → ended_lengths (points ++ point ∷ []) ≡ ended_lengths points ++ length_ended_by points point
ended_lengths-append points point = lengths_after-append [] points point

-- one more point is one more finish where it is one
pub count-append : (points : List FlowPoint) (point : FlowPoint) → count_by is_finish (points ++ point ∷ []) ≡ count_by is_finish points + cond (is_finish point) 1 0
count-append points point = omega (arith, sum_by-append (λ (p : FlowPoint). cond (is_finish p) 1 0) points (point ∷ []))

-- a start is the one point of a new chain
pub flow_chains-started : (points : List FlowPoint) (ts : ℤ) → flow_chains (points ++ started ts ∷ []) ≡ with_start (flow_chains points) ts
flow_chains-started points ts =
    let ended : count_by is_finish (points ++ started ts ∷ []) ≡ count_by is_finish points = omega (arith, count-append points (started ts)) in
    let lengths : ended_lengths (points ++ started ts ∷ []) ≡ ended_lengths points = ended_lengths-append points (started ts) ∙ append-nil (ended_lengths points) in
    let chain : summary (chain_of (points ++ started ts ∷ [])) ≡ Some (record { start = ts; last = ts; points = 1 }) = ap (λ l. summary (unless_finished l)) (from_last_start-started points ts) in
    cc (ended, lengths, chain)

-- a step is the last point of the chain
pub flow_chains-stepped : (points : List FlowPoint) (ts : ℤ) → flow_chains (points ++ stepped ts ∷ []) ≡ with_step (flow_chains points) ts
flow_chains-stepped points ts =
    let ended : count_by is_finish (points ++ stepped ts ∷ []) ≡ count_by is_finish points = omega (arith, count-append points (stepped ts)) in
    let lengths : ended_lengths (points ++ stepped ts ∷ []) ≡ ended_lengths points = ended_lengths-append points (stepped ts) ∙ append-nil (ended_lengths points) in
    let chain : summary (chain_of (points ++ stepped ts ∷ [])) ≡ option_map (longer ts) (summary (chain_of points)) =
    ap (λ l. summary (unless_finished l)) (from_last_start-added points (stepped ts) refl) ∙ ap summary (unless_finished-stepped (from_last_start points) ts) ∙ summary-added_to (chain_of points) ts in
    cc (ended, lengths, chain)

-- after a finish no chain is unclosed
pub unclosed-finished : (points : List FlowPoint) (ts : ℤ) → summary (chain_of (points ++ finished ts ∷ [])) ≡ None
unclosed-finished points ts =
    ap (λ l. summary (unless_finished l)) (from_last_start-added points (finished ts) refl) ∙ ap summary (unless_finished-finished (from_last_start points) ts)

-- the start of the unclosed chain is the last start
start_of-chain_of : (points : List FlowPoint) (chain : OpenChain) → summary (unless_finished points) ≡ Some chain → start_of points ≡ Some chain.start
start_of-chain_of [] chain found = cc
start_of-chain_of (first ∷ later) chain found = by (list_any is_finish (first ∷ later)) found
  where
    by : (b : Bool) → summary (cond b [] (first ∷ later)) ≡ Some chain → start_of (first ∷ later) ≡ Some chain.start
    by true found = cc
    by false found = let same : record { start = time_of first; last = latest (time_of first) later; points = length (first ∷ later) } ≡ chain = cc in ap (λ (c : OpenChain). Some c.start) same

-- a finish ends the unclosed chain
pub flow_chains-finished : (points : List FlowPoint) (ts : ℤ) (chain : OpenChain) → summary (chain_of points) ≡ Some chain → flow_chains (points ++ finished ts ∷ []) ≡ with_finish (flow_chains points) ts
flow_chains-finished points ts chain found =
    let ended = count-append points (finished ts) in
    let lengths : ended_lengths (points ++ finished ts ∷ []) ≡ ended_lengths points ++ distance chain.start ts ∷ [] =
    ended_lengths-append points (finished ts) ∙ ap (λ o. ended_lengths points ++ length_from o ts) (start_of-chain_of (from_last_start points) chain found) in
    let total : sum (ended_lengths (points ++ finished ts ∷ [])) ≡ sum (ended_lengths points) + length_at (summary (chain_of points)) ts =
    ap sum lengths ∙ (let apart : sum (ended_lengths points ++ distance chain.start ts ∷ []) ≡ sum (ended_lengths points) + distance chain.start ts = omega (arith, sum_by-append (λ (n : ℕ). n) (ended_lengths points) (distance chain.start ts ∷ [])) in apart)
    ∙ ap (λ o. sum (ended_lengths points) + length_at o ts) (sym found) in
    cc (ended, total, unclosed-finished points ts)

-- what a track keeps for a key is what the points of the key give
pub flow_chains_at-StandsFor : (track : FlowKept) (es : List FlowEvent) (key : FlowKey) → FlowStandsFor track es → flow_chains_at track key ≡ flow_chains (steps_at flow_cmp key es)
flow_chains_at-StandsFor track es key stands =
    ap (λ t. flow_chains_at t key) stands ∙ kept_at-entries_in flow_cmp-total flow_cmp-same flow_chains es key

-- a finish closes only a chain that is unclosed
unclosed-closed_at : (unclosed : Option OpenChain) (ts : ℤ) (closed : FlowClosed) → closed_at unclosed ts ≡ Some closed → (chain : OpenChain) × (unclosed ≡ Some chain)
unclosed-closed_at None ts closed is = absurd cc
unclosed-closed_at (Some chain) ts closed is = (chain, refl)

-- a finish that closes a chain ends it
pub flow_chains-closed_at : (points : List FlowPoint) (ts : ℤ) (closed : FlowClosed) → closed_at (summary (chain_of points)) ts ≡ Some closed → flow_chains (points ++ finished ts ∷ []) ≡ with_finish (flow_chains points) ts
flow_chains-closed_at points ts closed is =
    let chain = unclosed-closed_at (summary (chain_of points)) ts closed is in
    flow_chains-finished points ts chain.0 chain.1
