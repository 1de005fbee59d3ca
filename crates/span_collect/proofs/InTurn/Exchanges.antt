-- What a journal has of a topic follows from its operations and their answers, and of a caller that alone speaks of it from the
-- caller's.
use Rattle.std.specs.{List.{AllByRecursion, cons_option}, Prelude.{Option, Some, None, filter, filter_map}}
use Rattle.std.proofs.Common.{◌≡◌, ◌≢◌, ℕ, ◌+◌, List, [], ◌∷◌, ◌++◌, Bool, true, false, cond, eqb, eq-eqb, map, refl, ap, ◌∙◌}
use Rattle.span_collect.specs.{Answer, Entry, Op, Act, accepted_by, accepted_from, placed, Topic, acts_on, concerns, calls, caller_of}

-- an operation and its answer: an entry without its caller
abbrev pub exchange_of : Entry → Op × Answer
exchange_of e = (e.op, e.answer)

abbrev pub exchanges : List Entry → List (Op × Answer)
exchanges journal = map exchange_of journal

-- the act that was accepted, if it was one
abbrev pub act_of : Op × Answer → Option Act
act_of (op, answer) = accepted_by answer op

-- the acts of exchanges that concern a topic
abbrev pub acts_among : Topic → List (Op × Answer) → List Act
acts_among topic xs = filter (concerns topic) (filter_map act_of xs)

acts-accepted_from : (at : ℕ) (journal : List Entry) → map (λ a. a.act) (accepted_from at journal) ≡ filter_map act_of (exchanges journal)
acts-accepted_from at [] = refl
acts-accepted_from at (e ∷ es) = by (accepted_by e.answer e.op) (acts-accepted_from (at + 1) es)
  where
    by : (o : Option Act) → map (λ a. a.act) (accepted_from (at + 1) es) ≡ filter_map act_of (exchanges es) →
        map (λ a. a.act) (placed at o ++ accepted_from (at + 1) es) ≡ cons_option o (filter_map act_of (exchanges es))
    by None rest = rest
    by (Some act) rest = ap (λ l. act ∷ l) rest

-- a journal's acts on a topic are those of its exchanges
pub acts_on-exchanges : (topic : Topic) (journal : List Entry) → acts_on topic journal ≡ acts_among topic (exchanges journal)
acts_on-exchanges topic journal = ap (filter (concerns topic)) (acts-accepted_from 0 journal)

-- the entry has no accepted act on the topic
abbrev pub IsSilentOn : Topic → Entry → Type 0
IsSilentOn topic e = (act : Act) → act_of (exchange_of e) ≡ Some act → concerns topic act ≡ false

-- one more exchange before both
acts_among-cons : (topic : Topic) (o : Option Act) (xs ys : List (Op × Answer)) → acts_among topic xs ≡ acts_among topic ys →
    filter (concerns topic) (cons_option o (filter_map act_of xs)) ≡ filter (concerns topic) (cons_option o (filter_map act_of ys))
acts_among-cons topic None xs ys same = same
acts_among-cons topic (Some act) xs ys same = ap (λ l. cond (concerns topic act) (act ∷ l) l) same

-- a silent entry adds nothing
acts_among-silent : (topic : Topic) (e : Entry) (xs : List (Op × Answer)) → IsSilentOn topic e → acts_among topic (exchange_of e ∷ xs) ≡ acts_among topic xs
acts_among-silent topic e xs silent = by (act_of (exchange_of e)) silent
  where
    by : (o : Option Act) → ((act : Act) → o ≡ Some act → concerns topic act ≡ false) → filter (concerns topic) (cons_option o (filter_map act_of xs)) ≡ acts_among topic xs
    by None silent = refl
    by (Some act) silent = ap (λ b. cond b (act ∷ acts_among topic xs) (acts_among topic xs)) (silent act refl)

-- where every entry is silent there is no act
pub acts_among-none : (topic : Topic) (journal : List Entry) → AllByRecursion (IsSilentOn topic) journal → acts_among topic (exchanges journal) ≡ []
acts_among-none topic [] silent = refl
acts_among-none topic (e ∷ es) silent = acts_among-silent topic e (exchanges es) silent.0 ∙ acts_among-none topic es silent.1

-- where all entries of other callers are silent the acts are those of the caller's entries
pub acts_among-calls : (topic : Topic) (c : ℕ) (journal : List Entry) → AllByRecursion (λ e. e.caller ≢ c → IsSilentOn topic e) journal →
    acts_among topic (exchanges journal) ≡ acts_among topic (exchanges (calls caller_of c journal))
acts_among-calls topic c [] silent = refl
acts_among-calls topic c (e ∷ es) silent = by (eqb e.caller c) refl (acts_among-calls topic c es silent.1)
  where
    by : (own : Bool) → eqb e.caller c ≡ own → acts_among topic (exchanges es) ≡ acts_among topic (exchanges (calls caller_of c es)) →
        acts_among topic (exchange_of e ∷ exchanges es) ≡ acts_among topic (exchanges (cond own (e ∷ calls caller_of c es) (calls caller_of c es)))
    by true is rest = acts_among-cons topic (act_of (exchange_of e)) (exchanges es) (exchanges (calls caller_of c es)) rest
    by false is rest = acts_among-silent topic e (exchanges es) (silent.0 (λ same. let own : eqb e.caller c ≡ true = eq-eqb e.caller c same in absurd cc)) ∙ rest
