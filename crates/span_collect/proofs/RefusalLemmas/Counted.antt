-- How many answers are of each kind, with one more, and to one caller of a journal.
use Rattle.std.proofs.{Common.{◌≡◌, ◌≤◌, ◌<◌, ◌==◌, ℕ, ◌+◌, ◌^◌, Bool, true, false, cond, List, [], ◌∷◌, ◌++◌, length, filter, map, refl, arith}, lemmas.List.Sums.{sum_by_push, sum_by-cons, count_by-le-length}}
use Rattle.span_journal.specs.Rows.{CanGrow}
use Rattle.span_collect.specs.{Accepted, Answer, Entry, Replied, Sealed, Skipped, count_row, counted, is_of, refused_kind, InTurn.answers_of, Refusals.counts_in}

pub counts_in-push : (answers : List Answer) (answer : Answer) → counts_in (answers ++ answer ∷ []) ≡ counted (counts_in answers) answer
counts_in-push answers answer =
    let accepted = sum_by_push (λ a. cond (is_of Accepted a) 1 0) answers answer in
    let refused = sum_by_push (λ a. cond (is_of refused_kind a) 1 0) answers answer in
    let skipped = sum_by_push (λ a. cond (is_of Skipped a) 1 0) answers answer in
    let replied = sum_by_push (λ a. cond (is_of Replied a) 1 0) answers answer in
    let seals = sum_by_push (λ a. cond (is_of Sealed a) 1 0) answers answer in
    rw (accepted, refused, skipped, replied, seals) refl

-- none of them is more than all answers
pub CanGrow-counts_in : (answers : List Answer) → length answers + 1 < 2 ^ 32 → CanGrow (counts_in answers)
CanGrow-counts_in answers few = (
  omega (arith, few, count_by-le-length (is_of Accepted) answers),
  omega (arith, few, count_by-le-length (is_of refused_kind) answers),
  omega (arith, few, count_by-le-length (is_of Skipped) answers),
  omega (arith, few, count_by-le-length (is_of Replied) answers),
  omega (arith, few, count_by-le-length (is_of Sealed) answers),
)

-- a caller had no more items refused than all callers
pub refused-answers_of : (journal : List Entry) (caller : ℕ) → (counts_in (answers_of journal caller)).refused ≤ (count_row journal).refused
refused-answers_of [] caller = omega arith
refused-answers_of (e ∷ journal) caller = by (e.caller == caller) (refused-answers_of journal caller)
  where
    own : Answer → ℕ
    own answer = cond (is_of refused_kind answer) 1 0

    all : (count_row (e ∷ journal)).refused ≡ own e.answer + (count_row journal).refused
    all = sum_by-cons (λ (x : Entry). own x.answer) e journal

    by : (b : Bool) → (counts_in (answers_of journal caller)).refused ≤ (count_row journal).refused →
        (counts_in (map (λ (x : Entry). x.answer) (cond b (e ∷ filter (λ (x : Entry). x.caller == caller) journal) (filter (λ (x : Entry). x.caller == caller) journal)))).refused ≤ (count_row (e ∷ journal)).refused
    by true rest = omega (arith, rest, all, sum_by-cons own e.answer (answers_of journal caller))
    by false rest = omega (arith, rest, all)
