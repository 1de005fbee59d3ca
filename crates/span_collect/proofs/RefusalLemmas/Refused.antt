-- How refusals grow with one more answer.
use Rattle.std.proofs.{Common.{◌≡◌, ℕ, ◌+◌, ◌≤◌, List, [], ◌∷◌, ◌++◌, length, Option, Some, None, sym, ap, ◌∙◌, append_assoc, append-nil, arith}}
use Rattle.span_collect.specs.{Answer, Refusals.{number_in, refusal_at, refusals_from}}

-- the refusal of one more answer comes last
pub refusals_from-push : (place : ℕ) (answers : List Answer) (answer : Answer) → refusals_from place (answers ++ answer ∷ []) ≡ refusals_from place answers ++ refusal_at (place + length answers) (number_in answer)
refusals_from-push place [] answer =
    let same : place ≡ place + 0 = omega arith in
    append-nil (refusal_at place (number_in answer)) ∙ ap (λ p. refusal_at p (number_in answer)) same
refusals_from-push place (a ∷ answers) answer =
    let same : place + 1 + length answers ≡ place + length (a ∷ answers) = omega arith in
    ap (λ l. refusal_at place (number_in a) ++ l) (refusals_from-push (place + 1) answers answer)
    ∙ sym (append_assoc (refusal_at place (number_in a)) (refusals_from (place + 1) answers) (refusal_at (place + 1 + length answers) (number_in answer)))
    ∙ ap (λ p. (refusal_at place (number_in a) ++ refusals_from (place + 1) answers) ++ refusal_at p (number_in answer)) same

-- no more answers refuse than there are
pub length-refusals_from : (place : ℕ) (answers : List Answer) → length (refusals_from place answers) ≤ length answers
length-refusals_from place [] = omega arith
length-refusals_from place (answer ∷ answers) = by (number_in answer) (length-refusals_from (place + 1) answers)
  where
    by : (o : Option ℕ) → length (refusals_from (place + 1) answers) ≤ length answers → length (refusal_at place o ++ refusals_from (place + 1) answers) ≤ length (answer ∷ answers)
    by None rest = omega (arith, rest)
    by (Some code) rest = omega (arith, rest)
