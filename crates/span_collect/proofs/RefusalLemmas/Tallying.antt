-- How tallies grow with one more answer.
use Rattle.std.specs.{BTreeMap.{insert_entry, is_at}, Cmp.unsigned_ties, List.Sorted.IsStrictlySortedBy, Map.{keys_of, lookup, set_value}, Ordering.{is_eq, nat_cmp}, Prelude.{filter, slice_get}}
use Rattle.std.proofs.{Common.{◌≡◌, ℕ, ◌+◌, ◌-◌, ◌^◌, ◌<◌, Bool, true, false, cond, ◌==◌, List, [], ◌∷◌, ◌++◌, length, map, Option, Some, None, refl, sym, ap, ap₂, ◌∙◌, append-nil, inl, inr, arith}, lemmas.{Cmp.nat_cmp_total, List.{length-map, length_push, map_push}, Map.Lookups.exact_unsigned, Option.slice_get_cases}}
use Rattle.span_keyed_tracks.proofs.{KeyChange.insert_entry-found, Keyed.{entries_in-insert_entry, kept_at-entries_in, length-steps_at, lookup-entries_in, steps_at-absent}}
use Rattle.span_collect.specs.{Keyed, entries_in, kept_at, steps_at, Answer, CountRow, Entry, counted, InTurn.answers_of, Refusals.{counts_in, number_in, refusal_at, refused_at, refused_by, refusals_from, Tallies.{HasRoom, HasRoomFor, Tallied, Takes, answer_in, tallies_of, tally_of}}, declared.refusals.tally.Refused.Refused}
use Rattle.span_collect.proofs.RefusalLemmas.{Counted.counts_in-push, Refused.{length-refusals_from, refusals_from-push}}

-- the steps of a caller are the answers to it
pub steps_at-answers : (journal : List Entry) (caller : ℕ) → steps_at nat_cmp caller (map answer_in journal) ≡ answers_of journal caller
steps_at-answers [] caller = refl
steps_at-answers (e ∷ journal) caller =
    ap (λ b. map (λ (x : Keyed ℕ Answer). x.step) (cond b (answer_in e ∷ filter (λ x. is_eq (nat_cmp x.key caller)) (map answer_in journal)) (filter (λ x. is_eq (nat_cmp x.key caller)) (map answer_in journal)))) (sym (unsigned_ties e.caller caller))
    ∙ by (e.caller == caller) (steps_at-answers journal caller)
  where
    by : (b : Bool) → steps_at nat_cmp caller (map answer_in journal) ≡ answers_of journal caller →
        map (λ (x : Keyed ℕ Answer). x.step) (cond b (answer_in e ∷ filter (λ x. is_eq (nat_cmp x.key caller)) (map answer_in journal)) (filter (λ x. is_eq (nat_cmp x.key caller)) (map answer_in journal)))
        ≡ map (λ (x : Entry). x.answer) (cond b (e ∷ filter (λ x. x.caller == caller) journal) (filter (λ x. x.caller == caller) journal))
    by true rest = ap (λ l. e.answer ∷ l) rest
    by false rest = rest

-- what a number refused is no more than was told
pub count-kept_at : (tally : Tallied) (code : ℕ) → HasRoom tally → (kept_at nat_cmp (refused_at []) tally.refused code).count < 2 ^ 32 - 1
count-kept_at tally code (answers, is, few) =
    let kept : kept_at nat_cmp (refused_at []) tally.refused code ≡ refused_at (steps_at nat_cmp code (refusals_from 0 answers)) =
    ap (λ (t : Tallied). kept_at nat_cmp (refused_at []) t.refused code) is ∙ kept_at-entries_in nat_cmp_total exact_unsigned refused_at (refusals_from 0 answers) code in
    let count = ap (λ (r : Refused). r.count) kept in
    omega (arith, count, length-steps_at nat_cmp code (refusals_from 0 answers), length-refusals_from 0 answers, few)

module _ (answers : List Answer) (answer : Answer) where
  refusals : (number : Option ℕ) → number_in answer ≡ number → refusals_from 0 (answers ++ answer ∷ []) ≡ refusals_from 0 answers ++ refusal_at (length answers) number
  refusals number is =
      let place : 0 + length answers ≡ length answers = omega arith in
      refusals_from-push 0 answers answer ∙ ap₂ (λ p o. refusals_from 0 answers ++ refusal_at p o) place is

  -- one more item is counted
  counts-more : (old : Tallied) (counts : CountRow) → old ≡ tally_of answers → counts ≡ counted old.counts answer → counts ≡ counts_in (answers ++ answer ∷ [])
  counts-more old counts is counts_it = counts_it ∙ ap (λ (t : Tallied). counted t.counts answer) is ∙ sym (counts_in-push answers answer)

  -- an answer that refuses nothing is one more item
  pub Takes-other : (old new : Tallied) → number_in answer ≡ None → old ≡ tally_of answers → new.items ≡ old.items + 1 → new.counts ≡ counted old.counts answer → new.refused ≡ old.refused →
      new ≡ tally_of (answers ++ answer ∷ [])
  Takes-other old new none is items counts refused =
      let more : new.items ≡ length (answers ++ answer ∷ []) = items ∙ ap (λ (t : Tallied). t.items + 1) is ∙ sym (length_push answers answer) in
      let row = counts-more old new.counts is counts in
      let same : new.refused ≡ refused_by (answers ++ answer ∷ []) =
      refused ∙ ap (λ (t : Tallied). t.refused) is ∙ ap (entries_in nat_cmp refused_at) (sym (append-nil (refusals_from 0 answers)) ∙ sym (refusals None none)) in
      λ i. record { items = more i; counts = row i; refused = same i }

  -- a refusal is one more item, and comes last among those of its number
  pub Takes-refusal : (old new : Tallied) (code : ℕ) (refused : Refused) → number_in answer ≡ Some code → old ≡ tally_of answers → IsStrictlySortedBy nat_cmp (keys_of old.refused) →
      ((places : List ℕ) → kept_at nat_cmp (refused_at []) old.refused code ≡ refused_at places → refused ≡ refused_at (places ++ old.items ∷ [])) →
      new.items ≡ old.items + 1 → new.counts ≡ counted old.counts answer → new.refused ≡ insert_entry nat_cmp old.refused code refused → new ≡ tally_of (answers ++ answer ∷ [])
  Takes-refusal old new code refused some is sorted value items counts written =
      let earlier = refusals_from 0 answers in
      let kept = ap (λ (t : Tallied). kept_at nat_cmp (refused_at []) t.refused code) is ∙ kept_at-entries_in nat_cmp_total exact_unsigned refused_at earlier code in
      let becomes : refused ≡ refused_at (steps_at nat_cmp code earlier ++ length answers ∷ []) =
      value (steps_at nat_cmp code earlier) kept ∙ ap (λ (t : Tallied). refused_at (steps_at nat_cmp code earlier ++ t.items ∷ [])) is in
      let more : new.items ≡ length (answers ++ answer ∷ []) = items ∙ ap (λ (t : Tallied). t.items + 1) is ∙ sym (length_push answers answer) in
      let row = counts-more old new.counts is counts in
      let same : new.refused ≡ refused_by (answers ++ answer ∷ []) =
      written
      ∙ entries_in-insert_entry nat_cmp_total exact_unsigned refused_at earlier (record { key = code; step = length answers }) old.refused refused (ap (λ (t : Tallied). t.refused) is) sorted becomes
      ∙ ap (entries_in nat_cmp refused_at) (sym (refusals (Some code) some)) in
      λ i. record { items = more i; counts = row i; refused = same i }

module _ (journal : List Entry) (old : List (ℕ × Tallied)) (stands : old ≡ tallies_of journal) where
  -- a tally that is found is what the answers to its caller give
  tally_of-found : (key : ℕ) (was : Tallied) → lookup (is_at (nat_cmp key)) old ≡ Some was → was ≡ tally_of (steps_at nat_cmp key (map answer_in journal))
  tally_of-found key was found = lookup-entries_in nat_cmp_total exact_unsigned tally_of (map answer_in journal) key was (ap (lookup (is_at (nat_cmp key))) (sym stands) ∙ found)

  module _ (entry : Entry) (after : List (ℕ × Tallied)) (sorted : IsStrictlySortedBy nat_cmp (keys_of old)) where
    tallies_of-push : (new : Tallied) → new ≡ tally_of (steps_at nat_cmp entry.caller (map answer_in journal) ++ entry.answer ∷ []) → insert_entry nat_cmp old entry.caller new ≡ tallies_of (journal ++ entry ∷ [])
    tallies_of-push new is =
        entries_in-insert_entry nat_cmp_total exact_unsigned tally_of (map answer_in journal) (answer_in entry) old new stands sorted is
        ∙ ap (entries_in nat_cmp tally_of) (sym (map_push answer_in journal entry))

    -- the tally of the entry's caller took the answer
    pub tallies_of-written : (was new : Tallied) → lookup (is_at (nat_cmp entry.caller)) old ≡ Some was → Takes entry.answer was new → after ≡ set_value (is_at (nat_cmp entry.caller)) old new → after ≡ tallies_of (journal ++ entry ∷ [])
    tallies_of-written was new found takes written =
        written ∙ insert_entry-found nat_cmp_total old entry.caller was new sorted found
        ∙ tallies_of-push new (takes (steps_at nat_cmp entry.caller (map answer_in journal)) (tally_of-found entry.caller was found))

    -- an empty tally did, and is kept from now on
    pub tallies_of-first : (none new : Tallied) → lookup (is_at (nat_cmp entry.caller)) old ≡ None → none ≡ tally_of [] → Takes entry.answer none new → after ≡ insert_entry nat_cmp old entry.caller new → after ≡ tallies_of (journal ++ entry ∷ [])
    tallies_of-first none new absent empty takes written =
        let no_steps : steps_at nat_cmp entry.caller (map answer_in journal) ≡ [] =
        steps_at-absent nat_cmp_total exact_unsigned tally_of (map answer_in journal) entry.caller (ap (lookup (is_at (nat_cmp entry.caller))) (sym stands) ∙ absent) in
        written ∙ tallies_of-push new (takes [] empty ∙ ap (λ steps. tally_of (steps ++ entry.answer ∷ [])) (sym no_steps))

-- a tally that is found has room, where its journal has
pub HasRoom-found : (old : List (ℕ × Tallied)) (key : ℕ) (was : Tallied) → HasRoomFor old → lookup (is_at (nat_cmp key)) old ≡ Some was → HasRoom was
HasRoom-found old key was (journal, stands, few) found =
    (steps_at nat_cmp key (map answer_in journal), tally_of-found journal old stands key was found, omega (arith, length-steps_at nat_cmp key (map answer_in journal), length-map journal answer_in, few))

module _ (journal : List Entry) (tallies : List (ℕ × Tallied)) (stands : tallies ≡ tallies_of journal) (caller : ℕ) where
  -- what is kept for a caller is what its items gave
  pub tally_of-answers : (tally : Tallied) → lookup (is_at (nat_cmp caller)) tallies ≡ Some tally → tally ≡ tally_of (answers_of journal caller)
  tally_of-answers tally found = tally_of-found journal tallies stands caller tally found ∙ ap tally_of (steps_at-answers journal caller)

  -- a caller of which nothing is kept has no entry
  pub answers_of-absent : lookup (is_at (nat_cmp caller)) tallies ≡ None → answers_of journal caller ≡ []
  answers_of-absent absent =
      sym (steps_at-answers journal caller) ∙ steps_at-absent nat_cmp_total exact_unsigned tally_of (map answer_in journal) caller (ap (lookup (is_at (nat_cmp caller))) (sym stands) ∙ absent)

-- there is an element at each place within a list
pub slice_get-within : {X : Type 0} (xs : List X) (i : ℕ) → i < length xs → None ≡ slice_get xs i → ⊥
slice_get-within xs i within none = elim (slice_get_cases xs i).1 [
  | inl found ↦ let clash = none ∙ found.2 in cc
  | inr past ↦ omega (arith, within, past.0)
]
