use Rattle.std.specs.Option.{option_to_list}
use Rattle.std.proofs.{Common.{◌≡◌, ◌-◌, ◌<◌, ◌++◌, [], ◌∷◌, Some, length, get_or, slice_get, reverse, sym, ap, ◌∙◌, subst, arith, rules, vec_len, w64, to_z, of_z}, lemmas.{Int.to_z-of_z, Option.{slice_get_within, get_or_from_slice_get, same_Some}}}
use Rattle.span_self_time.specs.{Division.{Owners, owner_of, SegmentStacks.{ArePast, IsOnly, IsTakenBack}}, declared.segment.OwnedSegment.OwnedSegment}
use Rattle.span_self_time.proofs.{SegmentStacks.Gaining.{IsTakenBack-last, IsTakenBack-apart}, division.segment_stacks.take_back.Goals.In-Some}
use Rattle.span_self_time.proofs.division.segment_stacks.take_back.Goals as goal

last_is : (c : In-Some) → slice_get c.args.past.now.items (length c.args.past.now.items - 1) ≡ Some c.in-Some.last.now
last_is c = ap (λ l. slice_get l (length l - 1)) (sym c.deref.ensures.value) ∙ sym c.in-Some.ensures.value

pub returns-in-Some-clause-past : goal.returns-in-Some-clause-past
returns-in-Some-clause-past c =
    let s = owner_of c.args.span.now in
    let old = c.args.past.now.items in
    let new = c.pop.new.self.items in
    let owned = c.in-Some.last.now in
    let last = last_is (goal.at.returns-in-Some-clause-past c).In-Some in
    let long : vec_len c.args.past.now ≡ length old = sym c.deref.ensures.len ∙ ap length c.deref.ensures.value in
    let some : 0 < vec_len c.args.past.now = omega (arith, slice_get_within old (length old - 1) owned last) in
    let popped : c.pop.result ≡ Some owned = c.pop.ensures.value owned some ∙ ap (λ n. Some (get_or old (n - 1) owned)) long ∙ ap Some (get_or_from_slice_get old (length old - 1) owned owned last) in
    let split : old ≡ new ++ owned ∷ [] = c.pop.ensures.items ∙ ap (λ o. new ++ option_to_list o) popped in
    let start : to_z w64 (of_z w64 owned.segment.start) ≡ owned.segment.start = search rules in
    let until : to_z w64 (of_z w64 owned.segment.until) ≡ owned.segment.until = search rules in
    let from : to_z w64 (of_z w64 c.args.from) ≡ c.args.from = to_z-of_z w64 c.args.from c.ranges.from in
    let ends : owned.segment.until ≡ c.args.from = sym until ∙ ap (to_z w64) c.if-last-from.true ∙ from in
    λ owners only past. subst (λ t. IsTakenBack s t c.args.from new owners) (sym start)
    (IsTakenBack-last s c.args.from new owned owners only (subst (λ l. ArePast owners c.args.from (reverse l)) split past) c.if-last-span.true ends)

-- the last segment is not of the span, or ends elsewhere
apart : (c : In-Some) → (c.in-Some.last.now.segment.at ≡ c.args.span.now.segment.at → c.in-Some.last.now.segment.until ≡ c.args.from → ⊥) → (owners : Owners) → IsOnly (owner_of c.args.span.now) owners
    → ArePast owners c.args.from (reverse c.args.past.now.items) → IsTakenBack (owner_of c.args.span.now) (to_z w64 (of_z w64 c.args.from)) c.args.from c.args.past.now.items owners
apart c differs owners only past =
    let s = owner_of c.args.span.now in
    let old = c.args.past.now.items in
    let from : to_z w64 (of_z w64 c.args.from) ≡ c.args.from = to_z-of_z w64 c.args.from c.ranges.from in
    subst (λ t. IsTakenBack s t c.args.from old owners) (sym from)
    (IsTakenBack-apart s c.args.from old owners only past (λ p is at ends.
    let same : p ≡ c.in-Some.last.now = same_Some p c.in-Some.last.now (sym is ∙ last_is c) in
    differs (ap (λ (q : OwnedSegment). q.segment.at) (sym same) ∙ at) (ap (λ (q : OwnedSegment). q.segment.until) (sym same) ∙ ends)))

pub returns-in_default-clause-past : goal.returns-in_default-clause-past
returns-in_default-clause-past c = apart (goal.at.returns-in_default-clause-past c).In-Some (λ at ends. c.if-last-from.false (ap (of_z w64) ends))

pub returns-in_default-2-clause-past : goal.returns-in_default-2-clause-past
returns-in_default-2-clause-past c = apart (goal.at.returns-in_default-2-clause-past c).In-Some (λ at ends. c.if-last-span.false at)
