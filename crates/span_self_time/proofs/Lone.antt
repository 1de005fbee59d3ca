-- Where at most one span has time, its segment is all segments.
use Rattle.std.proofs.{Common.{◌≡◌, ℕ, Bool, false, cond, ◌≤ℤ◌, ◌<ℤ◌, [], ◌∷◌, Option, Some, None, refl, sym, ap, ◌∙◌, subst, arith}, lemmas.{Grind.common_steps, Int.ints}}
use Rattle.span_self_time.specs.{distance, least_time, Closed.greatest_until, Division.{Owners, owner_of, taken, taken_to, AreOwnedSegments, IsNew, AreSettled, Lone.{IsLone, segments_of_lone}, OwnTimes.{time_of, IsReplaced}, SegmentStacks.segment_length}, Spans.Span, declared.segment.OwnedSegment.OwnedSegment}
use Rattle.span_self_time.proofs.{Owners.{taken_to-start, taken_to-until}, Times.{IsReplaced-claimed, time_of-none, time_of-replaced}}

-- nobody has time
abbrev pub nobody : Owners
nobody u = None

pub AreOwnedSegments-nobody : AreOwnedSegments nobody []
AreOwnedSegments-nobody = record { nothing = λ u before. refl; each = (omega (arith, ints), λ u from. refl) }

pub AreSettled-nobody : AreSettled nobody
AreSettled-nobody = record { own = λ u o is. absurd cc; no_claim = λ u v o is here. absurd cc }

pub IsNew-nobody : (s : Span ℕ) → IsNew s nobody
IsNew-nobody s = λ u owner is. absurd cc

alone : (p : OwnedSegment) → p.segment.start ≡ p.span_start → p.segment.until ≡ p.span_until → p.span_start <ℤ p.span_until → least_time ≤ℤ p.span_start → p.span_until ≤ℤ greatest_until → AreOwnedSegments (taken (owner_of p) nobody) (p ∷ [])
alone p start until lasts first last = grind (arith, ints, common_steps)

pub AreOwnedSegments-lone : (owners : Owners) (lone : Option OwnedSegment) → IsLone owners lone → AreOwnedSegments owners (segments_of_lone lone)
AreOwnedSegments-lone owners None is = subst (λ o. AreOwnedSegments o []) (sym is) AreOwnedSegments-nobody
AreOwnedSegments-lone owners (Some p) is = subst (λ o. AreOwnedSegments o (p ∷ [])) (sym is.taken_all) (alone p is.start is.until is.lasts is.in_time.0 is.in_time.1)

-- its span has the time for which the segment lasts
pub time_of-alone : (q : Option (Span ℕ) → Bool) → q None ≡ false → (owners : Owners) (p : OwnedSegment) → IsLone owners (Some p) → time_of q owners ≡ cond (q (Some (owner_of p))) (segment_length p) 0
time_of-alone q none owners p is =
    let s = owner_of p in
    let taken : IsReplaced (taken_to s s.start nobody) (taken_to s s.until nobody) s.start s.until None (Some s) = IsReplaced-claimed s s.start s.until None nobody is.in_time (omega (arith, ints)) is.lasts (omega (arith, ints)) (λ u from before. refl) refl in
    let all = time_of-replaced q _ _ s.start s.until None (Some s) taken in
    let old = ap (time_of q) (sym (taken_to-start s nobody)) ∙ time_of-none q none in
    let new = ap (time_of q) (is.taken_all ∙ sym (taken_to-until s nobody)) in
    rw (is.start, is.until) (omega (arith, all, old, new, ap (λ b. cond b (distance s.start s.until) 0) none))
