-- How the cursor between the stacks moves from one segment to the next.
use Rattle.std.proofs.{Common.{◌≡◌, ◌≢◌, ◌++◌, ℤ, pos, ◌-ℤ◌, ◌≤ℤ◌, List, [], ◌∷◌, reverse, Some, None, false, sym, ap, ◌∙◌, subst, arith}, lemmas.{Grind.common_steps, Int.{ints, by_lt_z}, List.{reverse-reverse, append-nil, append_assoc, reverse-append}}}
use Rattle.span_self_time.specs.{least_time, Closed.greatest_until, Division.{Owners, owner_of, Belong, AreFuture, AreOwnedSegments, SegmentStacks.{ArePast, IsChange, lasts_beyond, starts_before}}, declared.segment.OwnedSegment.OwnedSegment}

reverse-onto : {A : Type 0} (x : A) (xs ys : List A) → reverse (x ∷ xs) ++ ys ≡ reverse xs ++ x ∷ ys
reverse-onto x xs ys = ap (λ l. l ++ ys) (reverse-append (x ∷ []) xs) ∙ append_assoc (reverse xs) (x ∷ []) ys

pub Some≢None : {A : Type 0} {x : A} → Some x ≢ None
Some≢None e = absurd cc

-- the first of the segments ends no later than t
abbrev pub EndsBy : ℤ → List OwnedSegment → Type 0
EndsBy t [] = Unit {0}
EndsBy t (p ∷ ps) = p.segment.until ≤ℤ t

pub EndsBy-lasts_beyond : (t : ℤ) (ps : List OwnedSegment) → lasts_beyond t ps ≡ false → EndsBy t ps
EndsBy-lasts_beyond t [] h = tt
EndsBy-lasts_beyond t (p ∷ ps) h = omega (arith, ints, h)

ArePast-later : (owners : Owners) (t later : ℤ) (ps : List OwnedSegment) → t ≤ℤ later → Belong owners t later None → ArePast owners t ps → ArePast owners later ps
ArePast-later owners t later [] h none past = (omega (arith, ints, past.0), λ u before. by_lt_z u t (λ k. past.1 u k) (λ k. none u k before))
ArePast-later owners t later (p ∷ ps) h none past =
    (omega (arith, ints, past.0), (λ u from before. by_lt_z u t (λ k. past.1 u from k) (λ k. none u k before)), past.2, past.3, past.4, past.5)

ArePast-sooner : (owners : Owners) (t sooner : ℤ) (ps : List OwnedSegment) → sooner ≤ℤ t → least_time ≤ℤ sooner → EndsBy sooner ps → ArePast owners t ps → ArePast owners sooner ps
ArePast-sooner owners t sooner [] h least ends past = (least, λ u before. past.1 u (omega (arith, ints)))
ArePast-sooner owners t sooner (p ∷ ps) h least ends past = (ends, (λ u from before. past.1 u from (omega (arith, ints))), past.2, past.3, past.4, past.5)

-- between the last segment that ended and t there is nothing
ArePast-none : (owners : Owners) (t sooner : ℤ) (ps : List OwnedSegment) → EndsBy sooner ps → ArePast owners t ps → Belong owners sooner t None
ArePast-none owners t sooner [] ends past u from before = past.1 u before
ArePast-none owners t sooner (p ∷ ps) ends past u from before = past.1 u (omega (arith, ints)) before

-- the first of the segments starts no sooner than t
abbrev pub StartsFrom : ℤ → List OwnedSegment → Type 0
StartsFrom t [] = t ≤ℤ greatest_until
StartsFrom t (p ∷ ps) = t ≤ℤ p.segment.start

pub StartsFrom-starts_before : (t : ℤ) (ps : List OwnedSegment) → t ≤ℤ greatest_until → starts_before t ps ≡ false → StartsFrom t ps
StartsFrom-starts_before t [] h none = h
StartsFrom-starts_before t (p ∷ ps) h none = omega (arith, ints, none)

pub AreFuture-sooner : (owners : Owners) (t sooner : ℤ) (ps : List OwnedSegment) → sooner ≤ℤ t → Belong owners sooner t None → AreFuture owners t ps → AreFuture owners sooner ps
AreFuture-sooner owners t sooner [] h none future = (omega (arith, ints, future.0), λ u from. by_lt_z u t (λ k. none u from k) (λ k. future.1 u k))
AreFuture-sooner owners t sooner (p ∷ ps) h none future =
    (omega (arith, ints, future.0), (λ u from before. by_lt_z u t (λ k. none u from k) (λ k. future.1 u k before)), future.2, future.3, future.4, future.5)

pub AreFuture-later : (owners : Owners) (t later : ℤ) (ps : List OwnedSegment) → t ≤ℤ later → StartsFrom later ps → AreFuture owners t ps → AreFuture owners later ps
AreFuture-later owners t later [] h starts future = (starts, λ u from. future.1 u (omega (arith, ints)))
AreFuture-later owners t later (p ∷ ps) h starts future = (starts, (λ u from before. future.1 u (omega (arith, ints)) before), future.2, future.3, future.4, future.5)

pub AreFuture-none : (owners : Owners) (t later : ℤ) (ps : List OwnedSegment) → StartsFrom later ps → AreFuture owners t ps → Belong owners t later None
AreFuture-none owners t later [] starts future u from before = future.1 u from
AreFuture-none owners t later (p ∷ ps) starts future u from before = future.1 u from (omega (arith, ints))

-- where the last owner before t is not that at t, the segment at t has another owner before it
change_at : (owners : Owners) (t : ℤ) (p : OwnedSegment) (ps : List OwnedSegment) → AreFuture owners t (p ∷ ps) → IsChange owners owners t → owners (p.segment.start -ℤ pos 1) ≢ Some (owner_of p)
change_at owners t p ps future change = grind (arith, ints, common_steps)

-- the cursor stands at t
pub record IsCursor (owners : Owners) (t : ℤ) (past future : List OwnedSegment) : Type 0 where
  pub before : ArePast owners t past
  pub after : AreFuture owners t future
  pub change : IsChange owners owners t

IsCursor-on : (owners : Owners) (t : ℤ) (past : List OwnedSegment) (p : OwnedSegment) (future : List OwnedSegment) → IsCursor owners t past (p ∷ future) → IsCursor owners p.segment.until (p ∷ past) future
IsCursor-on owners t past p future at = grind (arith, ints, common_steps, ArePast-later)

IsCursor-back : (owners : Owners) (t : ℤ) (p : OwnedSegment) (past future : List OwnedSegment) → IsCursor owners t (p ∷ past) future → IsCursor owners p.segment.start past (p ∷ future)
IsCursor-back owners t p past future at = grind (arith, ints, common_steps, by_lt_z, AreFuture-sooner)

-- the cursor stands at some time
pub record HasCursor (owners : Owners) (past future : List OwnedSegment) : Type 0 where
  pub time : ℤ
  pub at : IsCursor owners time past future

HasCursor-on : (owners : Owners) (t : ℤ) (segments past future : List OwnedSegment) → IsCursor owners t past (segments ++ future) → HasCursor owners (reverse segments ++ past) future
HasCursor-on owners t [] past future at = record { time = t; at = at }
HasCursor-on owners t (p ∷ segments) past future at = grind (arith, ints, common_steps, IsCursor-on, reverse-onto, HasCursor-on owners p.segment.until segments (p ∷ past) future (IsCursor-on owners t past p (segments ++ future) at))

-- segments that are the whole time have a cursor between any two
pub HasCursor-segments : (owners : Owners) (past future : List OwnedSegment) → AreOwnedSegments owners (past ++ future) → HasCursor owners (reverse past) future
HasCursor-segments owners past future are =
    let at = HasCursor-on owners least_time past [] future (record { before = (omega (arith, ints), are.nothing); after = are.each; change = λ owner before from. Some≢None (sym before ∙ are.nothing (least_time -ℤ pos 1) (omega (arith, ints))) }) in
    subst (λ l. HasCursor owners l future) (append-nil (reverse past)) at

AreOwnedSegments-back : (owners : Owners) (t : ℤ) (past future : List OwnedSegment) → IsCursor owners t past future → AreOwnedSegments owners (reverse past ++ future)
AreOwnedSegments-back owners t [] future at = grind (arith, ints, common_steps, AreFuture-sooner)
AreOwnedSegments-back owners t (p ∷ past) future at =
    subst (λ l. AreOwnedSegments owners l) (sym (reverse-onto p past future)) (AreOwnedSegments-back owners p.segment.start past (p ∷ future) (IsCursor-back owners t p past future at))

pub AreOwnedSegments-cursor : (owners : Owners) (t : ℤ) (past future : List OwnedSegment) → IsCursor owners t (reverse past) future → AreOwnedSegments owners (past ++ future)
AreOwnedSegments-cursor owners t past future at =
    subst (λ l. AreOwnedSegments owners (l ++ future)) (reverse-reverse past) (AreOwnedSegments-back owners t (reverse past) future at)

-- a cursor can stand at any time in the gap in which it stands
pub IsCursor-within : (owners : Owners) (t time : ℤ) (past future : List OwnedSegment) → least_time ≤ℤ time → EndsBy time past → StartsFrom time future → IsCursor owners t past future → IsCursor owners time past future
IsCursor-within owners t time past future least ends starts at =
    by_lt_z time t
    (λ k. let none = ArePast-none owners t time past ends at.before in record {
      before = ArePast-sooner owners t time past (omega (arith, ints)) least ends at.before;
      after = AreFuture-sooner owners t time future (omega (arith, ints)) none at.after;
      change = λ owner before from. Some≢None (sym from ∙ none time (omega (arith, ints)) k);
    })
    (λ k. let none = AreFuture-none owners t time future starts at.after in record {
      before = ArePast-later owners t time past k none at.before;
      after = AreFuture-later owners t time future k starts at.after;
      change = by_lt_z t time
          (λ m owner before from. Some≢None (sym before ∙ none (time -ℤ pos 1) (omega (arith, ints)) (omega (arith, ints))))
          (λ m. let here : t ≡ time = omega (arith, ints) in subst (λ u. IsChange owners owners u) here at.change);
    })

-- a cursor before a segment can stand right before it
pub IsCursor-before : (owners : Owners) (t : ℤ) (past : List OwnedSegment) (p : OwnedSegment) (future : List OwnedSegment) → IsCursor owners t past (p ∷ future) → IsCursor owners p.segment.start past (p ∷ future)
IsCursor-before owners t past p future at = grind (arith, ints, common_steps, ArePast-later)
