-- What a new span leaves of the time when it has taken its own.
use Rattle.std.specs.{Int.int_min, Global.Vec, Vec.{vec_len, vec_capacity}}
use Rattle.std.proofs.{Common.{◌≡◌, ◌≢◌, ℕ, ◌++◌, ℤ, pos, ◌-ℤ◌, ◌≤ℤ◌, ◌<ℤ◌, int_le, int_lt, true, false, cond, List, [], ◌∷◌, length, reverse, Some, None, refl, sym, ap, ◌∙◌, subst, arith, ◌≤◌, ◌<◌, ◌+◌}, lemmas.{Grind.common_steps, Int.{ints, clamps}}}
use Rattle.span_self_time.specs.{Division.{Owners, owner_of, claims, taken, taken_to, Belong, AreFuture, IsNew, AreOwnedSegments, between, OwnTimes.{IsReplaced, AreTimes}, SegmentStacks.{ArePast, IsOnly, segments_of, piece, starts_before, ends_by, IsTakenTo, IsNextSegment, IsAtStart, IsEntering, IsTaking, IsAhead, IsPassing}}, Spans.{Span, outranks}, declared.{segment.OwnedSegment.OwnedSegment, division.segment_stacks.SegmentStacks.SegmentStacks}}
use Rattle.span_self_time.proofs.{Counts.int_lt-above, Owners.{taken-before, taken-after, taken-within, taken-kept, taken-unclaimed, taken_to-on, taken_to-start}, SegmentStacks.{Cursor.{StartsFrom, EndsBy-lasts_beyond, AreFuture-none, AreFuture-later, HasCursor-segments, IsCursor-within, IsCursor-before, AreOwnedSegments-cursor}, Ends.reverse-push}, Times.IsReplaced-claimed}

-- whom the new span's position names is the span itself
pub IsOnly-taken : (s : Span ℕ) (owners : Owners) → IsNew s owners → IsOnly s (taken s owners)
IsOnly-taken s owners new u owner is at = grind (arith, ints, common_steps)

-- the past of owners who agree before t
pub ArePast-same : (a b : Owners) (t : ℤ) (ps : List OwnedSegment) → ((u : ℤ) → u <ℤ t → b u ≡ a u) → ArePast a t ps → ArePast b t ps
ArePast-same a b t [] same past = (past.0, λ u before. same u before ∙ past.1 u before)
ArePast-same a b t (p ∷ ps) same past = grind (arith, ints, common_steps, ArePast-same a b p.segment.start ps (λ u before. same u (omega (arith, ints, past.0, past.2))) past.5)

-- the future of owners who agree from t on
pub AreFuture-same : (a b : Owners) (t : ℤ) (ps : List OwnedSegment) → ((u : ℤ) → t ≤ℤ u → b u ≡ a u) → AreFuture a t ps → AreFuture b t ps
AreFuture-same a b t [] same future = (future.0, λ u from. same u from ∙ future.1 u from)
AreFuture-same a b t (p ∷ ps) same future = grind (arith, ints, common_steps, AreFuture-same a b p.segment.until ps (λ u from. same u (omega (arith, ints, future.0, future.2))) future.5)

-- one more segment of the past
pub ArePast-push : (owners : Owners) (p : OwnedSegment) (ps : List OwnedSegment) → p.segment.start <ℤ p.segment.until → Belong owners p.segment.start p.segment.until (Some (owner_of p)) → owners (p.segment.start -ℤ pos 1) ≢ Some (owner_of p) → ArePast owners p.segment.start ps → ArePast owners p.segment.until (p ∷ ps)
ArePast-push owners p ps lasts belongs start past =
    (omega (arith, ints), (λ u from before. absurd (omega (arith, ints))), lasts, belongs, start, past)

-- what lies of a segment from `until` on is the future
AreFuture-piece : (owners : Owners) (p : OwnedSegment) (until : ℤ) (future : List OwnedSegment) → p.segment.start ≤ℤ until → until ≤ℤ p.segment.until → Belong owners p.segment.start p.segment.until (Some (owner_of p)) → owners p.segment.until ≢ Some (owner_of p) → AreFuture owners p.segment.until (reverse future) → AreFuture owners until (reverse (future ++ piece p until p.segment.until))
AreFuture-piece owners p until future first then belongs end after = grind (arith, ints, common_steps)

-- how far the span takes the segment
pub record IsTakenUpTo (s : Span ℕ) (from until : ℤ) (p : OwnedSegment) : Type 0 where
  pub forward : from <ℤ until
  pub within : until ≤ℤ p.segment.until
  pub covered : until ≤ℤ s.until
  pub rest : until <ℤ s.until → until ≡ p.segment.until

pub IsTakenUpTo-next : (s : Span ℕ) (from until : ℤ) (p : OwnedSegment) (past future : List OwnedSegment) (owners : Owners) → IsNextSegment s from p past future owners → until ≡ int_min p.segment.until s.until → IsTakenUpTo s from until p
IsTakenUpTo-next s from until p past future owners next is = record {
  forward = omega (arith, ints, clamps, is, next.within, next.ends);
  within = omega (arith, ints, clamps, is);
  covered = omega (arith, ints, clamps, is);
  rest = λ h. omega (arith, ints, clamps, is);
}

-- what the span takes is its own
pub Belong-ceded : (s : Span ℕ) (from until : ℤ) (p : OwnedSegment) (past future : List OwnedSegment) (owners : Owners) → IsNextSegment s from p past future owners → outranks s (owner_of p) ≡ true → IsTakenUpTo s from until p → Belong (taken s owners) from until (Some s)
Belong-ceded s from until p past future owners next above up = λ u after before.
    taken-within s owners u (Some (owner_of p)) true (omega (arith, ints, next.begins)) (omega (arith, ints, up.covered)) (next.belongs u (omega (arith, ints, next.within)) (omega (arith, ints, up.within))) above

pub IsReplaced-ceded : (s : Span ℕ) (from until : ℤ) (p : OwnedSegment) (past future : List OwnedSegment) (owners : Owners) → IsNextSegment s from p past future owners → outranks s (owner_of p) ≡ true → IsTakenUpTo s from until p → IsReplaced (taken_to s from owners) (taken_to s until owners) from until (Some (owner_of p)) (Some s)
IsReplaced-ceded s from until p past future owners next above up =
    IsReplaced-claimed s from until (Some (owner_of p)) owners next.in_time next.begins up.forward up.covered (λ u after before. next.belongs u (omega (arith, ints, next.within)) (omega (arith, ints, up.within))) above

-- what lies of the segment before that stays
pub ArePast-ceded : (s : Span ℕ) (from : ℤ) (p : OwnedSegment) (past future : List OwnedSegment) (owners : Owners) → IsNextSegment s from p past future owners → ArePast (taken s owners) from (reverse (past ++ piece p p.segment.start from))
ArePast-ceded s from p past future owners next = grind (arith, ints, common_steps)

-- the span that outranks the segment's owner takes it up to `until`; `gained` is the past with that
pub IsTakenTo-ceded : (s : Span ℕ) (from until : ℤ) (p : OwnedSegment) (past gained future : List OwnedSegment) (owners : Owners) → IsNextSegment s from p past future owners → outranks s (owner_of p) ≡ true → IsTakenUpTo s from until p → ArePast (taken s owners) until (reverse gained) → IsTakenTo s until gained (future ++ piece p until p.segment.until) owners
IsTakenTo-ceded s from until p past gained future owners next above up before = record {
  new = next.new;
  in_time = next.in_time;
  from = omega (arith, ints, next.begins, up.forward);
  before = before;
  after = AreFuture-piece owners p until future (omega (arith, ints, next.within, up.forward)) up.within next.belongs next.until next.after;
  change = λ owner past here.
      let own : Some owner ≡ Some s = sym past ∙ Belong-ceded s from until p _ future owners next above up (until -ℤ pos 1) (omega (arith, ints, up.forward)) (omega (arith, ints)) in
      let same : owner ≡ s = cc in
      next.new until owner here (ap (λ (o : Span ℕ). o.at) same);
}

-- a segment whose owner the span doesn't outrank stays as it is
pub IsTakenTo-kept : (s : Span ℕ) (from : ℤ) (p : OwnedSegment) (past future : List OwnedSegment) (owners : Owners) → IsNextSegment s from p past future owners → outranks s (owner_of p) ≡ false → IsTakenTo s p.segment.until (past ++ p ∷ []) future owners
IsTakenTo-kept s from p past future owners next below =
    let lasts : p.segment.start <ℤ p.segment.until = omega (arith, ints, next.within) in
    let belongs : Belong (taken s owners) p.segment.start p.segment.until (Some (owner_of p)) = λ u after before.
    taken-kept s owners u (owner_of p) (next.belongs u after before) below in
    record {
      new = next.new;
      in_time = next.in_time;
      from = omega (arith, ints, next.begins, next.within);
      before = rw (reverse-push past p) (ArePast-push (taken s owners) p (reverse past) lasts belongs next.start next.before);
      after = next.after;
      change = λ owner before here.
          let own : Some owner ≡ Some (owner_of p) = sym before ∙ belongs (p.segment.until -ℤ pos 1) (omega (arith, ints)) (omega (arith, ints)) in
          next.until (here ∙ own);
    }

pub taken_to-kept : (s : Span ℕ) (from : ℤ) (p : OwnedSegment) (past future : List OwnedSegment) (owners : Owners) → IsNextSegment s from p past future owners → outranks s (owner_of p) ≡ false → taken_to s from owners ≡ taken_to s p.segment.until owners
taken_to-kept s from p past future owners next below =
    taken_to-on s from p.segment.until owners (omega (arith, ints, next.within)) (λ u after before. taken-unclaimed s owners u (ap (claims s) (next.belongs u (omega (arith, ints, next.within)) before) ∙ below))

-- no one owns the time up to the next segment
pub Belong-gap : (s : Span ℕ) (t until : ℤ) (past future : List OwnedSegment) (owners : Owners) → IsTakenTo s t past future owners → StartsFrom until (reverse future) → until ≤ℤ s.until → Belong (taken s owners) t until (Some s)
Belong-gap s t until past future owners at starts within u after before =
    taken-within s owners u None true (omega (arith, ints, at.from)) (omega (arith, ints)) (AreFuture-none owners t until (reverse future) starts at.after u after before) refl

AreFuture-last : (owners : Owners) (t : ℤ) (p : OwnedSegment) (rest : List OwnedSegment) → AreFuture owners t (reverse (rest ++ p ∷ [])) → AreFuture owners t (p ∷ reverse rest)
AreFuture-last owners t p rest after = subst (λ l. AreFuture owners t l) (reverse-push rest p) after

pub before-last : (s : Span ℕ) (t : ℤ) (p : OwnedSegment) (past rest : List OwnedSegment) (owners : Owners) → IsTakenTo s t past (rest ++ p ∷ []) owners → t ≤ℤ p.segment.start
before-last s t p past rest owners at = (AreFuture-last owners t p rest at.after).0

pub StartsFrom-last : (p : OwnedSegment) (rest : List OwnedSegment) → StartsFrom p.segment.start (reverse (rest ++ p ∷ []))
StartsFrom-last p rest = rw (reverse-push rest p) (omega (arith, ints))

-- the span takes the gap
pub IsReplaced-gap : (s : Span ℕ) (t until : ℤ) (past future : List OwnedSegment) (owners : Owners) → IsTakenTo s t past future owners → StartsFrom until (reverse future) → t <ℤ until → until ≤ℤ s.until → IsReplaced (taken_to s t owners) (taken_to s until owners) t until None (Some s)
IsReplaced-gap s t until past future owners at starts later within =
    IsReplaced-claimed s t until None owners at.in_time at.from later within (AreFuture-none owners t until (reverse future) starts at.after) refl

-- the next segment, whose span has nothing right before it, once the span has taken its own up to there
IsNextSegment-behind : (s : Span ℕ) (t : ℤ) (p : OwnedSegment) (past new rest : List OwnedSegment) (owners : Owners) → IsTakenTo s t past (rest ++ p ∷ []) owners → p.segment.start <ℤ s.until
    → ArePast (taken s owners) p.segment.start (reverse new) → taken s owners (p.segment.start -ℤ pos 1) ≢ Some (owner_of p) → IsNextSegment s p.segment.start p new rest owners
IsNextSegment-behind s t p past new rest owners at ends before start = grind (arith, ints, common_steps)

-- after the gap before it is filled
pub IsNextSegment-filled : (s : Span ℕ) (t : ℤ) (p : OwnedSegment) (past filled rest : List OwnedSegment) (owners : Owners) → IsTakenTo s t past (rest ++ p ∷ []) owners → t <ℤ p.segment.start → p.segment.start <ℤ s.until → ArePast (taken s owners) p.segment.start (reverse filled) → IsNextSegment s p.segment.start p filled rest owners
IsNextSegment-filled s t p past filled rest owners at gap ends before = grind (arith, ints, common_steps)

-- where there is no gap before it
pub IsNextSegment-at : (s : Span ℕ) (t : ℤ) (p : OwnedSegment) (past rest : List OwnedSegment) (owners : Owners) → IsTakenTo s t past (rest ++ p ∷ []) owners → p.segment.start ≤ℤ t → p.segment.start <ℤ s.until → IsNextSegment s p.segment.start p past rest owners
IsNextSegment-at s t p past rest owners at gap ends =
    let after = AreFuture-last owners t p rest at.after in
    let here : t ≡ p.segment.start = omega (arith, ints, after.0) in
    let own = after.3 p.segment.start (omega (arith, ints)) after.2 in
    IsNextSegment-behind s t p past past rest owners at ends (subst (λ u. ArePast (taken s owners) u (reverse past)) here at.before)
    (λ before. at.change (owner_of p) (ap (λ u. taken s owners (u -ℤ pos 1)) here ∙ before) (ap owners here ∙ own))

pub IsTakenTo-start : (s : Span ℕ) (past future : List OwnedSegment) (owners : Owners) → IsAtStart s past future owners → StartsFrom s.start (reverse future) → IsTakenTo s s.start past future owners
IsTakenTo-start s past future owners start gap =
    let cursor = HasCursor-segments owners past (reverse future) start.segments in
    let at = IsCursor-within owners cursor.time s.start (reverse past) (reverse future) start.in_time.0 (EndsBy-lasts_beyond s.start (reverse past) start.ends) gap cursor.at in
    record {
      new = start.new;
      in_time = start.in_time;
      from = omega (arith, ints);
      before = ArePast-same owners (taken s owners) s.start (reverse past) (taken-before s owners) at.before;
      after = at.after;
      change = λ owner before here. at.change owner (sym (taken-before s owners (s.start -ℤ pos 1) (omega (arith, ints))) ∙ before) here;
    }

pub IsNextSegment-start : (s : Span ℕ) (p : OwnedSegment) (past rest future : List OwnedSegment) (owners : Owners) → IsAtStart s past future owners → future ≡ rest ++ p ∷ [] → p.segment.start <ℤ s.start → IsNextSegment s s.start p past rest owners
IsNextSegment-start s p past rest future owners start split before =
    let turned : reverse future ≡ p ∷ reverse rest = ap reverse split ∙ reverse-push rest p in
    let cursor = HasCursor-segments owners past (p ∷ reverse rest) (subst (λ l. AreOwnedSegments owners (past ++ l)) turned start.segments) in
    let at = IsCursor-before owners cursor.time (reverse past) p (reverse rest) cursor.at in
    let ends : int_le p.segment.until s.start ≡ false = subst (λ l. ends_by s.start l ≡ false) turned start.beyond in
    let beyond : s.start <ℤ p.segment.until = omega (arith, ints, ends) in
    record {
      new = start.new;
      in_time = start.in_time;
      begins = omega (arith, ints);
      ends = start.lasts;
      within = (omega (arith, ints), beyond);
      head = λ h. refl;
      before = ArePast-same owners (taken s owners) p.segment.start (reverse past) (λ u h. taken-before s owners u (omega (arith, ints))) at.before;
      start = λ here.
          let same = sym (taken-before s owners (p.segment.start -ℤ pos 1) (omega (arith, ints))) ∙ here in
          at.change (owner_of p) same (at.after.3 p.segment.start (omega (arith, ints)) at.after.2);
      belongs = at.after.3;
      until = at.after.4;
      after = at.after.5;
    }

-- once the span has taken all of its own
pub AreOwnedSegments-taken : (s : Span ℕ) (t : ℤ) (past future : List OwnedSegment) (owners : Owners) → IsTakenTo s t past future owners → s.until ≤ℤ t → AreOwnedSegments (taken s owners) (segments_of past future)
AreOwnedSegments-taken s t past future owners at over =
    AreOwnedSegments-cursor (taken s owners) t past (reverse future) (record {
      before = at.before;
      after = AreFuture-same owners (taken s owners) t (reverse future) (λ u from. taken-after s owners u (omega (arith, ints))) at.after;
      change = λ owner before here. at.change owner before (sym (taken-after s owners t over) ∙ here);
    })

-- and where a gap is left before its end, once that is filled
pub AreOwnedSegments-filled : (s : Span ℕ) (t : ℤ) (past filled future : List OwnedSegment) (owners : Owners) → IsTakenTo s t past future owners → t <ℤ s.until → StartsFrom s.until (reverse future) → ArePast (taken s owners) s.until (reverse filled) → AreOwnedSegments (taken s owners) (segments_of filled future)
AreOwnedSegments-filled s t past filled future owners at gap starts before =
    let belongs = Belong-gap s t s.until past future owners at starts (omega (arith, ints)) in
    let after = AreFuture-later owners t s.until (reverse future) (omega (arith, ints)) starts at.after in
    AreOwnedSegments-cursor (taken s owners) s.until filled (reverse future) (record {
      before = before;
      after = AreFuture-same owners (taken s owners) s.until (reverse future) (taken-after s owners) after;
      change = λ owner before here.
          let own : Some owner ≡ Some s = sym before ∙ belongs (s.until -ℤ pos 1) (omega (arith, ints)) (omega (arith, ints)) in
          let same : owner ≡ s = cc in
          at.new s.until owner (sym (taken-after s owners s.until (omega (arith, ints))) ∙ here) (ap (λ (o : Span ℕ). o.at) same);
    })

-- of the segments that are still to come, the last in the list is the first
pub starts_before-last : (t : ℤ) (rest : List OwnedSegment) (p : OwnedSegment) (future : List OwnedSegment) → future ≡ rest ++ p ∷ [] → starts_before t (reverse future) ≡ int_lt p.segment.start t
starts_before-last t rest p future split = ap (starts_before t) (ap reverse split ∙ reverse-push rest p)

pub piece-none : (p : OwnedSegment) (a b : ℤ) → b ≤ℤ a → length (piece p a b) ≡ 0
piece-none p a b h = ap (λ t. length (cond t (between p a b ∷ []) [])) (int_lt-above a b h)

pub length-piece : (p : OwnedSegment) (a b : ℤ) → length (piece p a b) ≤ 1
length-piece p a b = grind (arith, ints, common_steps)

-- the segment that the span starts in is taken out
pub IsPassing-entering : (s : Span ℕ) (p : OwnedSegment) (t : SegmentStacks) (future : Vec OwnedSegment) (owners : Owners) → IsEntering s t owners
    → t.future.items ≡ future.items ++ p ∷ [] → vec_len t.future ≡ vec_len future + 1 → vec_len future < vec_capacity future
    → p.segment.start <ℤ s.start → IsPassing s s.start p (record { past = t.past; future = future; times = t.times }) owners
IsPassing-entering s p t future owners is split longer behind before = record {
  next = IsNextSegment-start s p t.past.items future.items t.future.items owners is.start split before;
  times = subst (λ (o : Owners). AreTimes o t.times) (taken_to-start s owners) is.times;
  kept = is.kept;
  room = omega (arith, is.room, longer, length-piece p p.segment.start s.start);
  room_behind = behind;
}

-- the next segment is taken out
pub IsAhead-taking : (s : Span ℕ) (time : ℤ) (p : OwnedSegment) (t : SegmentStacks) (future : Vec OwnedSegment) (owners : Owners) → IsTaking s time t owners
    → t.future.items ≡ future.items ++ p ∷ [] → vec_len t.future ≡ vec_len future + 1 → vec_len future < vec_capacity future
    → p.segment.start <ℤ s.until → IsAhead s time p (record { past = t.past; future = future; times = t.times }) owners
IsAhead-taking s time p t future owners is split longer behind within = grind (arith, ints, common_steps)
