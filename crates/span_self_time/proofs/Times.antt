-- How the time in which an owner passes a test, and with it the running times, change as a stretch changes hands.
use Rattle.std.specs.Option.{option_map, is_some}
use Rattle.std.proofs.{Common.{◌<◌, ◌-◌, ◌≡◌, ◌≤◌, ◌^◌, ℕ, ◌+◌, Bool, true, false, cond, nat_eq, ℤ, pos, ◌-ℤ◌, ◌≤ℤ◌, ◌<ℤ◌, IfSome, Option, None, Some, refl, ap, ◌∙◌, eq-eqb, arith}, lemmas.{Grind.common_steps, Int.ints}}
use Rattle.span_self_time.specs.{distance, least_time, Closed.{greatest_until, IsInTime}, Division.{Owners, Belong, owner_of, own_in, claims, taken_to, OwnTimes.{has_name, time_of, AreTimes, IsReplaced}}, Spans.{Span, count_from}, declared.{division.own_times.OwnTimes.OwnTimes, segment.OwnedSegment.OwnedSegment}}
use Rattle.span_self_time.proofs.{Counts.{add-distance, distance-add, count_from-add, count_from-same, count_from-unbroken, count_from-none, count_from-le}}

count_from-split : (f : ℤ → Bool) (a b c : ℤ) → a ≤ℤ b → b ≤ℤ c → count_from a (distance a c) f ≡ count_from a (distance a b) f + count_from b (distance b c) f
count_from-split f a b c first then =
    rw (distance-add a b c first then) (count_from-add f a (distance a b) (distance b c) ∙ ap (λ t. count_from a (distance a b) f + count_from t (distance b c) f) (add-distance a b first))

-- the time of a test that a stretch passes or not, and the rest
count_from-stretch : (q : Option (Span ℕ) → Bool) (owners : Owners) (a t n b : ℤ) (p : Option (Span ℕ)) → a ≤ℤ t → t ≤ℤ n → n ≤ℤ b → Belong owners t n p
    → count_from a (distance a b) (λ u. q (owners u)) ≡ count_from a (distance a t) (λ u. q (owners u)) + (cond (q p) (distance t n) 0 + count_from n (distance n b) (λ u. q (owners u)))
count_from-stretch q owners a t n b p first lasts last belongs =
    count_from-split (λ u. q (owners u)) a t b first (omega (arith, ints))
    ∙ ap (λ x. count_from a (distance a t) (λ u. q (owners u)) + x) (count_from-unbroken (λ u. q (owners u)) (q p) t n b lasts last (λ u from before. ap q (belongs u from before)))

count_from-agreed : (q : Option (Span ℕ) → Bool) (old new : Owners) (a b : ℤ) → a ≤ℤ b → ((u : ℤ) → a ≤ℤ u → u <ℤ b → new u ≡ old u) → count_from a (distance a b) (λ u. q (new u)) ≡ count_from a (distance a b) (λ u. q (old u))
count_from-agreed q old new a b forward same =
    count_from-same (λ u. q (new u)) (λ u. q (old u)) a (distance a b) (λ u from before. let end = add-distance a b forward in ap q (same u from (omega (arith, ints, end))))

pub time_of-replaced : (q : Option (Span ℕ) → Bool) (old new : Owners) (t n : ℤ) (p r : Option (Span ℕ)) → IsReplaced old new t n p r → time_of q new + cond (q p) (distance t n) 0 ≡ time_of q old + cond (q r) (distance t n) 0
unfolding time_of
time_of-replaced q old new t n p r h = from least_time greatest_until h.first h.last
  where
    from : (a b : ℤ) → a ≤ℤ t → n ≤ℤ b → count_from a (distance a b) (λ u. q (new u)) + cond (q p) (distance t n) 0 ≡ count_from a (distance a b) (λ u. q (old u)) + cond (q r) (distance t n) 0
    from a b first last =
        let lasts : t ≤ℤ n = omega (arith, ints, h.lasts) in
        let of_new = count_from-stretch q new a t n b r first lasts last h.is in
        let of_old = count_from-stretch q old a t n b p first lasts last h.was in
        let head = count_from-agreed q old new a t first (λ u from before. h.before u before) in
        let tail = count_from-agreed q old new n b last (λ u from before. h.after u from) in
        omega (arith, of_new, of_old, head, tail)

-- a stretch is no longer than all that passes
pub distance-time_of : (q : Option (Span ℕ) → Bool) (owners : Owners) (t n : ℤ) (p : Option (Span ℕ)) → least_time ≤ℤ t → t ≤ℤ n → n ≤ℤ greatest_until → Belong owners t n p → q p ≡ true → distance t n ≤ time_of q owners
unfolding time_of
distance-time_of q owners t n p first lasts last belongs passes = from least_time greatest_until first last
  where
    from : (a b : ℤ) → a ≤ℤ t → n ≤ℤ b → distance t n ≤ count_from a (distance a b) (λ u. q (owners u))
    from a b before after =
        let all = count_from-stretch q owners a t n b p before lasts after belongs in
        let here = ap (λ c. cond c (distance t n) 0) passes in
        omega (arith, all, here)

pub time_of-le : (q : Option (Span ℕ) → Bool) (owners : Owners) → time_of q owners < 2 ^ 64
unfolding time_of
time_of-le q owners = from least_time greatest_until (omega (arith, ints)) (omega (arith, ints))
  where
    from : (a b : ℤ) → a ≤ℤ b → (b -ℤ a) ≤ℤ pos (2 ^ 64 - 1) → count_from a (distance a b) (λ u. q (owners u)) < 2 ^ 64
    from a b forward short =
        let whole = add-distance a b forward in
        let few = count_from-le (λ u. q (owners u)) a (distance a b) in
        omega (arith, ints, whole, few)

pub time_of-none : (q : Option (Span ℕ) → Bool) → q None ≡ false → time_of q (λ u. None) ≡ 0
unfolding time_of
time_of-none q none = from least_time (distance least_time greatest_until)
  where
    from : (a : ℤ) (n : ℕ) → count_from a n (λ u. q None) ≡ 0
    from a n = count_from-none (λ u. q None) a n (λ u here before. none)

-- a span takes from its owner what it has a claim on
pub IsReplaced-claimed : (s : Span ℕ) (t n : ℤ) (x : Option (Span ℕ)) (owners : Owners) → IsInTime s → s.start ≤ℤ t → t <ℤ n → n ≤ℤ s.until → Belong owners t n x → claims s x ≡ true → IsReplaced (taken_to s t owners) (taken_to s n owners) t n x (Some s)
IsReplaced-claimed s t n x owners in_time from later ends was claimed = grind (arith, ints, common_steps)

-- who held the stretch has at least its time
pub held-length : (v : Option OwnedSegment) (times : OwnTimes) (owners new : Owners) (t n : ℤ) (r : Option (Span ℕ)) (d : ℕ) → AreTimes owners times → IsReplaced owners new t n (option_map owner_of v) r → d ≡ distance t n → IfSome v (λ owned. d ≤ own_in times.names owned.segment.name)
held-length None times owners new t n r d are change length = tt
held-length (Some p) times owners new t n r d are change length =
    let least = distance-time_of (has_name p.segment.name) owners t n (Some (owner_of p)) change.first (omega (arith, ints, change.lasts)) change.last change.was (eq-eqb p.segment.name p.segment.name refl) in
    omega (arith, least, length, are.of_names p.segment.name)

-- the running times have room for what the span takes, once who held it has lost it
pub charged-small : (q : Option (Span ℕ) → Bool) (v : Option OwnedSegment) (s : Span ℕ) (old new : Owners) (t n : ℤ) (had d : ℕ) → IsReplaced old new t n (option_map owner_of v) (Some s) → q (Some s) ≡ true → had ≡ time_of q old → d ≡ distance t n → had + d < 2 ^ 64 + cond (q (option_map owner_of v)) d 0
charged-small q v s old new t n had d change passes has length =
    let gained = ap (λ b. cond b (distance t n) 0) passes in
    let lost = ap (λ x. cond (q (option_map owner_of v)) x 0) length in
    omega (arith, has, length, gained, lost, time_of-replaced q old new t n (option_map owner_of v) (Some s) change, time_of-le q new)

pub is_some-owner : (v : Option OwnedSegment) → is_some (option_map owner_of v) ≡ is_some v
is_some-owner None = refl
is_some-owner (Some p) = refl

pub AreTimes-charged : (v : Option OwnedSegment) (s : Span ℕ) (times more : OwnTimes) (old new : Owners) (t n : ℤ) (d : ℕ) → IsReplaced old new t n (option_map owner_of v) (Some s) → AreTimes old times → d ≡ distance t n
    → ((name : ℕ) → own_in more.names name + cond (has_name name (option_map owner_of v)) d 0 ≡ own_in times.names name + cond (nat_eq s.name name) d 0) → more.busy + cond (is_some v) d 0 ≡ times.busy + d → AreTimes new more
AreTimes-charged v s times more old new t n d change are length charged all = record {
  of_names = λ name.
      let gained = ap (λ x. cond (nat_eq s.name name) x 0) length in
      let lost = ap (λ x. cond (has_name name (option_map owner_of v)) x 0) length in
      omega (arith, charged name, gained, lost, are.of_names name, time_of-replaced (has_name name) old new t n (option_map owner_of v) (Some s) change);
  of_all =
      let lost = ap (λ x. cond (is_some (option_map owner_of v)) x 0) length in
      let same = ap (λ b. cond b d 0) (is_some-owner v) in
      omega (arith, all, lost, length, are.of_all, time_of-replaced is_some old new t n (option_map owner_of v) (Some s) change, same);
}
