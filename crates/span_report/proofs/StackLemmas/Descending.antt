-- That a descent stays ready, and what is left of each stack, from its start on and as frames are visited.
use Rattle.std.specs.{List.{AllByRecursion, count_by, Sorted.{IsPermutation, IsSorted}}, declared.cmp.Ordering.TheVariants.{Less, Greater}}
use Rattle.std.proofs.{Common.{◌≡◌, ℕ, ◌+◌, ◌<◌, ◌^◌, ◌≤ℤ◌, ◌&&◌, cond, List, [], ◌∷◌, ◌++◌, length, map, take, drop, refl, sym, ap, ap₂, subst, ◌∙◌, arith, append_assoc}, lemmas.List.{length_push, length-take-le, Elements.{All-from_recursion, recursion_from_All}, Sorted.{All-permutation, sum_by-IsPermutation}, Sums.{sum_by-append, sum_by_push}}}
use Rattle.span_self_time.proofs.Counts.{count_from-le, count_from-same}
use Rattle.span_journal.proofs.Sorted.{AllByRecursion-append, AllByRecursion-map}
use Rattle.span_report.specs.{Bytes, distance, AreSpans, Span, earliest, latest, Stacks.{Descent.{IsNextSplit, IsReady, StartsWith, VisitsFrame, last_visited, left_of}, Pending.{IsAhead, IsSound, IsSplit, Near, left, nearness, pending_stack, times_on}, Ticks.{Stack, has_frames, names_at, ranked, same_stack, stack_at, stacks_of}}, declared.stacks.{descent.Descent.Descent, pending.{PendingFrame.PendingFrame, Stretch.Stretch}}}
use Rattle.span_report.proofs.StackLemmas.{Nearing.{AllByRecursion-front, AllByRecursion-last, IsAhead-on, Near-append, Near-front, Near-last, Near-sorted, ahead-next, deeper-near, farther, left-next, no_deeper}, Splitting.times_on-own, Times.count_from-around}

AllByRecursion-permutation : (P : PendingFrame → Type 0) (xs ys : List PendingFrame) → IsPermutation xs ys → AllByRecursion P xs → AllByRecursion P ys
AllByRecursion-permutation P xs ys moved all = recursion_from_All P ys (All-permutation P xs ys moved (All-from_recursion P xs all))

left-permutation : (spans : List (Span Bytes)) (last : Stack) (xs ys : List PendingFrame) (stack : Stack) → IsPermutation xs ys → left spans last ys stack ≡ left spans last xs stack
left-permutation spans last xs ys stack moved = sum_by-IsPermutation (λ (p : PendingFrame). times_on spans (pending_stack last p) p.over stack) xs ys moved

-- a stack with frames is no empty one
same-framed : (frame : Bytes) (frames stack : Stack) → (has_frames stack && same_stack (frame ∷ frames) stack) ≡ same_stack (frame ∷ frames) stack
same-framed frame frames [] = refl
same-framed frame frames (x ∷ xs) = refl

-- a descent that begins with the frames of a whole stretch
module _ (d : Descent) (s : Stretch) (time : ℕ) (found : List PendingFrame) (split : IsSplit d.spans 0 s time [] found) (moved : IsPermutation found d.pending.items) (empty : d.stack.items ≡ []) where
  last-empty : last_visited d ≡ []
  last-empty = ap (λ names. map (λ name. name.now) names) empty

  left-found : (stack : Stack) → left_of d stack + cond (same_stack stack []) time 0 ≡ times_on d.spans [] s stack
  left-found stack =
      let here = ap (λ (last : Stack). left d.spans last d.pending.items stack) last-empty ∙ left-permutation d.spans [] found d.pending.items stack moved in
      omega (arith, here, split.counts [] refl stack)

  each-found : AllByRecursion (λ p. (p.below ≡ 0) × IsSound d.spans p.over) d.pending.items
  each-found = AllByRecursion-permutation (λ p. (p.below ≡ 0) × IsSound d.spans p.over) found d.pending.items moved (split.sound tt)

  pub IsReady-new : IsSorted nearness d.pending.items → d.found.items ≡ [] → distance s.from s.until < 2 ^ 64 → IsReady d
  IsReady-new sorted none small = record {
    near = Near-sorted d.pending.items sorted;
    ahead = subst (λ (last : Stack). AllByRecursion (IsAhead last) d.pending.items) (sym last-empty)
        (AllByRecursion-map (λ p. (p.below ≡ 0) × IsSound d.spans p.over) (IsAhead []) (λ p (is : (p.below ≡ 0) × IsSound d.spans p.over). IsAhead-on [] p is.0) d.pending.items each-found);
    sound = AllByRecursion-map (λ p. (p.below ≡ 0) × IsSound d.spans p.over) (λ p. IsSound d.spans p.over) (λ p (is : (p.below ≡ 0) × IsSound d.spans p.over). is.1) d.pending.items each-found;
    small = λ stack. omega (arith, left-found stack, small, count_from-le (λ u. same_stack stack ([] ++ names_at (drop s.next d.spans) u)) s.from (distance s.from s.until));
    none = none;
  }

  pub StartsWith-new : (spans : List (Span Bytes)) → AreSpans spans → d.spans ≡ ranked spans → s.from ≤ℤ earliest spans → latest spans ≤ℤ s.until → s.next ≡ 0 → StartsWith spans d
  StartsWith-new spans are is from until next = record { last = last-empty; left = all }
    where
      all : (name : Bytes) (names : Stack) → left_of d (name ∷ names) ≡ count_by (same_stack (name ∷ names)) (stacks_of spans)
      all name names =
          let whole = ap₂ (λ (l : List (Span Bytes)) (n : ℕ). times_on l [] (record { from = s.from; until = s.until; next = n }) (name ∷ names)) is next in
          let framed = count_from-same (λ u. has_frames (stack_at spans u) && same_stack (name ∷ names) (stack_at spans u)) (λ u. same_stack (name ∷ names) (stack_at spans u)) s.from (distance s.from s.until) (λ u since before. same-framed name names (stack_at spans u)) in
          omega (arith, left-found (name ∷ names)) ∙ whole ∙ sym framed ∙ count_from-around (same_stack (name ∷ names)) spans are s.from s.until from until

-- the next frame is visited: the pending ones of its stack are split, and those that are found come next
module _ (old mid new : Descent) (first : PendingFrame) (others near : List PendingFrame) (time : ℕ) (ready : IsReady old) (whole : old.pending.items ≡ others ++ first ∷ []) (split : IsNextSplit first time old mid)
    (moved : IsPermutation mid.found.items near) (sorted : IsSorted nearness near) (spans : new.spans ≡ mid.spans) (pending : new.pending.items ≡ mid.pending.items ++ near) (visited : last_visited new ≡ pending_stack (last_visited old) first) where
  abbrev last : Stack
  last = last_visited old

  abbrev base : Stack
  base = pending_stack (last_visited old) first

  abbrev IsOn : PendingFrame → Type 0
  IsOn p = (p.below ≡ first.below + 1) × IsSound old.spans p.over

  ahead-first : IsAhead last first
  ahead-first = AllByRecursion-last (IsAhead last) others first (subst (AllByRecursion (IsAhead last)) whole ready.ahead)

  sound-first : IsSound old.spans first.over
  sound-first = AllByRecursion-last (λ p. IsSound old.spans p.over) others first (subst (AllByRecursion (λ p. IsSound old.spans p.over)) whole ready.sound)

  -- the frames that stay are all farther
  far : AllByRecursion (λ q. nearness q first ≡ Less) mid.pending.items
  far =
      let behind = λ (q : PendingFrame). nearness q first ≡ Greater → ⊥ in
      let all = subst (AllByRecursion behind) (sym whole) (Near-last others first (subst Near whole ready.near)) in
      farther mid.pending.items first (Near-front mid.pending.items split.popped.0 (subst Near split.popped.1 ready.near))
      (AllByRecursion-front behind mid.pending.items split.popped.0 (subst (AllByRecursion behind) split.popped.1 all)) split.done

  on-base : AllByRecursion IsOn near
  on-base = AllByRecursion-permutation IsOn mid.found.items near moved split.found

  deep : length base ≡ first.below + 1
  deep = length_push (take first.below last) first.name.now ∙ ap (λ n. n + 1) (length-take-le first.below last ahead-first.0)

  left-new : (stack : Stack) → left_of new stack ≡ left old.spans last mid.pending.items stack + left old.spans base mid.found.items stack
  left-new stack =
      ap (λ (l : List (Span Bytes)). left l (last_visited new) new.pending.items stack) (spans ∙ split.spans)
      ∙ ap₂ (λ (l : Stack) (ps : List PendingFrame). left old.spans l ps stack) visited pending
      ∙ sum_by-append (λ (p : PendingFrame). times_on old.spans (pending_stack base p) p.over stack) mid.pending.items near
      ∙ ap₂ (λ a b. a + b) (left-next last first ahead-first old.spans mid.pending.items stack far) (left-permutation old.spans base mid.found.items near stack moved)

  pub VisitsFrame-next : VisitsFrame old new (record { below = first.below; name = first.name.now; time = time })
  VisitsFrame-next = record {
    within = ahead-first.0;
    above = ahead-first.1;
    last = visited;
    left = λ stack. omega (arith, left-new stack, split.counts stack);
    begun = (rest, subst (λ (s : Stack). 0 < left_of old s) (append_assoc (take first.below last) (first.name.now ∷ []) rest) some);
  }
    where
      rest : Stack
      rest = names_at (drop first.over.next old.spans) first.over.from

      some : 0 < left_of old (base ++ rest)
      some =
          let parted = ap (λ (ps : List PendingFrame). left old.spans last ps (base ++ rest)) whole ∙ sum_by_push (λ (p : PendingFrame). times_on old.spans (pending_stack last p) p.over (base ++ rest)) others first in
          omega (arith, parted, times_on-own old.spans base first.over sound-first.lasts)

  pub IsReady-next : new.found.items ≡ [] → IsReady new
  IsReady-next none = record {
    near = subst Near (sym pending) (Near-append mid.pending.items near (Near-front mid.pending.items split.popped.0 (subst Near split.popped.1 ready.near)) (Near-sorted near sorted) (each mid.pending.items far));
    ahead = subst (λ (l : Stack). AllByRecursion (IsAhead l) new.pending.items) (sym visited) (subst (AllByRecursion (IsAhead base)) (sym pending)
        (AllByRecursion-append (IsAhead base) mid.pending.items near
        (ahead-next last first ahead-first mid.pending.items far (AllByRecursion-front (IsAhead last) mid.pending.items split.popped.0 (subst (AllByRecursion (IsAhead last)) split.popped.1 ready.ahead)))
        (AllByRecursion-map IsOn (IsAhead base) (λ p (is : IsOn p). IsAhead-on base p (is.0 ∙ sym deep)) near on-base)));
    sound = subst (λ (l : List (Span Bytes)). AllByRecursion (λ p. IsSound l p.over) new.pending.items) (sym (spans ∙ split.spans)) (subst (AllByRecursion sound) (sym pending)
        (AllByRecursion-append sound mid.pending.items near (AllByRecursion-front sound mid.pending.items split.popped.0 (subst (AllByRecursion sound) split.popped.1 ready.sound))
        (AllByRecursion-map IsOn sound (λ p (is : IsOn p). is.1) near on-base)));
    small = λ stack. omega (arith, left-new stack, split.counts stack, ready.small stack);
    none = none;
  }
    where
      sound : PendingFrame → Type 0
      sound p = IsSound old.spans p.over

      nearer : (x : PendingFrame) → nearness x first ≡ Less → (ys : List PendingFrame) → AllByRecursion IsOn ys → AllByRecursion (λ y. nearness x y ≡ Greater → ⊥) ys
      nearer x less [] on = tt
      nearer x less (y ∷ ys) on = (
        λ over.
            let under = deeper-near x y (omega (arith, no_deeper x first less, on.0.0)) in
            let both : Less ≡ Greater = sym under ∙ over in
            absurd cc,
        nearer x less ys on.1,
      )

      each : (xs : List PendingFrame) → AllByRecursion (λ q. nearness q first ≡ Less) xs → AllByRecursion (λ x. AllByRecursion (λ y. nearness x y ≡ Greater → ⊥) near) xs
      each [] less = tt
      each (x ∷ xs) less = (nearer x less.0 near on-base, each xs less.1)
