-- Which of the spans from one on stand in a stretch of time.
use Rattle.std.specs.{Int.{int_max, int_min}, Prelude.filter}
use Rattle.std.proofs.{Common.{◌≡◌, ℕ, zero, suc, ◌+◌, ◌<◌, ◌≤◌, ℤ, ◌≤ℤ◌, ◌<ℤ◌, int_lt, Bool, true, false, cond, List, [], ◌∷◌, length, map, drop, get_or, refl, sym, ap, ap₂, ◌∙◌, ◌-◌, arith, inl, inr, ◌⊎◌, length-drop}, lemmas.{Bool.{cases_eq, cases_lt}, Int.{clamps, ints}, List.{drop-drop, drop_more, drop_all, get_or-drop, get_or_default}}}
use Rattle.span_self_time.proofs.Counts.{covers-after, covers-before, covers-between}
use Rattle.span_report.specs.{Bytes, Span, covers, Stacks.{Pending.{IsBare, IsFirstBeyond, IsFirstPending, IsLater, NoneCovers, Rise}, Ticks.names_at}, declared.stacks.pending.{PendingFrame.PendingFrame, Stretch.Stretch}}

-- a span that doesn't cover u adds no name
names_at-over : (x : Span Bytes) (xs : List (Span Bytes)) (u : ℤ) → covers x u ≡ false → names_at (x ∷ xs) u ≡ names_at xs u
names_at-over x xs u over = ap (λ b. map (λ (s : Span Bytes). s.name) (cond b (x ∷ filter (λ s. covers s u) xs) (filter (λ s. covers s u) xs))) over

-- and one that does, its own
names_at-on : (x : Span Bytes) (xs : List (Span Bytes)) (u : ℤ) → covers x u ≡ true → names_at (x ∷ xs) u ≡ x.name ∷ names_at xs u
names_at-on x xs u on = ap (λ b. map (λ (s : Span Bytes). s.name) (cond b (x ∷ filter (λ s. covers s u) xs) (filter (λ s. covers s u) xs))) on

-- spans that don't cover u add none
names_at-skip : (n : ℕ) (xs : List (Span Bytes)) (u : ℤ) → ((k : ℕ) (d : Span Bytes) → k < n → covers (get_or xs k d) u ≡ false) → names_at xs u ≡ names_at (drop n xs) u
names_at-skip zero xs u over = refl
names_at-skip (suc n) [] u over = refl
names_at-skip (suc n) (x ∷ xs) u over = names_at-over x xs u (over 0 x (omega arith)) ∙ names_at-skip n xs u (λ k d before. over (suc k) d (omega (arith, before)))

names_at-none : (xs : List (Span Bytes)) (u : ℤ) → ((k : ℕ) (d : Span Bytes) → k < length xs → covers (get_or xs k d) u ≡ false) → names_at xs u ≡ []
names_at-none [] u over = refl
names_at-none (x ∷ xs) u over = names_at-over x xs u (over 0 x (omega arith)) ∙ names_at-none xs u (λ k d before. over (suc k) d (omega (arith, before)))

module _ (spans : List (Span Bytes)) where
  -- from the j-th on or from the k-th on is the same where none between covers u
  names_at-drop : (j n : ℕ) (u : ℤ) → ((i : ℕ) (d : Span Bytes) → j ≤ i → i < j + n → covers (get_or spans i d) u ≡ false) → names_at (drop j spans) u ≡ names_at (drop n (drop j spans)) u
  names_at-drop j n u over = names_at-skip n (drop j spans) u (λ k d before. ap (λ s. covers s u) (get_or-drop j spans k d) ∙ over (j + k) d (omega arith) (omega (arith, before)))

  names_at-end : (j : ℕ) (u : ℤ) → ((i : ℕ) (d : Span Bytes) → j ≤ i → i < length spans → covers (get_or spans i d) u ≡ false) → names_at (drop j spans) u ≡ []
  names_at-end j u over = names_at-none (drop j spans) u (λ k d before. ap (λ s. covers s u) (get_or-drop j spans k d) ∙ over (j + k) d (omega arith) (omega (arith, before, length-drop j spans)))

  module _ (rise : Rise spans) where
    -- a span that doesn't cover any tick from a time on leads to the next that may
    pub NoneCovers-later : (n at next : ℕ) (time : ℤ) (x : Span Bytes) → at < length spans → x ≡ get_or spans at x → x.until ≤ℤ int_max time x.start → IsLater spans at next → NoneCovers spans n at time → NoneCovers spans n next time
    NoneCovers-later n at next time x within is ends later over = λ i d u from before since. elim (cases_eq i at) [
      | inl same ↦ ap (λ m. covers (get_or spans m d) u) same ∙ ap (λ s. covers s u) (get_or_default spans at d x within ∙ sym is) ∙ own u since (int_lt u x.start) refl
      | inr apart ↦ others i d u from before since (elim (cases_lt i at) [ inl less ↦ inl less | inr more ↦ inr (omega (arith, more, apart)) ])
    ]
      where
        own : (u : ℤ) → time ≤ℤ u → (b : Bool) → int_lt u x.start ≡ b → covers x u ≡ false
        own u since true is = covers-before x u (grind (arith, ints))
        own u since false is = let start : x.start ≤ℤ u = grind (arith, ints) in covers-after x u (omega (arith, ints, clamps, ends, since, start))

        others : (i : ℕ) (d : Span Bytes) (u : ℤ) → n ≤ i → i < next → time ≤ℤ u → (i < at) ⊎ (at < i) → covers (get_or spans i d) u ≡ false
        others i d u from before since (inl earlier) = over i d u from earlier since
        others i d u from before since (inr behind) = late (int_lt u x.until) refl
          where
            late : (b : Bool) → int_lt u x.until ≡ b → covers (get_or spans i d) u ≡ false
            late false past = later.over x i d u (omega (arith, behind)) before (let ended : x.until ≤ℤ u = grind (arith, ints) in omega (arith, ints, ended, ap (λ (s : Span Bytes). s.until) (sym is)))
            late true before_end =
                let under : u <ℤ x.until = grind (arith, ints) in
                let first = ap (λ (s : Span Bytes). s.start) (get_or_default spans at d x within ∙ sym is) in
                let rises = rise at i d (omega (arith, behind)) (omega (arith, before, later.within)) in
                covers-before (get_or spans i d) u (omega (arith, ints, clamps, ends, since, under, first, rises))

    module _ (s : Stretch) (at : ℕ) (beyond : IsFirstBeyond spans s.next s.from at) where
      first-at : (n m : ℕ) → n ≤ m → n + (m - n) ≡ m
      first-at n m le = omega (arith, le)

      -- none of the spans before the first covers any of it
      names_at-first : (u : ℤ) → s.from ≤ℤ u → names_at (drop s.next spans) u ≡ names_at (drop at spans) u
      names_at-first u since =
          names_at-drop s.next (at - s.next) u (λ i d from before. beyond.over i d u from (omega (arith, before, first-at s.next at beyond.behind)) since)
          ∙ ap (λ l. names_at l u) (drop-drop (at - s.next) s.next spans ∙ ap (λ m. drop m spans) (first-at s.next at beyond.behind))

      -- with no span behind them there is no name
      pub IsBare-end : length spans ≤ at → IsBare spans s
      IsBare-end over u since before = names_at-first u since ∙ ap (λ l. names_at l u) (drop_all at spans over)

      module _ (x : Span Bytes) (within : at < length spans) (is : x ≡ get_or spans at x) where
        -- before the first starts there is none either
        names_at-before : (u : ℤ) → u <ℤ x.start → names_at (drop at spans) u ≡ []
        names_at-before u early = names_at-end at u (λ i d from before.
            let first = ap (λ (s : Span Bytes). s.start) (get_or_default spans at d x within ∙ sym is) in
            let rises = rise at i d from before in
            covers-before (get_or spans i d) u (omega (arith, ints, early, first, rises)))

        names_at-next : (u : ℤ) → names_at (drop at spans) u ≡ names_at (x ∷ drop (at + 1) spans) u
        names_at-next u = ap (λ l. names_at l u) (drop_more spans at x within ∙ ap (λ (s : Span Bytes). s ∷ drop (at + 1) spans) (sym is))

        pub IsBare-late : s.until ≤ℤ int_max x.start s.from → IsBare spans s
        IsBare-late late u since before = names_at-first u since ∙ names_at-before u (omega (arith, ints, clamps, late, since, before))

        pub IsFirstPending-first : (frame : PendingFrame) → frame.over.from ≡ int_max x.start s.from → frame.over.until ≡ int_min x.until s.until → frame.over.next ≡ at + 1 → frame.name.now ≡ x.name →
            int_max x.start s.from <ℤ s.until → IsFirstPending spans s frame
        IsFirstPending-first frame from until next name early =
            let lasts = beyond.lasts x within in
            let start = ap (λ (s : Span Bytes). s.start) (sym is) in
            let end = ap (λ (s : Span Bytes). s.until) (sym is) in
            record {
              from = omega (arith, ints, clamps, from);
              lasts = omega (arith, ints, clamps, from, until, early, lasts, start, end);
              until = omega (arith, ints, clamps, until);
              behind = omega (arith, next, beyond.behind);
              within = omega (arith, next, within);
              before = λ u since sooner. names_at-first u since ∙ names_at-before u (omega (arith, ints, clamps, from, since, sooner));
              through = λ u since sooner.
                  names_at-first u (omega (arith, ints, clamps, from, since)) ∙ names_at-next u
                  ∙ names_at-on x (drop (at + 1) spans) u (covers-between x u (omega (arith, ints, clamps, from, since)) (omega (arith, ints, clamps, until, sooner)))
                  ∙ ap₂ (λ n m. n ∷ names_at (drop m spans) u) (sym name) (sym next);
              rest = λ u since sooner.
                  names_at-first u (omega (arith, ints, clamps, from, until, since, early, lasts, start, end)) ∙ names_at-next u
                  ∙ names_at-over x (drop (at + 1) spans) u (covers-after x u (omega (arith, ints, clamps, until, since, sooner)))
                  ∙ ap (λ m. names_at (drop m spans) u) (sym next);
            }
