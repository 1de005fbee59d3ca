-- The order of pending frames: the nearest is the last, and its stack is the least that comes after the one visited before.
use Rattle.std.specs.{Cmp.IsTotalOrder, List.{AllByRecursion, Sorted.IsSorted}, Option.option_or, Ordering.{is_lt, nat_cmp, ordering_then}, declared.cmp.Ordering.{Ordering, TheVariants.{Less, Equal, Greater}}}
use Rattle.std.proofs.{Common.{◌≡◌, ℕ, zero, suc, ◌+◌, ◌<◌, ◌≤◌, false, List, [], ◌∷◌, ◌++◌, length, take, get_or, Option, Some, refl, sym, ap, ap₂, subst, ◌∙◌, arith, inl, inr, ◌⊎◌, true≢false}, lemmas.{Bool.Decides.nat_tests, Cmp.{back_total, nat_cmp_total, nat_list_cmp_total, on_total, then_total, tied_itself}, List.{length_push, length-take-le, take_all, take-append-le, Sums.sum_by-cons}}}
use Rattle.span_event.proofs.Orders.{text_same}
use Rattle.span_report.specs.{Bytes, text_cmp, last_of, Span, Stacks.{Pending.{IsAhead, Near, left, nearness, pending_stack, times_on}, Ticks.{Stack, stack_order}}, declared.stacks.pending.PendingFrame.PendingFrame}
use Rattle.span_report.proofs.StackLemmas.StackOrders.{below-pushed, none-below-empty, stack_order-pushed, turned-greater, turned-less}

pub nearness-total : IsTotalOrder nearness
nearness-total = then_total (on_total (λ (p : PendingFrame). p.below) nat_cmp_total) (on_total (λ (p : PendingFrame). p.name.now) (back_total nat_list_cmp_total))

-- what holds of all of a list holds of all that it begins with
pub AllByRecursion-front : {A : Type 0} (P : A → Type 0) (xs ys : List A) → AllByRecursion P (xs ++ ys) → AllByRecursion P xs
AllByRecursion-front P [] ys all = tt
AllByRecursion-front P (x ∷ xs) ys all = (all.0, AllByRecursion-front P xs ys all.1)

pub AllByRecursion-last : {A : Type 0} (P : A → Type 0) (xs : List A) (x : A) → AllByRecursion P (xs ++ x ∷ []) → P x
AllByRecursion-last P [] x all = all.0
AllByRecursion-last P (y ∷ xs) x all = AllByRecursion-last P xs x all.1

pub Near-front : (xs ys : List PendingFrame) → Near (xs ++ ys) → Near xs
Near-front [] ys near = tt
Near-front (x ∷ xs) ys near = (AllByRecursion-front (λ q. nearness x q ≡ Greater → ⊥) xs ys near.0, Near-front xs ys near.1)

-- the last is no farther than any
pub Near-last : (xs : List PendingFrame) (p : PendingFrame) → Near (xs ++ p ∷ []) → AllByRecursion (λ q. nearness q p ≡ Greater → ⊥) (xs ++ p ∷ [])
Near-last [] p near = (λ over. let both : Equal ≡ Greater = sym (tied_itself nearness-total p) ∙ over in absurd cc, tt)
Near-last (x ∷ xs) p near = (AllByRecursion-last (λ q. nearness x q ≡ Greater → ⊥) xs p near.0, Near-last xs p near.1)

not_over : (a b c : PendingFrame) → (nearness a b ≡ Greater → ⊥) → nearness b c ≡ Less → nearness a c ≡ Less
not_over a b c under less = by (nearness a b) refl
  where
    by : (r : Ordering) → nearness a b ≡ r → nearness a c ≡ Less
    by Less tie = nearness-total.trans a b c tie less
    by Equal tie = nearness-total.congr a b c tie ∙ less
    by Greater tie = absurd (under tie)

-- where the last of these frames doesn't tie with another one and all are no nearer, they are farther
pub farther : (xs : List PendingFrame) (g : PendingFrame) → Near xs → AllByRecursion (λ q. nearness q g ≡ Greater → ⊥) xs → ((p : PendingFrame) → last_of xs ≡ Some p → nearness p g ≡ Equal → ⊥) → AllByRecursion (λ q. nearness q g ≡ Less) xs
farther [] g near all done = tt
farther (x ∷ []) g near all done = (by (nearness x g) refl, tt)
  where
    by : (r : Ordering) → nearness x g ≡ r → nearness x g ≡ Less
    by Less tie = tie
    by Equal tie = absurd (done x refl tie)
    by Greater tie = absurd (all.0 tie)
farther (x ∷ y ∷ ys) g near all done =
    let rest = farther (y ∷ ys) g near.1 all.1 (λ p is. done p (later p (last_of (y ∷ ys)) is)) in
    (not_over x y g near.0.0 rest.0, rest)
  where
    later : (p : PendingFrame) (o : Option PendingFrame) → o ≡ Some p → option_or o (Some x) ≡ Some p
    later p o is = ap (λ q. option_or q (Some x)) is

-- farther frames before nearer ones
pub Near-append : (xs ys : List PendingFrame) → Near xs → Near ys → AllByRecursion (λ x. AllByRecursion (λ y. nearness x y ≡ Greater → ⊥) ys) xs → Near (xs ++ ys)
Near-append [] ys first second apart = second
Near-append (x ∷ xs) ys first second apart = (both xs first.0 apart.0, Near-append xs ys first.1 second apart.1)
  where
    both : (zs : List PendingFrame) → AllByRecursion (λ q. nearness x q ≡ Greater → ⊥) zs → AllByRecursion (λ y. nearness x y ≡ Greater → ⊥) ys → AllByRecursion (λ q. nearness x q ≡ Greater → ⊥) (zs ++ ys)
    both [] all more = more
    both (z ∷ zs) all more = (all.0, both zs all.1 more)

not-greater : (a b : PendingFrame) → is_lt (nearness b a) ≡ false → nearness a b ≡ Greater → ⊥
not-greater a b is over = true≢false (sym (ap is_lt (turned-greater nearness-total a b over)) ∙ is)

-- what was sorted by nearness
pub Near-sorted : (xs : List PendingFrame) → IsSorted nearness xs → Near xs
Near-sorted [] sorted = tt
Near-sorted (x ∷ []) sorted = (tt, tt)
Near-sorted (x ∷ y ∷ ys) sorted =
    let rest = Near-sorted (y ∷ ys) (λ k d from before.
    let up : suc k + 1 ≡ suc (k + 1) = omega arith in
    subst (λ m. is_lt (nearness (get_or (x ∷ y ∷ ys) m d) (get_or (y ∷ ys) k d)) ≡ false) up (sorted (suc k) d (omega arith) (omega (arith, before)))) in
    let first : nearness x y ≡ Greater → ⊥ = not-greater x y (sorted 0 x (omega arith) (omega arith)) in
    ((first, each ys rest.0 first), rest)
  where
    each : (zs : List PendingFrame) → AllByRecursion (λ q. nearness y q ≡ Greater → ⊥) zs → (nearness x y ≡ Greater → ⊥) → AllByRecursion (λ q. nearness x q ≡ Greater → ⊥) zs
    each [] all first = tt
    each (z ∷ zs) all first = (λ over. through z (nearness x y) refl over (all.0) first, each zs all.1 first)
      where
        through : (z : PendingFrame) (r : Ordering) → nearness x y ≡ r → nearness x z ≡ Greater → (nearness y z ≡ Greater → ⊥) → (nearness x y ≡ Greater → ⊥) → ⊥
        through z Less tie over under first = under (turned-less nearness-total z y (nearness-total.trans z x y (turned-greater nearness-total x z over) tie))
        through z Equal tie over under first = under (sym (nearness-total.congr x y z tie) ∙ over)
        through z Greater tie over under first = first tie

-- frames on more frames are nearer
pub deeper-near : (x y : PendingFrame) → x.below < y.below → nearness x y ≡ Less
deeper-near x y less = ap (λ r. ordering_then r (text_cmp y.name.now x.name.now)) (under x.below y.below less)
  where
    under : (a b : ℕ) → a < b → nat_cmp a b ≡ Less
    under a b less = grind (arith, nat_tests)

-- a frame that is farther stands on fewer frames, or on as many and has a greater name
less-cases : (p q : PendingFrame) → nearness p q ≡ Less → (p.below < q.below) ⊎ ((p.below ≡ q.below) × (text_cmp q.name.now p.name.now ≡ Less))
less-cases p q less = by (nat_cmp p.below q.below) refl less
  where
    fewer : (a b : ℕ) → nat_cmp a b ≡ Less → a < b
    fewer a b is = grind (arith, nat_tests)

    even : (a b : ℕ) → nat_cmp a b ≡ Equal → a ≡ b
    even a b is = grind (arith, nat_tests)

    by : (r : Ordering) → nat_cmp p.below q.below ≡ r → ordering_then r (text_cmp q.name.now p.name.now) ≡ Less → (p.below < q.below) ⊎ ((p.below ≡ q.below) × (text_cmp q.name.now p.name.now ≡ Less))
    by Less tie is = inl (fewer p.below q.below tie)
    by Equal tie is = inr (even p.below q.below tie, is)
    by Greater tie is = absurd cc

pub no_deeper : (p q : PendingFrame) → nearness p q ≡ Less → p.below ≤ q.below
no_deeper p q less = by (less-cases p q less)
  where
    by : (p.below < q.below) ⊎ ((p.below ≡ q.below) × (text_cmp q.name.now p.name.now ≡ Less)) → p.below ≤ q.below
    by (inl fewer) = omega (arith, fewer)
    by (inr (same, above)) = omega (arith, same)

pub tied-pending : (p q : PendingFrame) → nearness p q ≡ Equal → (p.below ≡ q.below) × (p.name.now ≡ q.name.now)
tied-pending p q tie = by (nat_cmp p.below q.below) refl tie
  where
    even : (a b : ℕ) → nat_cmp a b ≡ Equal → a ≡ b
    even a b is = grind (arith, nat_tests)

    by : (r : Ordering) → nat_cmp p.below q.below ≡ r → ordering_then r (text_cmp q.name.now p.name.now) ≡ Equal → (p.below ≡ q.below) × (p.name.now ≡ q.name.now)
    by Equal same is = (even p.below q.below same, sym (text_same q.name.now p.name.now is))
    by Less same is = absurd cc
    by Greater same is = absurd cc

-- what is above a list above the first frames of it is above what goes on from there
order-deeper : (last : Stack) (b k : ℕ) (x y : Bytes) → b < k → k ≤ length last → stack_order last (take b last ++ y ∷ []) ≡ Less → stack_order (take k last ++ x ∷ []) (take b last ++ y ∷ []) ≡ Less
order-deeper last b zero x y less within above = absurd (omega (arith, less))
order-deeper [] b (suc k) x y less within above = absurd (omega (arith, within))
order-deeper (z ∷ zs) zero (suc k) x y less within above = by (text_cmp z y) above
  where
    by : (r : Ordering) → ordering_then r (stack_order zs []) ≡ Less → ordering_then r (stack_order (take k zs ++ x ∷ []) []) ≡ Less
    by Less is = refl
    by Equal is = absurd (none-below-empty zs is)
    by Greater is = absurd cc
order-deeper (z ∷ zs) (suc b) (suc k) x y less within above =
    let same = tied_itself nat_list_cmp_total z in
    let rest : stack_order zs (take b zs ++ y ∷ []) ≡ Less = sym (ap (λ r. ordering_then r (stack_order zs (take b zs ++ y ∷ []))) same) ∙ above in
    ap₂ ordering_then same (order-deeper zs b k x y (omega (arith, less)) (omega (arith, within)) rest)

module _ (last : Stack) (g : PendingFrame) (ahead : IsAhead last g) where
  -- the frames that are farther keep their stacks once the nearest is visited
  pub pending_stack-next : (p : PendingFrame) → nearness p g ≡ Less → pending_stack (pending_stack last g) p ≡ pending_stack last p
  pending_stack-next p less =
      let fewer = no_deeper p g less in
      ap (λ (s : Stack). s ++ p.name.now ∷ []) (take-append-le p.below (take g.below last) (g.name.now ∷ []) (omega (arith, fewer, length-take-le g.below last ahead.0)) ∙ take-shorter p.below g.below last fewer)
    where
      take-shorter : (a b : ℕ) (l : Stack) → a ≤ b → take a (take b l) ≡ take a l
      take-shorter zero b l le = refl
      take-shorter (suc a) zero l le = absurd (omega (arith, le))
      take-shorter (suc a) (suc b) [] le = refl
      take-shorter (suc a) (suc b) (x ∷ l) le = ap (λ m. x ∷ m) (take-shorter a b l (omega (arith, le)))

  -- and are still ahead
  pub IsAhead-next : (p : PendingFrame) → nearness p g ≡ Less → IsAhead last p → IsAhead (pending_stack last g) p
  IsAhead-next p less is = by (less-cases p g less)
    where
      many : length (pending_stack last g) ≡ g.below + 1
      many = length_push (take g.below last) g.name.now ∙ ap (λ n. n + 1) (length-take-le g.below last ahead.0)

      by : (p.below < g.below) ⊎ ((p.below ≡ g.below) × (text_cmp g.name.now p.name.now ≡ Less)) → IsAhead (pending_stack last g) p
      by (inl fewer) = (omega (arith, many, fewer), ap (stack_order (pending_stack last g)) (pending_stack-next p less) ∙ order-deeper last p.below g.below g.name.now p.name.now fewer ahead.0 is.1)
      by (inr (same, above)) = (
        omega (arith, many, same),
        ap (stack_order (pending_stack last g)) (pending_stack-next p less ∙ ap (λ n. take n last ++ p.name.now ∷ []) same) ∙ stack_order-pushed (take g.below last) g.name.now p.name.now ∙ above,
      )

  pub ahead-next : (xs : List PendingFrame) → AllByRecursion (λ q. nearness q g ≡ Less) xs → AllByRecursion (IsAhead last) xs → AllByRecursion (IsAhead (pending_stack last g)) xs
  ahead-next [] less are = tt
  ahead-next (x ∷ xs) less are = (IsAhead-next x less.0 are.0, ahead-next xs less.1 are.1)

  pub left-next : (spans : List (Span Bytes)) (xs : List PendingFrame) (stack : Stack) → AllByRecursion (λ q. nearness q g ≡ Less) xs → left spans (pending_stack last g) xs stack ≡ left spans last xs stack
  left-next spans [] stack less = refl
  left-next spans (x ∷ xs) stack less =
      sum_by-cons (λ (p : PendingFrame). times_on spans (pending_stack (pending_stack last g) p) p.over stack) x xs
      ∙ ap₂ (λ a b. a + b) (ap (λ (s : Stack). times_on spans s x.over stack) (pending_stack-next x less.0)) (left-next spans xs stack less.1)
      ∙ sym (sum_by-cons (λ (p : PendingFrame). times_on spans (pending_stack last p) p.over stack) x xs)

-- a frame that stands on the whole stack is ahead
pub IsAhead-on : (last : Stack) (p : PendingFrame) → p.below ≡ length last → IsAhead last p
IsAhead-on last p deep = (omega (arith, deep), ap (λ (s : Stack). stack_order last (s ++ p.name.now ∷ [])) (take_all p.below last (omega (arith, deep))) ∙ below-pushed last p.name.now)
