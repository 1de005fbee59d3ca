-- Which frames were visited of those of spans, and that in the end they are all of them, with the folded stacks.
use Rattle.std.specs.{List.{AllByRecursion, count_by, list_any, sum_by, Sorted.IsStrictlySortedBy}, Ordering.is_eq, Prelude.{fold, nat_lt}, declared.cmp.Ordering.TheVariants.Less}
use Rattle.std.proofs.{Common.{◌≡◌, ℕ, zero, suc, ◌+◌, ◌<◌, ◌≤◌, Bool, true, false, ◌||◌, cond, List, [], ◌∷◌, ◌++◌, length, map, take, refl, sym, ap, ap₂, subst, ◌∙◌, arith, append_assoc, append-nil, inl, inr, true≢false}, lemmas.{Bool.Decides.nat_tests, List.{map-append, Sums.{sum_by-append, sum_by-cons}}}}
use Rattle.span_journal.proofs.Sorted.{AllByRecursion-map}
use Rattle.span_report.specs.{Bytes, Stacks.{Bounds.beginnings, Framed.{AreAscending, Framed, folded_after, folded_if, last_stack, stack_after}, Ticks.{Folded, Stack, folded, same_stack, stack_order}}}
use Rattle.span_report.proofs.StackLemmas.{Beginnings.has-under, Members.{Has, HasEach, HasEach-append, HasEach-cons, HasEach-none, has-first, has-later, has-left, has-none, has-right, or-either, or-left, or-right, same-itself, same-true}, StackOrders.turned-less, Tallies.none-below, Times.{count_by-cons, stack_order-same, stack_order-total}}

-- the stacks of frames after another stack
abbrev pub visited_stacks : Stack → List Framed → List Stack
visited_stacks before [] = []
visited_stacks before (f ∷ fs) = stack_after before f ∷ visited_stacks (stack_after before f) fs

-- the times of those of the rows that have the stack
abbrev pub tally : List Folded → Stack → ℕ
tally rows stack = sum_by (λ row. cond (same_stack stack row.stack) row.time 0) rows

-- how many ticks of the stack were visited
abbrev pub visited_ticks : List Framed → Stack → ℕ
visited_ticks frames stack = tally (folded_after [] frames) stack

-- the stacks of one more frame
pub folded_after-push : (before : Stack) (frames : List Framed) (f : Framed) → folded_after before (frames ++ f ∷ []) ≡ folded_after before frames ++ folded_if (stack_after (fold stack_after before frames) f) f.time
folded_after-push before [] f = append-nil (folded_if (stack_after before f) f.time)
folded_after-push before (g ∷ gs) f =
    ap (λ (fs : List Folded). folded_if (stack_after before g) g.time ++ fs) (folded_after-push (stack_after before g) gs f)
    ∙ sym (append_assoc (folded_if (stack_after before g) g.time) (folded_after (stack_after before g) gs) (folded_if (stack_after (fold stack_after (stack_after before g) gs) f) f.time))

pub AreAscending-push : (before : Stack) (frames : List Framed) (f : Framed) → AreAscending before frames → f.below ≤ length (fold stack_after before frames) →
    stack_order (fold stack_after before frames) (stack_after (fold stack_after before frames) f) ≡ Less → AreAscending before (frames ++ f ∷ [])
AreAscending-push before [] f are within up = (within, up, tt)
AreAscending-push before (g ∷ gs) f are within up = (are.0, are.1, AreAscending-push (stack_after before g) gs f are.2 within up)

pub visited_stacks-push : (before : Stack) (frames : List Framed) (f : Framed) → visited_stacks before (frames ++ f ∷ []) ≡ visited_stacks before frames ++ stack_after (fold stack_after before frames) f ∷ []
visited_stacks-push before [] f = refl
visited_stacks-push before (g ∷ gs) f = ap (λ (l : List Stack). stack_after before g ∷ l) (visited_stacks-push (stack_after before g) gs f)

pub length-visited_stacks : (before : Stack) (frames : List Framed) → length (visited_stacks before frames) ≡ length frames
length-visited_stacks before [] = refl
length-visited_stacks before (f ∷ fs) = ap suc (length-visited_stacks (stack_after before f) fs)

-- the stacks of frames that ascend are all above the one before them
stacks-above : (before : Stack) (frames : List Framed) → AreAscending before frames → AllByRecursion (λ s. stack_order before s ≡ Less) (map (λ f. f.stack) (folded_after before frames))
stacks-above before [] are = tt
stacks-above before (f ∷ fs) are =
    by f.time (AllByRecursion-map (λ s. stack_order (stack_after before f) s ≡ Less) (λ s. stack_order before s ≡ Less) (λ s (above : stack_order (stack_after before f) s ≡ Less). stack_order-total.trans before (stack_after before f) s are.1 above)
    (map (λ (g : Folded). g.stack) (folded_after (stack_after before f) fs)) (stacks-above (stack_after before f) fs are.2))
  where
    by : (t : ℕ) → AllByRecursion (λ s. stack_order before s ≡ Less) (map (λ (g : Folded). g.stack) (folded_after (stack_after before f) fs)) →
        AllByRecursion (λ s. stack_order before s ≡ Less) (map (λ (g : Folded). g.stack) (folded_if (stack_after before f) t ++ folded_after (stack_after before f) fs))
    by zero rest = rest
    by (suc t) rest = (are.1, rest)

pub stacks-sorted : (before : Stack) (frames : List Framed) → AreAscending before frames → IsStrictlySortedBy stack_order (map (λ f. f.stack) (folded_after before frames))
unfolding IsStrictlySortedBy
stacks-sorted before [] are = tt
stacks-sorted before (f ∷ fs) are = by f.time (stacks-sorted (stack_after before f) fs are.2)
  where
    by : (t : ℕ) → IsStrictlySortedBy stack_order (map (λ (g : Folded). g.stack) (folded_after (stack_after before f) fs)) →
        IsStrictlySortedBy stack_order (map (λ (g : Folded). g.stack) (folded_if (stack_after before f) t ++ folded_after (stack_after before f) fs))
    by zero rest = rest
    by (suc t) rest = (stacks-above (stack_after before f) fs are.2, rest)

visited-above : (before : Stack) (frames : List Framed) → AreAscending before frames → AllByRecursion (λ s. stack_order before s ≡ Less) (visited_stacks before frames)
visited-above before [] are = tt
visited-above before (f ∷ fs) are = (
  are.1,
  AllByRecursion-map (λ s. stack_order (stack_after before f) s ≡ Less) (λ s. stack_order before s ≡ Less) (λ s (above : stack_order (stack_after before f) s ≡ Less). stack_order-total.trans before (stack_after before f) s are.1 above)
      (visited_stacks (stack_after before f) fs) (visited-above (stack_after before f) fs are.2),
)

pub visited-sorted : (before : Stack) (frames : List Framed) → AreAscending before frames → IsStrictlySortedBy stack_order (visited_stacks before frames)
unfolding IsStrictlySortedBy
visited-sorted before [] are = tt
visited-sorted before (f ∷ fs) are = (visited-above (stack_after before f) fs are.2, visited-sorted (stack_after before f) fs are.2)

-- the rows are of stacks that were visited
pub has-visited : (before : Stack) (frames : List Framed) → HasEach (visited_stacks before frames) (map (λ f. f.stack) (folded_after before frames))
has-visited before [] = λ k has. has
has-visited before (f ∷ fs) = by f.time (has-visited (stack_after before f) fs)
  where
    here : Stack
    here = stack_after before f

    by : (t : ℕ) → HasEach (visited_stacks here fs) (map (λ f. f.stack) (folded_after here fs)) → HasEach (here ∷ visited_stacks here fs) (map (λ f. f.stack) (folded_if here t ++ folded_after here fs))
    by zero rest = λ k has. or-right (same_stack k here) (list_any (same_stack k) (visited_stacks here fs)) (rest k has)
    by (suc t) rest = λ k has. elim (or-either (same_stack k here) (list_any (same_stack k) (map (λ (f : Folded). f.stack) (folded_after here fs))) has) [
      | inl own ↦ or-left (same_stack k here) (list_any (same_stack k) (visited_stacks here fs)) own
      | inr later ↦ or-right (same_stack k here) (list_any (same_stack k) (visited_stacks here fs)) (rest k later)
    ]

beginnings-push : (stack : Stack) (name : Bytes) → beginnings (stack ++ name ∷ []) ≡ beginnings stack ++ (stack ++ name ∷ []) ∷ []
beginnings-push [] name = refl
beginnings-push (x ∷ stack) name =
    ap (λ bs. (x ∷ []) ∷ map (λ b. x ∷ b) bs) (beginnings-push stack name) ∙ ap (λ bs. (x ∷ []) ∷ bs) (map-append (λ b. x ∷ b) (beginnings stack) ((stack ++ name ∷ []) ∷ []))

under-has : (name : Bytes) (k : Stack) (xs : List Stack) → Has (map (λ b. name ∷ b) xs) k → (j : Stack) × (k ≡ name ∷ j) × Has xs j
under-has name k [] has = absurd (has-none k has)
under-has name k (y ∷ ys) has = elim (or-either (same_stack k (name ∷ y)) (list_any (same_stack k) (map (λ b. name ∷ b) ys)) has) [
  | inl same ↦ (y, same-true k (name ∷ y) same, has-first y ys)
  | inr later ↦ let rest = under-has name k ys later in (rest.0, rest.1, has-later y ys rest.0 rest.2)
]

-- what the first names of a stack begin with, it begins with
beginnings-take : (n : ℕ) (stack : Stack) → HasEach (beginnings stack) (beginnings (take n stack))
beginnings-take zero stack = HasEach-none (beginnings stack)
beginnings-take (suc n) [] = HasEach-none []
beginnings-take (suc n) (x ∷ xs) =
    HasEach-cons (beginnings (x ∷ xs)) (x ∷ []) (map (λ b. x ∷ b) (beginnings (take n xs))) (has-first (x ∷ []) (map (λ b. x ∷ b) (beginnings xs)))
    (λ k has.
    let under = under-has x k (beginnings (take n xs)) has in
    has-later (x ∷ []) (map (λ b. x ∷ b) (beginnings xs)) k (subst (Has (map (λ b. x ∷ b) (beginnings xs))) (sym under.1) (has-under x under.0 (beginnings xs) (beginnings-take n xs under.0 under.2))))

-- what a visited stack begins with was visited
pub visited-begun : (seen : List Stack) (before : Stack) (frames : List Framed) → HasEach seen (beginnings before) → (k : Stack) → Has (visited_stacks before frames) k → HasEach (seen ++ visited_stacks before frames) (beginnings k)
visited-begun seen before [] each k has = absurd (has-none k has)
visited-begun seen before (f ∷ fs) each k has = elim (or-either (same_stack k here) (list_any (same_stack k) (visited_stacks here fs)) has) [
  | inl same ↦ subst (λ (s : Stack). HasEach (seen ++ here ∷ visited_stacks here fs) (beginnings s)) (sym (same-true k here same)) (λ j begins. subst (λ (l : List Stack). Has l j) again (has-left (seen ++ here ∷ []) (visited_stacks here fs) j (own j begins)))
  | inr later ↦ λ j begins. subst (λ (l : List Stack). Has l j) again (visited-begun (seen ++ here ∷ []) here fs own k later j begins)
]
  where
    here : Stack
    here = stack_after before f

    again : (seen ++ here ∷ []) ++ visited_stacks here fs ≡ seen ++ here ∷ visited_stacks here fs
    again = append_assoc seen (here ∷ []) (visited_stacks here fs)

    own : HasEach (seen ++ here ∷ []) (beginnings here)
    own = subst (HasEach (seen ++ here ∷ [])) (sym (beginnings-push (take f.below before) f.name))
        (HasEach-append (seen ++ here ∷ []) (beginnings (take f.below before)) (here ∷ [])
        (λ j begins. has-left seen (here ∷ []) j (each j (beginnings-take f.below before j begins)))
        (has-right seen (here ∷ [])))

-- a list has what it counts
pub count-any : (k : Stack) (xs : List Stack) → nat_lt 0 (count_by (same_stack k) xs) ≡ list_any (same_stack k) xs
count-any k [] = refl
count-any k (x ∷ xs) = ap (nat_lt 0) (count_by-cons (same_stack k) x xs) ∙ by (same_stack k x) (count-any k xs)
  where
    some : (n : ℕ) → 0 < n → nat_lt 0 n ≡ true
    some n h = grind (arith, nat_tests)

    plain : (n : ℕ) → 0 + n ≡ n
    plain n = omega arith

    by : (b : Bool) → nat_lt 0 (count_by (same_stack k) xs) ≡ list_any (same_stack k) xs → nat_lt 0 (cond b 1 0 + count_by (same_stack k) xs) ≡ (b || list_any (same_stack k) xs)
    by true rest = some (1 + count_by (same_stack k) xs) (omega arith)
    by false rest = ap (nat_lt 0) (plain (count_by (same_stack k) xs)) ∙ rest

-- what stands in no row has no time
tally-none : (rows : List Folded) (k : Stack) → list_any (same_stack k) (map (λ f. f.stack) rows) ≡ false → tally rows k ≡ 0
tally-none [] k none = refl
tally-none (r ∷ rs) k none = sum_by-cons (λ (row : Folded). cond (same_stack k row.stack) row.time 0) r rs ∙ by (same_stack k r.stack) none (tally-none rs k)
  where
    by : (b : Bool) → (b || list_any (same_stack k) (map (λ (f : Folded). f.stack) rs)) ≡ false → (list_any (same_stack k) (map (λ (f : Folded). f.stack) rs) ≡ false → tally rs k ≡ 0) → cond b r.time 0 + tally rs k ≡ 0
    by true none rest = absurd (true≢false none)
    by false none rest = let more = rest none in omega (arith, more)

-- of rows of stacks that differ each has its own time alone
pub tally-own : (rows : List Folded) → IsStrictlySortedBy stack_order (map (λ f. f.stack) rows) → AllByRecursion (λ f. f.time ≡ tally rows f.stack) rows
unfolding IsStrictlySortedBy
tally-own [] sorted = tt
tally-own (r ∷ rs) sorted = (first, each rs sorted.0 (tally-own rs sorted.1))
  where
    more : (k : Stack) → tally (r ∷ rs) k ≡ cond (same_stack k r.stack) r.time 0 + tally rs k
    more k = sum_by-cons (λ (row : Folded). cond (same_stack k row.stack) row.time 0) r rs

    first : r.time ≡ tally (r ∷ rs) r.stack
    first =
        let none = tally-none rs r.stack (none-below stack_order-total stack_order-same r.stack (map (λ (f : Folded). f.stack) rs) sorted.0) in
        let own = ap {B = ℕ} (λ b. cond b r.time 0) (same-itself r.stack) in
        omega (arith, more r.stack, none, own)

    each : (fs : List Folded) → AllByRecursion (λ s. stack_order r.stack s ≡ Less) (map (λ f. f.stack) fs) → AllByRecursion (λ f. f.time ≡ tally rs f.stack) fs → AllByRecursion (λ f. f.time ≡ tally (r ∷ rs) f.stack) fs
    each [] above timed = tt
    each (f ∷ fs) above timed =
        let other = ap {B = ℕ} (λ o. cond (is_eq o) r.time 0) (turned-less stack_order-total r.stack f.stack above.0) in
        (omega (arith, timed.0, more f.stack, other), each fs above.1 timed.1)

-- the stacks with any time are those of the rows
pub tally-any : (rows : List Folded) (k : Stack) → AllByRecursion (λ f. 0 < f.time) rows → list_any (same_stack k) (map (λ f. f.stack) rows) ≡ nat_lt 0 (tally rows k)
tally-any [] k some = refl
tally-any (r ∷ rs) k some = by (same_stack k r.stack) (tally-any rs k some.1) ∙ sym (ap (nat_lt 0) (sum_by-cons (λ (row : Folded). cond (same_stack k row.stack) row.time 0) r rs))
  where
    lt : (n : ℕ) → 0 < n → true ≡ nat_lt 0 n
    lt n h = grind (arith, nat_tests)

    plain : (n : ℕ) → n ≡ 0 + n
    plain n = omega arith

    by : (b : Bool) → list_any (same_stack k) (map (λ (f : Folded). f.stack) rs) ≡ nat_lt 0 (tally rs k) → (b || list_any (same_stack k) (map (λ (f : Folded). f.stack) rs)) ≡ nat_lt 0 (cond b r.time 0 + tally rs k)
    by true rest = lt (r.time + tally rs k) (omega (arith, some.0))
    by false rest = rest ∙ ap (nat_lt 0) (plain (tally rs k))

pub rows-timed : (before : Stack) (frames : List Framed) → AllByRecursion (λ f. 0 < f.time) (folded_after before frames)
rows-timed before [] = tt
rows-timed before (f ∷ fs) = by f.time (rows-timed (stack_after before f) fs)
  where
    by : (t : ℕ) → AllByRecursion (λ f. 0 < f.time) (folded_after (stack_after before f) fs) → AllByRecursion (λ f. 0 < f.time) (folded_if (stack_after before f) t ++ folded_after (stack_after before f) fs)
    by zero rest = rest
    by (suc t) rest = (omega arith, rest)

tally-if : (s k : Stack) (t : ℕ) → tally (folded_if s t) k ≡ cond (same_stack k s) t 0
tally-if s k zero = by (same_stack k s)
  where
    by : (b : Bool) → ◌≡◌ {A = ℕ} 0 (cond b 0 0)
    by true = refl
    by false = refl
tally-if s k (suc t) = sum_by-cons (λ (row : Folded). cond (same_stack k row.stack) row.time 0) (record { stack = s; time = suc t }) [] ∙ plain (cond (same_stack k s) (suc t) 0)
  where
    plain : (n : ℕ) → n + 0 ≡ n
    plain n = omega arith

-- one more frame adds its time to its stack
pub visited_ticks-push : (frames : List Framed) (f : Framed) (k : Stack) → visited_ticks (frames ++ f ∷ []) k ≡ visited_ticks frames k + cond (same_stack k (stack_after (last_stack frames) f)) f.time 0
visited_ticks-push frames f k =
    ap (λ (rows : List Folded). tally rows k) (folded_after-push [] frames f)
    ∙ sum_by-append (λ (row : Folded). cond (same_stack k row.stack) row.time 0) (folded_after [] frames) (folded_if (stack_after (last_stack frames) f) f.time)
    ∙ ap (λ n. visited_ticks frames k + n) (tally-if (stack_after (last_stack frames) f) k f.time)

-- the empty stack has no time
pub tally-empty : (before : Stack) (frames : List Framed) → tally (folded_after before frames) [] ≡ 0
tally-empty before [] = refl
tally-empty before (f ∷ fs) =
    sum_by-append (λ (row : Folded). cond (same_stack [] row.stack) row.time 0) (folded_if (stack_after before f) f.time) (folded_after (stack_after before f) fs)
    ∙ ap₂ (λ a b. a + b) (tally-if (stack_after before f) [] f.time ∙ ap (λ b. cond b f.time 0) (framed (take f.below before) f.name)) (tally-empty (stack_after before f) fs)
  where
    framed : (start : Stack) (name : Bytes) → same_stack [] (start ++ name ∷ []) ≡ false
    framed [] name = refl
    framed (x ∷ start) name = refl

-- rows whose times count stacks are the folded stacks of these
pub rows-folded : (stacks : List Stack) (rows : List Folded) → AllByRecursion (λ f. f.time ≡ count_by (same_stack f.stack) stacks) rows → rows ≡ map (folded stacks) (map (λ f. f.stack) rows)
rows-folded stacks [] timed = refl
rows-folded stacks (f ∷ fs) timed = ap₂ (λ (t : ℕ) (rest : List Folded). let row : Folded = record { stack = f.stack; time = t } in row ∷ rest) timed.0 (rows-folded stacks fs timed.1)
