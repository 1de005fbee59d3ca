-- The first pair of two lists of arguments merged, and the order of the whole.
use Rattle.std.specs.{BTreeMap.insert_entry, Ordering.{ordering_reverse, match_ordering}}
use Rattle.std.proofs.{Common.{◌≡◌, ℕ, List, [], ◌∷◌, ◌++◌, length, Bool, true, false, cond, None, Ordering, Less, Equal, Greater, is_eq, filter, is_none, append-nil, refl, sym, ap, subst, ◌∙◌, arith}, lemmas.{Cmp.nat_list_cmp_total, Map.Text.is_eq-slice_cmp, Slice.Eq.bytes_eq-Decides}}
use Rattle.span_event.specs.{Args.{IsBelowAll, IsInNameOrder, value_of, in_name_order, lacking, merged}, Text.{text_cmp, same_text}, declared.args.ArgValue.ArgValue}

abbrev Pair : Type 0
Pair = List ℕ × ArgValue

-- two names of which one is below the other differ
apart : (k l : List ℕ) → text_cmp k l ≡ Less → same_text k l ≡ false
apart k l below = sym (is_eq-slice_cmp k l) ∙ ap is_eq below

flipped : (k l : List ℕ) → text_cmp k l ≡ Less → text_cmp l k ≡ Greater
flipped k l below = nat_list_cmp_total.antisymm l k ∙ ap ordering_reverse below

-- ---- names below all others

IsBelowAll-placed : (o : Ordering) (k : List ℕ) (p e : Pair) (es placed : List Pair) → text_cmp k p.0 ≡ Less → IsBelowAll k (e ∷ es) → IsBelowAll k placed
    → IsBelowAll k (match_ordering o (p ∷ e ∷ es) ((e.0, p.1) ∷ es) (e ∷ placed))
IsBelowAll-placed Less k p e es placed below all more = (below, all)
IsBelowAll-placed Equal k p e es placed below all more = all
IsBelowAll-placed Greater k p e es placed below all more = (all.0, more)

IsBelowAll-insert_entry : (k : List ℕ) (p : Pair) (es : List Pair) → text_cmp k p.0 ≡ Less → IsBelowAll k es → IsBelowAll k (insert_entry text_cmp es p.0 p.1)
IsBelowAll-insert_entry k p [] below all = (below, tt)
IsBelowAll-insert_entry k p (e ∷ es) below all = IsBelowAll-placed (text_cmp p.0 e.0) k p e es _ below all (IsBelowAll-insert_entry k p es below all.1)

IsBelowAll-in_name_order : (k : List ℕ) (ps : List Pair) → IsBelowAll k ps → IsBelowAll k (in_name_order ps)
IsBelowAll-in_name_order k [] all = tt
IsBelowAll-in_name_order k (p ∷ ps) all = IsBelowAll-insert_entry k p (in_name_order ps) all.0 (IsBelowAll-in_name_order k ps all.1)

IsBelowAll-append : (k : List ℕ) (ps qs : List Pair) → IsBelowAll k ps → IsBelowAll k qs → IsBelowAll k (ps ++ qs)
IsBelowAll-append k [] qs first second = second
IsBelowAll-append k (p ∷ ps) qs first second = (first.0, IsBelowAll-append k ps qs first.1 second)

IsBelowAll-filter_at : (b : Bool) (k : List ℕ) (p : Pair) (ps : List Pair) → text_cmp k p.0 ≡ Less → IsBelowAll k ps → IsBelowAll k (cond b (p ∷ ps) ps)
IsBelowAll-filter_at true k p ps below all = (below, all)
IsBelowAll-filter_at false k p ps below all = all

IsBelowAll-filter : (k : List ℕ) (test : Pair → Bool) (ps : List Pair) → IsBelowAll k ps → IsBelowAll k (filter test ps)
IsBelowAll-filter k test [] all = tt
IsBelowAll-filter k test (p ∷ ps) all = IsBelowAll-filter_at (test p) k p _ all.0 (IsBelowAll-filter k test ps all.1)

IsBelowAll-trans : (k l : List ℕ) (ps : List Pair) → text_cmp k l ≡ Less → IsBelowAll l ps → IsBelowAll k ps
IsBelowAll-trans k l [] below all = tt
IsBelowAll-trans k l (p ∷ ps) below all = (nat_list_cmp_total.trans k l p.0 below all.0, IsBelowAll-trans k l ps below all.1)

-- ---- putting in order

pub insert_entry-below : (p : Pair) (es : List Pair) → IsBelowAll p.0 es → insert_entry text_cmp es p.0 p.1 ≡ p ∷ es
insert_entry-below p [] all = refl
insert_entry-below p (e ∷ es) all = rw all.0

insert_entry-above : (p q : Pair) (es : List Pair) → text_cmp q.0 p.0 ≡ Less → insert_entry text_cmp (q ∷ es) p.0 p.1 ≡ q ∷ insert_entry text_cmp es p.0 p.1
insert_entry-above p q es below = rw (flipped q.0 p.0 below)

-- a lowest name comes first wherever it stood
in_name_order-lowest : (front : List Pair) (p : Pair) (back : List Pair) → IsBelowAll p.0 front → IsBelowAll p.0 back → in_name_order (front ++ p ∷ back) ≡ p ∷ in_name_order (front ++ back)
in_name_order-lowest [] p back first second = insert_entry-below p (in_name_order back) (IsBelowAll-in_name_order p.0 back second)
in_name_order-lowest (f ∷ front) p back first second =
    rw (in_name_order-lowest front p back first.1 second) (insert_entry-above f p (in_name_order (front ++ back)) first.0)

IsInNameOrder-placed : (o : Ordering) (p e : Pair) (es placed : List Pair) → text_cmp p.0 e.0 ≡ o → IsInNameOrder (e ∷ es) → IsInNameOrder placed → (text_cmp e.0 p.0 ≡ Less → IsBelowAll e.0 placed)
    → IsInNameOrder (match_ordering o (p ∷ e ∷ es) ((e.0, p.1) ∷ es) (e ∷ placed))
IsInNameOrder-placed Less p e es placed is sorted more below = ((is, IsBelowAll-trans p.0 e.0 es is sorted.0), sorted)
IsInNameOrder-placed Equal p e es placed is sorted more below = sorted
IsInNameOrder-placed Greater p e es placed is sorted more below = (below (nat_list_cmp_total.antisymm e.0 p.0 ∙ ap ordering_reverse is), more)

pub IsInNameOrder-insert_entry : (p : Pair) (es : List Pair) → IsInNameOrder es → IsInNameOrder (insert_entry text_cmp es p.0 p.1)
IsInNameOrder-insert_entry p [] sorted = (tt, tt)
IsInNameOrder-insert_entry p (e ∷ es) sorted =
    IsInNameOrder-placed (text_cmp p.0 e.0) p e es _ refl sorted (IsInNameOrder-insert_entry p es sorted.1) (λ below. IsBelowAll-insert_entry e.0 p es below sorted.0)

IsInNameOrder-in_name_order : (ps : List Pair) → IsInNameOrder (in_name_order ps)
IsInNameOrder-in_name_order [] = tt
IsInNameOrder-in_name_order (p ∷ ps) = IsInNameOrder-insert_entry p (in_name_order ps) (IsInNameOrder-in_name_order ps)

pub IsInNameOrder-merged : (a b : List Pair) → IsInNameOrder (merged a b)
IsInNameOrder-merged a b = IsInNameOrder-in_name_order (b ++ lacking b a)

-- pairs that are in order stay as they are
in_name_order-sorted : (ps : List Pair) → IsInNameOrder ps → in_name_order ps ≡ ps
in_name_order-sorted [] sorted = refl
in_name_order-sorted (p ∷ ps) sorted = rw (in_name_order-sorted ps sorted.1) (insert_entry-below p ps sorted.0)

-- ---- the pairs whose name the other list lacks

-- a name below all of a list has no value there
value_of-below : (k : List ℕ) (b : List Pair) → IsBelowAll k b → value_of k b ≡ None
value_of-below k [] all = refl
value_of-below k (p ∷ b) all = rw (sym (is_eq-slice_cmp p.0 k) ∙ ap is_eq (flipped k p.0 all.0)) (value_of-below k b all.1)

lacking-below : (p : Pair) (a b : List Pair) → IsBelowAll p.0 b → lacking b (p ∷ a) ≡ p ∷ lacking b a
lacking-below p a b all = rw (value_of-below p.0 b all)

-- a name below all of a is looked for in vain
lacking-other : (p : Pair) (a b : List Pair) → IsBelowAll p.0 a → lacking (p ∷ b) a ≡ lacking b a
lacking-other p [] b all = refl
lacking-other p (q ∷ a) b all = rw (apart p.0 q.0 all.0, lacking-other p a b all.1)

-- ---- the first pair of both merged

-- a name of a that is below all of b
pub merged-begin : (p : Pair) (a rest b : List Pair) → a ≡ p ∷ rest → IsInNameOrder a → IsBelowAll p.0 b → merged a b ≡ p ∷ merged rest b
merged-begin p a rest b is sorted below =
    let first : IsBelowAll p.0 rest = (subst IsInNameOrder is sorted).0 in
    rw (is, lacking-below p rest b below) (in_name_order-lowest b p (lacking b rest) below (IsBelowAll-filter p.0 (λ q. is_none (value_of q.0 b)) rest first))

-- a name of b that is below all of a
pub merged-end : (p : Pair) (a b rest : List Pair) → b ≡ p ∷ rest → IsInNameOrder b → IsBelowAll p.0 a → merged a b ≡ p ∷ merged a rest
merged-end p a b rest is sorted below =
    let first : IsBelowAll p.0 rest = (subst IsInNameOrder is sorted).0 in
    rw (is, lacking-other p a rest below) (insert_entry-below p _ (IsBelowAll-in_name_order p.0 _ (IsBelowAll-append p.0 rest (lacking rest a) first (IsBelowAll-filter p.0 (λ q. is_none (value_of q.0 rest)) a below))))

pub same_name : (k l : List ℕ) → text_cmp k l ≡ Equal → k ≡ l
same_name k l is = (bytes_eq-Decides k l).0 (sym (is_eq-slice_cmp k l) ∙ ap is_eq is)

merged-both_first : (p q : Pair) (a b : List Pair) → text_cmp p.0 q.0 ≡ Equal → IsInNameOrder (p ∷ a) → IsInNameOrder (q ∷ b) → merged (p ∷ a) (q ∷ b) ≡ q ∷ merged a b
merged-both_first p q a b same first second =
    let below : IsBelowAll q.0 a = subst (λ k. IsBelowAll k a) (same_name p.0 q.0 same) first.0 in
    let had : same_text q.0 p.0 ≡ true = sym (is_eq-slice_cmp q.0 p.0) ∙ ap is_eq (nat_list_cmp_total.antisymm q.0 p.0 ∙ ap ordering_reverse same) in
    rw had (merged-end q a (q ∷ b) b refl second below)

-- where both have the lowest name, the pair of the end stands
pub merged-both : (p q : Pair) (a first b second : List Pair) → a ≡ p ∷ first → b ≡ q ∷ second → text_cmp p.0 q.0 ≡ Equal → IsInNameOrder a → IsInNameOrder b → merged a b ≡ q ∷ merged first second
merged-both p q a first b second is_first is_second same sorted_a sorted_b =
    let at = merged-both_first p q first second same (subst IsInNameOrder is_first sorted_a) (subst IsInNameOrder is_second sorted_b) in
    subst (λ x. merged x b ≡ q ∷ merged first second) (sym is_first) (subst (λ y. merged (p ∷ first) y ≡ q ∷ merged first second) (sym is_second) at)

-- the first name of a list is at most each name of it
pub IsBelowAll-first : (k : List ℕ) (p : Pair) (a rest : List Pair) → a ≡ p ∷ rest → IsInNameOrder a → text_cmp k p.0 ≡ Less → IsBelowAll k a
IsBelowAll-first k p a rest is sorted below =
    rw is (below, IsBelowAll-trans k p.0 rest below (subst IsInNameOrder is sorted).0)

pub below_the_other : (k l : List ℕ) → text_cmp k l ≡ Greater → text_cmp l k ≡ Less
below_the_other k l above = nat_list_cmp_total.antisymm l k ∙ ap ordering_reverse above

pub IsBelowAll-none : (k : List ℕ) (a : List Pair) → length a ≡ 0 → IsBelowAll k a
IsBelowAll-none k [] none = tt
IsBelowAll-none k (p ∷ a) none = absurd (omega arith)

-- ---- where one of both has no pairs

lacking-none : (a : List Pair) → lacking [] a ≡ a
lacking-none [] = refl
lacking-none (p ∷ a) = ap (λ rest. p ∷ rest) (lacking-none a)

pub merged-no_end : (a b : List Pair) → length b ≡ 0 → IsInNameOrder a → merged a b ≡ a
merged-no_end a [] none sorted = rw (lacking-none a) (in_name_order-sorted a sorted)
merged-no_end a (q ∷ b) none sorted = absurd (omega arith)

pub merged-no_begin : (a b : List Pair) → length a ≡ 0 → IsInNameOrder b → merged a b ≡ b
merged-no_begin [] b none sorted = rw (append-nil b) (in_name_order-sorted b sorted)
merged-no_begin (p ∷ a) b none sorted = absurd (omega arith)
