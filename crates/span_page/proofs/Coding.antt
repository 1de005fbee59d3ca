-- Decoding gives back the stacks that were coded.
use Rattle.std.specs.{Cmp.Lexicographic.bytes_decides, Ordering.{nat_cmp, ord_min, ordering_then}, declared.cmp.Ordering.{Ordering, TheVariants.{Less, Equal, Greater}}}
use Rattle.std.proofs.{Common.{◌≡◌, ℕ, zero, suc, ◌+◌, ◌≤◌, Bool, true, false, cond, List, [], ◌∷◌, ◌++◌, length, take, drop, refl, sym, ap, ap₂, ◌∙◌, arith}, lemmas.{Bool.Decides.nat_tests, Cmp.{nat_list_cmp_total, tied_itself}}}
use Rattle.span_event.proofs.Orders.{text_same}
use Rattle.span_report.proofs.StackLemmas.{StackOrders.{irreflexive, none-below-empty, turned-greater}, Times.stack_order-total}
use Rattle.span_page.specs.{Bytes, same_text, text_cmp, Folded, Stack, stack_order, AreAscending, Framed, folded_after, folded_if, stack_after, Coded.{Coded, coded_after, decoded_after, shared}, Laws.StacksAreHadBack}

-- the frames that a stack shares with another, and its others
take-shared : (before stack : Stack) → take (shared before stack) before ++ drop (shared before stack) stack ≡ stack
take-shared [] stack = refl
take-shared (frame ∷ frames) [] = refl
take-shared (frame ∷ frames) (other ∷ others) = by (same_text frame other) refl (take-shared frames others)
  where
    by : (b : Bool) → same_text frame other ≡ b → take (shared frames others) frames ++ drop (shared frames others) others ≡ others
        → take (cond b (1 + shared frames others) 0) (frame ∷ frames) ++ drop (cond b (1 + shared frames others) 0) (other ∷ others) ≡ other ∷ others
    by true same rest = let one : 1 + shared frames others ≡ suc (shared frames others) = omega arith in rw one (ap₂ (λ f fs. f ∷ fs) ((bytes_decides frame other).0 same) rest)
    by false same rest = refl

decoded_after-coded_after : (before : Stack) (stacks : List Folded) → decoded_after before (coded_after before stacks) ≡ stacks
decoded_after-coded_after before [] = refl
decoded_after-coded_after before (folded ∷ later) =
    ap (λ (stack : Stack). record { stack = stack; time = folded.time } ∷ decoded_after stack (coded_after folded.stack later)) (take-shared before folded.stack)
    ∙ ap (λ stacks. folded ∷ stacks) (decoded_after-coded_after folded.stack later)

pub stacks-had-back : StacksAreHadBack
stacks-had-back stacks = decoded_after-coded_after [] stacks

-- a stack begins like itself as far as it goes
shared-itself : (stack : Stack) → shared stack stack ≡ length stack
shared-itself [] = refl
shared-itself (frame ∷ frames) = ap₂ (λ b n. cond b (1 + n) 0) ((bytes_decides frame frame).1 refl) (shared-itself frames) ∙ one (length frames)
  where
    one : (n : ℕ) → 1 + n ≡ suc n
    one n = omega arith

ord_min-zero : (n : ℕ) → ord_min nat_cmp n 0 ≡ 0
ord_min-zero n = grind (arith, nat_tests)

zero-ord_min : (n : ℕ) → ord_min nat_cmp 0 n ≡ 0
zero-ord_min n = grind (arith, nat_tests)

one-ord_min : (m n : ℕ) → 1 + ord_min nat_cmp m n ≡ ord_min nat_cmp (1 + m) (suc n)
one-ord_min m n = grind (arith, nat_tests)

-- of a stack, one no less than it, and one above that with so many of its frames: the first and the last begin alike no further
pub shared-above : (before stack : Stack) (below : ℕ) (name : Bytes) → below ≤ length stack → (stack_order stack before ≡ Less → ⊥) → stack_order stack (take below stack ++ name ∷ []) ≡ Less →
    shared before (take below stack ++ name ∷ []) ≡ ord_min nat_cmp (shared before stack) below
shared-above [] stack below name within from above = sym (zero-ord_min below)
shared-above (x ∷ xs) [] zero name within from above = absurd (from refl)
shared-above (x ∷ xs) (y ∷ ys) zero name within from above = ap (λ b. cond b (1 + shared xs []) 0) (apart (text_cmp y x) (text_cmp y name) refl refl from above) ∙ sym (ord_min-zero (shared (x ∷ xs) (y ∷ ys)))
  where
    differ : text_cmp x name ≡ Less → same_text x name ≡ false
    differ less = by (same_text x name) refl
      where
        by : (b : Bool) → same_text x name ≡ b → same_text x name ≡ false
        by true same = let both : Equal ≡ Less = sym (ap (text_cmp x) (sym ((bytes_decides x name).0 same)) ∙ tied_itself nat_list_cmp_total x) ∙ less in absurd cc
        by false same = same

    -- x is no more than y, and y is less than the name
    apart : (r s : Ordering) → text_cmp y x ≡ r → text_cmp y name ≡ s → (ordering_then r (stack_order ys xs) ≡ Less → ⊥) → ordering_then s (stack_order ys []) ≡ Less → same_text x name ≡ false
    apart r Equal first second from above = absurd (none-below-empty ys above)
    apart r Greater first second from above = absurd cc
    apart Less Less first second from above = absurd (from refl)
    apart Equal Less first second from above = differ (ap (λ t. text_cmp t name) (sym (text_same y x first)) ∙ second)
    apart Greater Less first second from above = differ (nat_list_cmp_total.trans x y name (turned-greater nat_list_cmp_total y x first) second)
shared-above (x ∷ xs) [] (suc below) name within from above = absurd (omega (arith, within))
shared-above (x ∷ xs) (y ∷ ys) (suc below) name within from above = by (same_text x y) refl (shared-above xs ys below name (omega (arith, within)))
  where
    by : (b : Bool) → same_text x y ≡ b → ((stack_order ys xs ≡ Less → ⊥) → stack_order ys (take below ys ++ name ∷ []) ≡ Less → shared xs (take below ys ++ name ∷ []) ≡ ord_min nat_cmp (shared xs ys) below) →
        cond b (1 + shared xs (take below ys ++ name ∷ [])) 0 ≡ ord_min nat_cmp (cond b (1 + shared xs ys) 0) (suc below)
    by true same rest =
        let equal = (bytes_decides x y).0 same in
        let tied : text_cmp y x ≡ Equal = ap (text_cmp y) equal ∙ tied_itself nat_list_cmp_total y in
        ap (λ n. 1 + n) (rest (λ less. from (ap₂ ordering_then tied less)) (sym (ap (λ o. ordering_then o (stack_order ys (take below ys ++ name ∷ []))) (tied_itself nat_list_cmp_total y)) ∙ above))
        ∙ one-ord_min (shared xs ys) below
    by false other rest = sym (zero-ord_min (suc below))

-- the stack of a frame, if it has any time
abbrev pub coded_if : ℕ → Stack → ℕ → List Coded
coded_if n stack zero = []
coded_if n stack (suc time) = record { shared = n; others = drop n stack; time = suc time } ∷ []

-- with how many frames the stacks behind a stack may begin like the last that was coded
abbrev pub shared_if : ℕ → Stack → ℕ → ℕ
shared_if n stack zero = n
shared_if n stack (suc time) = length stack

-- the stacks of frames after another stack, which begins with n frames like the last that was coded
abbrev pub coded_frames : ℕ → Stack → List Framed → List Coded
coded_frames n stack [] = []
coded_frames n stack (f ∷ fs) =
    coded_if (ord_min nat_cmp n f.below) (stack_after stack f) f.time
    ++ coded_frames (shared_if (ord_min nat_cmp n f.below) (stack_after stack f) f.time) (stack_after stack f) fs

coded_frames-coded_after : (n : ℕ) (before stack : Stack) (frames : List Framed) → n ≡ shared before stack → (stack_order stack before ≡ Less → ⊥) → AreAscending stack frames →
    coded_frames n stack frames ≡ coded_after before (folded_after stack frames)
coded_frames-coded_after n before stack [] same from are = refl
coded_frames-coded_after n before stack (f ∷ fs) same from are =
    by f.time (coded_frames-coded_after (ord_min nat_cmp n f.below) before (stack_after stack f) fs alike up are.2)
    (coded_frames-coded_after (length (stack_after stack f)) (stack_after stack f) (stack_after stack f) fs (sym (shared-itself (stack_after stack f))) (irreflexive stack_order-total (stack_after stack f)) are.2)
  where
    alike : ord_min nat_cmp n f.below ≡ shared before (stack_after stack f)
    alike = ap (λ m. ord_min nat_cmp m f.below) same ∙ sym (shared-above before stack f.below f.name are.0 from are.1)

    up : stack_order (stack_after stack f) before ≡ Less → ⊥
    up less = from (stack_order-total.trans stack (stack_after stack f) before are.1 less)

    by : (time : ℕ) → coded_frames (ord_min nat_cmp n f.below) (stack_after stack f) fs ≡ coded_after before (folded_after (stack_after stack f) fs) →
        coded_frames (length (stack_after stack f)) (stack_after stack f) fs ≡ coded_after (stack_after stack f) (folded_after (stack_after stack f) fs) →
        coded_if (ord_min nat_cmp n f.below) (stack_after stack f) time ++ coded_frames (shared_if (ord_min nat_cmp n f.below) (stack_after stack f) time) (stack_after stack f) fs
        ≡ coded_after before (folded_if (stack_after stack f) time ++ folded_after (stack_after stack f) fs)
    by zero rest later = rest
    by (suc time) rest later = ap₂ (λ (m : ℕ) (cs : List Coded). let one : Coded = record { shared = m; others = drop m (stack_after stack f); time = suc time } in one ∷ cs) alike later

-- the stacks of frames, coded one after the other
pub coded_frames-all : (frames : List Framed) → AreAscending [] frames → coded_frames 0 [] frames ≡ coded_after [] (folded_after [] frames)
coded_frames-all frames are = coded_frames-coded_after 0 [] [] frames refl (irreflexive stack_order-total []) are
