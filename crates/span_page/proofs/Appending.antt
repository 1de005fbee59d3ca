-- What is appended for the stacks of frames, one frame after the other.
use Rattle.std.specs.Ordering.{nat_cmp, ord_min}
use Rattle.std.proofs.Common.{◌≡◌, ℕ, zero, suc, ◌<◌, List, [], ◌∷◌, ◌++◌, length, map, drop, refl, ap, ◌∙◌, arith}
use Rattle.span_page.specs.{Stack, Framed, stack_after, Coded.Coded, Data.stack_json}
use Rattle.span_page.proofs.{Coding.{coded_frames, coded_if, shared_if}, Joined.{joined_after, joined_after-cons}}

-- some bytes, and then the stacks of frames after another stack, which begins with n frames like the last that was appended
abbrev pub with_frames : List ℕ → List ℕ → ℕ → Stack → List Framed → List ℕ
with_frames bytes comma n stack frames = bytes ++ joined_after comma (map stack_json (coded_frames n stack frames))

-- how the stack of a frame is coded
abbrev pub coded_frame : ℕ → Stack → ℕ → Coded
coded_frame n stack time = record { shared = n; others = drop n stack; time = time }

-- a frame whose stack has no time
pub with_frames-none : (bytes comma : List ℕ) (n : ℕ) (stack : Stack) (f : Framed) (later : List Framed) → f.time ≡ 0 →
    with_frames bytes comma n stack (f ∷ later) ≡ with_frames bytes comma (ord_min nat_cmp n f.below) (stack_after stack f) later
with_frames-none bytes comma n stack f later none =
    ap (λ t. bytes ++ joined_after comma (map stack_json (coded_if (ord_min nat_cmp n f.below) (stack_after stack f) t ++ coded_frames (shared_if (ord_min nat_cmp n f.below) (stack_after stack f) t) (stack_after stack f) later))) none

-- a frame whose stack has some
pub with_frames-some : (bytes comma : List ℕ) (n : ℕ) (stack : Stack) (f : Framed) (later : List Framed) → 0 < f.time →
    with_frames bytes comma n stack (f ∷ later)
    ≡ with_frames ((bytes ++ comma) ++ stack_json (coded_frame (ord_min nat_cmp n f.below) (stack_after stack f) f.time)) (44 ∷ []) (length (stack_after stack f)) (stack_after stack f) later
with_frames-some bytes comma n stack f later some =
    ap (λ (cs : List Coded). bytes ++ joined_after comma (map stack_json cs)) (one f.time some)
    ∙ joined_after-cons bytes comma (stack_json (coded_frame (ord_min nat_cmp n f.below) (stack_after stack f) f.time)) (map stack_json (coded_frames (length (stack_after stack f)) (stack_after stack f) later))
  where
    one : (t : ℕ) → 0 < t → coded_if (ord_min nat_cmp n f.below) (stack_after stack f) t ++ coded_frames (shared_if (ord_min nat_cmp n f.below) (stack_after stack f) t) (stack_after stack f) later
        ≡ coded_frame (ord_min nat_cmp n f.below) (stack_after stack f) t ∷ coded_frames (length (stack_after stack f)) (stack_after stack f) later
    one zero some = absurd (omega (arith, some))
    one (suc t) some = refl
