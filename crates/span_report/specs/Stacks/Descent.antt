-- How a descent through the frames of spans stands: which stack was visited last, and which ticks are left.
use Rattle.std.specs.{List.{AllByRecursion, count_by}, Prelude.{◌≡◌, ℕ, ◌+◌, ◌<◌, ◌≤◌, ◌^◌, if◌then◌else◌, List, [], ◌∷◌, ◌++◌, length, map, take, Option, Some, None}, declared.cmp.Ordering.TheVariants.{Less, Equal}}
use Rattle.span_report.specs.{Bytes, Span, last_of, Stacks.{Framed.{Framed, stack_after}, Pending.{IsAhead, IsSound, Near, left, nearness, pending_stack}, Ticks.{Stack, same_stack, stack_order, stacks_of}}, declared.stacks.{descent.Descent.Descent, pending.PendingFrame.PendingFrame}}

-- the stack that was visited last
abbrev pub last_visited : Descent → Stack
last_visited descent = map (λ name. name.now) descent.stack.items

-- how many ticks that are left have the stack
abbrev pub left_of : Descent → Stack → ℕ
left_of descent stack = left descent.spans (last_visited descent) descent.pending.items stack

pub record IsReady (descent : Descent) : Type 0 where
  pub near : Near descent.pending.items
  pub ahead : AllByRecursion (IsAhead (last_visited descent)) descent.pending.items
  pub sound : AllByRecursion (λ p. IsSound descent.spans p.over) descent.pending.items
  pub small : (stack : Stack) → left_of descent stack < 2 ^ 64
  pub none : descent.found.items ≡ []

-- all ticks of the spans are left
pub record StartsWith (spans : List (Span Bytes)) (descent : Descent) : Type 0 where
  pub last : last_visited descent ≡ []
  pub left : (name : Bytes) (names : Stack) → left_of descent (name ∷ names) ≡ count_by (same_stack (name ∷ names)) (stacks_of spans)

-- a frame is visited: it comes after the stack before, with all that is left of its own stack, and more stacks begin with it, or it alone
pub record VisitsFrame (old new : Descent) (frame : Framed) : Type 0 where
  pub within : frame.below ≤ length (last_visited old)
  pub above : stack_order (last_visited old) (stack_after (last_visited old) frame) ≡ Less
  pub last : last_visited new ≡ stack_after (last_visited old) frame
  pub left : (stack : Stack) → left_of new stack + (if same_stack stack (stack_after (last_visited old) frame) then frame.time else 0) ≡ left_of old stack
  pub begun : (rest : Stack) × (0 < left_of old (take frame.below (last_visited old) ++ frame.name ∷ rest))

-- or nothing is left
abbrev pub Visits : Descent → Descent → Option Framed → Type 0
Visits old new None = (stack : Stack) → left_of old stack ≡ 0
Visits old new (Some frame) = VisitsFrame old new frame

-- the nearest frame is taken off, if it has the stack of the first
pub record IsPoppedFrame (first : PendingFrame) (old : Descent) (frame : PendingFrame) (new : Descent) : Type 0 where
  pub pending : old.pending.items ≡ new.pending.items ++ frame ∷ []
  pub below : frame.below ≡ first.below
  pub name : frame.name.now ≡ first.name.now
  pub spans : new.spans ≡ old.spans
  pub found : new.found.items ≡ old.found.items
  pub stack : new.stack.items ≡ old.stack.items

abbrev pub IsPopped : PendingFrame → Descent → Option PendingFrame → Descent → Type 0
IsPopped first old None new = (new ≡ old) × ((p : PendingFrame) → last_of old.pending.items ≡ Some p → nearness p first ≡ Equal → ⊥)
IsPopped first old (Some frame) new = IsPoppedFrame first old frame new

-- the pending frames of the stack that comes next are taken off, and those that stand on it are found
pub record IsNextSplit (first : PendingFrame) (time : ℕ) (old new : Descent) : Type 0 where
  pub spans : new.spans ≡ old.spans
  pub stack : new.stack.items ≡ old.stack.items
  pub popped : (frames : List PendingFrame) × (old.pending.items ≡ new.pending.items ++ frames)
  pub done : (p : PendingFrame) → last_of new.pending.items ≡ Some p → nearness p first ≡ Equal → ⊥
  pub counts : (stack : Stack) →
      left old.spans (last_visited old) new.pending.items stack + (left old.spans (pending_stack (last_visited old) first) new.found.items stack + (if same_stack stack (pending_stack (last_visited old) first) then time else 0))
      ≡ left_of old stack
  pub found : AllByRecursion (λ p. (p.below ≡ first.below + 1) × IsSound old.spans p.over) new.found.items
