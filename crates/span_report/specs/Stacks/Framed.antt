-- The stacks of a thread, frame by frame: each frame is the last of a stack, whose others are those that the stack before it begins with.
use Rattle.std.specs.{Prelude.{◌≡◌, ℕ, suc, zero, ◌≤◌, List, [], ◌∷◌, ◌++◌, length, take, fold}, declared.cmp.Ordering.TheVariants.Less}
use Rattle.span_report.specs.{Bytes, Stacks.Ticks.{Folded, Stack, stack_order}}

-- the last frame of a stack, how many others are below it, and how many ticks have the stack
pub record Framed : Type 0 where
  pub below : ℕ
  pub name : Bytes
  pub time : ℕ

-- the stack of a frame after another stack
abbrev pub stack_after : Stack → Framed → Stack
stack_after before frame = take frame.below before ++ frame.name ∷ []

-- the last of the stacks
abbrev pub last_stack : List Framed → Stack
last_stack frames = fold stack_after [] frames

-- a stack with its time, if it has any
abbrev pub folded_if : Stack → ℕ → List Folded
folded_if stack zero = []
folded_if stack (suc n) = record { stack = stack; time = suc n } ∷ []

-- those of the stacks after another that have any time
abbrev pub folded_after : Stack → List Framed → List Folded
folded_after before [] = []
folded_after before (frame ∷ frames) = folded_if (stack_after before frame) frame.time ++ folded_after (stack_after before frame) frames

-- each stack is above the one before it, in which it stands on as many frames as it says
abbrev pub AreAscending : Stack → List Framed → Type 0
AreAscending before [] = Unit {0}
AreAscending before (frame ∷ frames) = (frame.below ≤ length before) × (stack_order before (stack_after before frame) ≡ Less) × AreAscending (stack_after before frame) frames
