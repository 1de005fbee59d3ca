-- Folded stacks in order, each without the frames with which it begins as the one before it does.
use Rattle.std.specs.{List.common_prefix_len, Prelude.{ℕ, List, [], ◌∷◌, ◌++◌, take, drop}}
use Rattle.span_page.specs.{same_text, Folded, Stack}

-- with how many frames two stacks begin alike
abbrev pub shared : Stack → Stack → ℕ
shared before stack = common_prefix_len same_text before stack

-- how many frames a stack has from the one before it, its others, and its time
pub record Coded : Type 0 where
  pub shared : ℕ
  pub others : Stack
  pub time : ℕ

-- a stack after another
abbrev pub coded : Stack → Folded → Coded
coded before folded = let n = shared before folded.stack in record { shared = n; others = drop n folded.stack; time = folded.time }

-- stacks after another, one after the other
abbrev pub coded_after : Stack → List Folded → List Coded
coded_after before [] = []
coded_after before (folded ∷ later) = coded before folded ∷ coded_after folded.stack later

-- the stacks that were coded
abbrev pub decoded_after : Stack → List Coded → List Folded
decoded_after before [] = []
decoded_after before (c ∷ later) = let stack = take c.shared before ++ c.others in record { stack = stack; time = c.time } ∷ decoded_after stack later
