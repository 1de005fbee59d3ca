-- Which graphs stand among so many frames.
use Rattle.std.specs.Prelude.{codes, nat_lt}
use Rattle.std.proofs.{Common.{◌≡◌, ℕ, ◌-◌, ◌<◌, ◌≤◌, true, false, cond, List, ap, arith}, lemmas.Bool.Decides.nat_tests}
use Rattle.span_page.specs.{Thread, Entry, thread_frame_count, SpanColumn, Data.{graph_json, left_after, thread_json}}

fits : (left frames : ℕ) → frames ≤ left → nat_lt left frames ≡ false
fits left frames within = grind (arith, nat_tests)

exceeds : (left frames : ℕ) → left < frames → nat_lt left frames ≡ true
exceeds left frames more = grind (arith, nat_tests)

module _ (labels : List SpanColumn) (journal : List Entry) (left : ℕ) (thread : Thread) where
  pub graph-stands : thread_frame_count labels journal thread ≤ left → graph_json labels journal left thread ≡ thread_json labels journal thread
  graph-stands within = ap (λ b. cond b (codes "null") (thread_json labels journal thread)) (fits left (thread_frame_count labels journal thread) within)

  pub left-stands : thread_frame_count labels journal thread ≤ left → left_after labels journal left thread ≡ left - thread_frame_count labels journal thread
  left-stands within = ap (λ b. cond b left (left - thread_frame_count labels journal thread)) (fits left (thread_frame_count labels journal thread) within)

  pub graph-none : left < thread_frame_count labels journal thread → graph_json labels journal left thread ≡ codes "null"
  graph-none more = ap (λ b. cond b (codes "null") (thread_json labels journal thread)) (exceeds left (thread_frame_count labels journal thread) more)

  pub left-none : left < thread_frame_count labels journal thread → left_after labels journal left thread ≡ left
  left-none more = ap (λ b. cond b left (left - thread_frame_count labels journal thread)) (exceeds left (thread_frame_count labels journal thread) more)
