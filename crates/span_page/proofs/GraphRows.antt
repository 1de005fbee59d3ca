-- Rows as the stacks of a graph.
use Rattle.std.specs.List.{common_prefix_len}
use Rattle.std.proofs.{Common.{◌≡◌, ◌+◌, ◌-◌, Bool, cond, List, [], ◌∷◌, length, map, refl, ap, ◌∙◌}, lemmas.List.{length-drop, length-map, Sums.sum_by-cons}}
use Rattle.span_page.specs.{Folded, Row, Stack, Value, same_text, Coded.{Coded, coded, coded_after, shared}, Graph.{folded_row, frames_after, value_label}}

-- two values have the same label
abbrev pub same_label : Value → Value → Bool
same_label x y = same_text (value_label x) (value_label y)

-- with how many labels two keys begin alike, value by value
pub shared-labels : (xs ys : List Value) → shared (map value_label xs) (map value_label ys) ≡ common_prefix_len same_label xs ys
shared-labels [] ys = refl
shared-labels (x ∷ xs) [] = refl
shared-labels (x ∷ xs) (y ∷ ys) = ap (λ n. cond (same_label x y) (1 + n) 0) (shared-labels xs ys)

-- with none nothing begins
pub common_prefix_len-none : (xs : List Value) → common_prefix_len same_label xs [] ≡ 0
common_prefix_len-none [] = refl
common_prefix_len-none (x ∷ xs) = refl

-- the frames of a stack, and those of the stacks behind it
frames_after-cons : (before : Stack) (folded : Folded) (later : List Folded) → frames_after before (folded ∷ later) ≡ (length folded.stack - shared before folded.stack) + frames_after folded.stack later
frames_after-cons before folded later =
    sum_by-cons (λ (c : Coded). length c.others) (coded before folded) (coded_after folded.stack later) ∙ ap (λ n. n + frames_after folded.stack later) (length-drop (shared before folded.stack) folded.stack)

-- those of a row
pub frames_after-row : (before : List Value) (row : Row) (later : List Row) →
    frames_after (map value_label before) (map folded_row (row ∷ later)) ≡ (length row.key - common_prefix_len same_label before row.key) + frames_after (map value_label row.key) (map folded_row later)
frames_after-row before row later =
    frames_after-cons (map value_label before) (folded_row row) (map folded_row later)
    ∙ (λ i. (length-map row.key value_label i - shared-labels before row.key i) + frames_after (map value_label row.key) (map folded_row later))
