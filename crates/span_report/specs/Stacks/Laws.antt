-- The laws of folded stacks.
use Rattle.std.specs.Prelude.{◌≡◌, Bool, false, List, [], ◌∷◌, filter, sum_by}
use Rattle.span_report.specs.{Thread, Bytes, same_text, AreSpans, Span, busy_time, self_of, Entry, AreAlike, Stacks.{Folded.{folded_of, names_of, thread_frame_count, thread_stacks}, Labels.labelled, Ticks.{Stack, folded_stacks}}, declared.stacks.label.SpanColumn.SpanColumn}

-- the last frame of the stack is this label
abbrev pub ends_in : Bytes → Stack → Bool
ends_in label [] = false
ends_in label (frame ∷ []) = same_text frame label
ends_in label (frame ∷ next ∷ frames) = ends_in label (next ∷ frames)

-- by whatever labels, the times of the stacks add up to the busy time of the spans
abbrev pub TimesAddUpToBusy : Type 0
TimesAddUpToBusy = (columns : List SpanColumn) (spans : List (Span Bytes)) → AreSpans spans
    → sum_by (λ folded. folded.time) (folded_stacks (labelled columns spans)) ≡ busy_time spans

-- the times of the stacks that end in a label add up to the self time of that label
abbrev pub TimesAddUpToSelf : Type 0
TimesAddUpToSelf = (columns : List SpanColumn) (spans : List (Span Bytes)) → AreSpans spans → (label : Bytes)
    → sum_by (λ folded. folded.time) (filter (λ folded. ends_in label folded.stack) (folded_stacks (labelled columns spans)))
    ≡ self_of same_text label (labelled columns spans)

-- by whatever labels, two journals have the same stacks on each thread, as many frames of it, the same text of all stacks, and as many
-- names in it
pub record HaveSameStacks (journal other : List Entry) : Type 0 where
  pub stacks : (columns : List SpanColumn) (thread : Thread) → thread_stacks columns journal thread ≡ thread_stacks columns other thread
  pub frames : (columns : List SpanColumn) (thread : Thread) → thread_frame_count columns journal thread ≡ thread_frame_count columns other thread
  pub text : (columns : List SpanColumn) → folded_of columns journal ≡ folded_of columns other
  pub names : (columns : List SpanColumn) → names_of columns journal ≡ names_of columns other

-- journals that have the same accepted acts on each topic have the same stacks
abbrev pub StacksFollowFromActs : Type 0
StacksFollowFromActs = (journal other : List Entry) → AreAlike journal other → HaveSameStacks journal other
