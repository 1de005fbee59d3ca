-- How labels are made and kept: word by word, and beside the spans.
use Rattle.std.specs.Prelude.{List, [], ◌∷◌, ◌++◌, Option, Some, None}
use Rattle.span_report.specs.{Bytes, Span, Stacks.Labels.named_by}

-- a word, if there is one, with what separates it from the words before it
abbrev pub then_word : Bytes → Option Bytes → Bytes
then_word separator None = []
then_word separator (Some word) = separator ++ word

-- the spans with labels in place of their names, as far as there are labels
abbrev pub relabelled : List Bytes → List (Span Bytes) → List (Span Bytes)
relabelled [] spans = spans
relabelled (label ∷ labels) [] = []
relabelled (label ∷ labels) (s ∷ spans) = named_by label s ∷ relabelled labels spans
