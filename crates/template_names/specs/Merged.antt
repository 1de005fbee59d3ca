-- The merged text of a text: what stands between a `<` and its match is left out.
use Rattle.std.specs.Prelude.{ℕ, zero, suc, Bool, true, false, if◌then◌else◌, List, [], ◌∷◌, ◌++◌, codes}
use Rattle.template_names.specs.{Marks.{Bytes, marks}, declared.marks.Mark.{Mark, TheVariants.{Open, Close, Other}}}

-- how many are open behind a mark
abbrev pub open_behind : Mark → ℕ → ℕ
open_behind Open depth = suc depth
open_behind Close zero = zero
open_behind Close (suc depth) = depth
open_behind (Other byte) depth = depth

-- whether so many that are open are all closed again: the match of a `<` is the first byte behind it up to which, both
-- included, as many open as close
abbrev pub are_closed : ℕ → List Mark → Bool
are_closed zero marks = true
are_closed (suc depth) [] = false
are_closed (suc depth) (mark ∷ marks) = are_closed (open_behind mark (suc depth)) marks

abbrev pub byte_of : Mark → ℕ
byte_of Open = 60
byte_of Close = 62
byte_of (Other byte) = byte

-- what is written: a `<` that has a match as `<$>`, nothing up to its match, and all else as it is
abbrev pub written : ℕ → List Mark → Bytes
written depth [] = []
written (suc depth) (mark ∷ marks) = written (open_behind mark (suc depth)) marks
written zero (Open ∷ marks) = if are_closed 1 marks then codes "<$>" ++ written 1 marks else 60 ∷ written zero marks
written zero (mark ∷ marks) = byte_of mark ∷ written zero marks

abbrev pub merged : Bytes → Bytes
merged text = written 0 (marks text)
