-- A merged text that is written mark by mark: each `<` as it is, until its match takes it back with all that is behind it.
use Rattle.std.specs.Prelude.{◌≡◌, ℕ, zero, suc, ◌-◌, ◌<◌, ◌≤◌, List, [], ◌∷◌, ◌++◌, codes, length, slice_index, take}
use Rattle.template_names.specs.{Marks.Bytes, Merged.written, declared.{marks.Mark.{Mark, TheVariants.{Open, Close, Other}}, merging.Writer.Writer}}

-- one less, if there is one
abbrev pub without_one : ℕ → ℕ
without_one zero = zero
without_one (suc n) = n

-- how many that are open the marks close
abbrev pub closed_by : List Mark → ℕ
closed_by [] = 0
closed_by (Open ∷ marks) = without_one (closed_by marks)
closed_by (Close ∷ marks) = suc (closed_by marks)
closed_by (Other byte ∷ marks) = closed_by marks

abbrev pub least : ℕ → ℕ → ℕ
least zero n = zero
least (suc m) zero = zero
least (suc m) (suc n) = suc (least m n)

-- the place of the one that has n behind it
abbrev pub place_before : List ℕ → ℕ → ℕ
place_before opened n = slice_index opened (length opened - suc n)

-- the whole text, where the marks close the last n that are open
abbrev pub whole : Bytes → List ℕ → ℕ → List Mark → Bytes
whole text opened zero marks = text ++ written 0 marks
whole text opened (suc n) marks = take (place_before opened n) text ++ (codes "<$>" ++ written (suc n) marks)

-- the places of what is open in what is written, in order
pub record AreOpened (text : Bytes) (opened : List ℕ) : Type 0 where
  pub within : (i : ℕ) → i < length opened → slice_index opened i ≤ length text
  pub rise : (i j : ℕ) → i ≤ j → j < length opened → slice_index opened i ≤ slice_index opened j

-- the whole text, once these marks are written too
abbrev pub outcome : Writer → List Mark → Bytes
outcome w marks = whole w.written.items w.opened.items (least (closed_by marks) (length w.opened.items)) marks

abbrev pub IsReady : Writer → Type 0
IsReady w = AreOpened w.written.items w.opened.items

-- one more mark is written
pub record Writes (old new : Writer) (mark : Mark) : Type 0 where
  pub ready : IsReady new
  pub same : (marks : List Mark) → outcome new marks ≡ outcome old (mark ∷ marks)
