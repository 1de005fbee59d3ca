-- What the files so far give by their ends, with one more.
use Rattle.std.proofs.{Common.{◌≡◌, ℕ, zero, suc, ◌+◌, ◌<◌, List, [], ◌∷◌, ◌++◌, length, take, get_or, sym, ap, ◌∙◌, append_assoc, add-one, arith}, lemmas.List.append-nil}
use Rattle.span_collect.specs.{FaultLines.of_each_end, declared.files.{FileEnd.FileEnd, Input.Input}}

module _ {A : Type 0} (given : List ℕ → FileEnd → List A) where
  of_each_end-take_suc : (files : List Input) (ends : List FileEnd) (i : ℕ) (f : Input) (e : FileEnd) → i < length files → i < length ends →
      of_each_end given (take (suc i) files) (take (suc i) ends) ≡ of_each_end given (take i files) (take i ends) ++ given (get_or files i f).name (get_or ends i e)
  of_each_end-take_suc [] ends i f e in_files in_ends = absurd (omega arith)
  of_each_end-take_suc (file ∷ files) [] i f e in_files in_ends = absurd (omega arith)
  of_each_end-take_suc (file ∷ files) (end ∷ ends) zero f e in_files in_ends = append-nil (given file.name end)
  of_each_end-take_suc (file ∷ files) (end ∷ ends) (suc i) f e in_files in_ends =
      ap (λ l. given file.name end ++ l) (of_each_end-take_suc files ends i f e (omega arith) (omega arith))
      ∙ sym (append_assoc (given file.name end) (of_each_end given (take i files) (take i ends)) (given (get_or files i f).name (get_or ends i e)))

  -- one more file with its end adds what it gives
  pub of_each_end-take_more : (files : List Input) (ends : List FileEnd) (i : ℕ) (f : Input) (e : FileEnd) → i < length files → length files ≡ length ends →
      of_each_end given (take (i + 1) files) (take (i + 1) ends) ≡ of_each_end given (take i files) (take i ends) ++ given (get_or files i f).name (get_or ends i e)
  of_each_end-take_more files ends i f e in_files same = rw add-one (of_each_end-take_suc files ends i f e in_files (omega arith))
