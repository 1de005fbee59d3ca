-- A journal in which nothing is refused gives no warnings.
use Rattle.std.proofs.Common.{◌≡◌, ◌==◌, ℕ, cond, List, [], ◌∷◌, ◌++◌, Option, Some, None, refl, ap, ap₂, arith}
use Rattle.span_collect.specs.{Entry, count_row, Account.caller_named, InTurn.answers_of, Refusals.{counts_in, refused_by, Warnings.{caller_warnings, most_of, warnings_of}}, declared.{files.{FileEnd.FileEnd, Input.Input}, refusals.warnings.Warning.Warning}}
use Rattle.span_collect.proofs.RefusalLemmas.Counted.{refused-answers_of}

module _ (journal : List Entry) (none : (count_row journal).refused ≡ 0) where
  caller_warnings-none : (name : List ℕ) (caller : Option ℕ) → caller_warnings journal name caller ≡ []
  caller_warnings-none name None = refl
  caller_warnings-none name (Some caller) =
      let least : (counts_in (answers_of journal caller)).refused ≡ 0 = omega (arith, none, refused-answers_of journal caller) in
      ap (λ (n : ℕ). cond (n == 0) [] (own ∷ [])) least
    where
      own : Warning
      own = record {
        name = name;
        refused = (counts_in (answers_of journal caller)).refused;
        accepted = (counts_in (answers_of journal caller)).accepted;
        code = (most_of (refused_by (answers_of journal caller))).0;
      }

  pub warnings_of-none : (files : List Input) (ends : List FileEnd) → warnings_of files ends journal ≡ []
  warnings_of-none [] ends = refl
  warnings_of-none (file ∷ files) [] = refl
  warnings_of-none (file ∷ files) (end ∷ ends) = ap₂ (λ (own later : List Warning). own ++ later) (caller_warnings-none file.name (caller_named end)) (warnings_of-none files ends)
