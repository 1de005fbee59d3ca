-- What files give that were all read or refused, and how many were refused.
use Rattle.std.specs.{List.{list_any, range_with_len}, Prelude.flat_map}
use Rattle.std.proofs.Common.{◌≡◌, ℕ, suc, ◌+◌, List, [], ◌∷◌, ◌++◌, length, map, false, Some, Ok, Err, refl, sym, ap, ap₂, ◌∙◌}
use Rattle.span_collect.specs.{Format, doc, Answer, Entry, Account.{Document, EachEndsAs, IsRead, IsRefused, caller_named, callers_named}, FaultLines.{end_line, end_lines, fault_line, of_each_end}, InTurn.{answers_of, ends_from}, Refusals.{counts_in, refused_by, Text.{caller_lines, file_lines, refused_line}, Warnings.{caller_warnings, file_warnings, warning_in}}, Run.{end_by, is_cut, unread_of}, declared.files.{FileEnd.{FileEnd, TheVariants.{Read, Refused, Stopped, NotStarted}}, Input.Input}}

caller_named-end_by : (caller : ℕ) (document : Document) → caller_named (end_by caller document) ≡ Some caller
caller_named-end_by caller (Ok items) = refl
caller_named-end_by caller (Err error) = refl

-- What each file gives by the journal and its end: the same, where its caller got the same answers. So it is for all files, where the
-- callers from one number on got the answers of those that the ends name.
module _ {A : Type 0} (given : List Entry → List ℕ → FileEnd → List A) (format : Format) (journal other told : List Entry) (limit : ℕ)
    (same : (name : List ℕ) (document : Document) (end : FileEnd) (c d : ℕ) → caller_named end ≡ Some c → answers_of journal c ≡ answers_of other d → given journal name end ≡ given other name (end_by d document)) where
  pub of_each_end-same : (k : ℕ) (files : List Input) (ends : List FileEnd) → EachEndsAs format told limit files ends → list_any is_cut ends ≡ false →
      map (answers_of journal) (callers_named ends) ≡ map (answers_of other) (range_with_len k (length files)) →
      of_each_end (given journal) files ends ≡ of_each_end (given other) files (ends_from format k files)
  of_each_end-same k [] [] each none answers = refl
  of_each_end-same k [] (end ∷ ends) each none answers = absurd each
  of_each_end-same k (f ∷ fs) [] each none answers = absurd each
  of_each_end-same k (f ∷ fs) (Read c count ∷ ends) each none answers =
      ap₂ (λ (x y : List A). x ++ y) (same f.name (doc format f.bytes.items) (Read c count) c k refl (cc)) (of_each_end-same (k + 1) fs ends each.1 none (cc))
  of_each_end-same k (f ∷ fs) (Refused c code ∷ ends) each none answers =
      ap₂ (λ (x y : List A). x ++ y) (same f.name (doc format f.bytes.items) (Refused c code) c k refl (cc)) (of_each_end-same (k + 1) fs ends each.1 none (cc))
  of_each_end-same k (f ∷ fs) (Stopped c done cause ∷ ends) each none answers = absurd cc
  of_each_end-same k (f ∷ fs) (NotStarted ∷ ends) each none answers = absurd cc

-- its lines of refusals
pub file_lines-same : (journal other : List Entry) (name : List ℕ) (document : Document) (end : FileEnd) (c d : ℕ) → caller_named end ≡ Some c → answers_of journal c ≡ answers_of other d →
    file_lines journal name end ≡ file_lines other name (end_by d document)
file_lines-same journal other name document end c d named same =
    ap (caller_lines journal name) named ∙ ap (λ (answers : List Answer). flat_map (refused_line name) (refused_by answers)) same ∙ sym (ap (caller_lines other name) (caller_named-end_by d document))

-- its warnings
pub file_warnings-same : (journal other : List Entry) (name : List ℕ) (document : Document) (end : FileEnd) (c d : ℕ) → caller_named end ≡ Some c → answers_of journal c ≡ answers_of other d →
    file_warnings journal name end ≡ file_warnings other name (end_by d document)
file_warnings-same journal other name document end c d named same =
    ap (caller_warnings journal name) named ∙ ap (λ (answers : List Answer). warning_in name (counts_in answers) (refused_by answers)) same ∙ sym (ap (caller_warnings other name) (caller_named-end_by d document))

unread_of-read : (told : List Entry) (document : Document) (c count k : ℕ) (rest : List FileEnd) → IsRead told document c count → unread_of (end_by k document ∷ rest) ≡ unread_of rest
unread_of-read told (Ok items) c count k rest is = refl
unread_of-read told (Err error) c count k rest is = absurd is

unread_of-refused : (told : List Entry) (document : Document) (c code k : ℕ) (rest : List FileEnd) → IsRefused told document c code → unread_of (end_by k document ∷ rest) ≡ suc (unread_of rest)
unread_of-refused told (Ok items) c code k rest is = absurd is
unread_of-refused told (Err error) c code k rest is = refl

-- as many are refused as where callers from one number on tell them
pub unread_of-same : (format : Format) (told : List Entry) (limit k : ℕ) (files : List Input) (ends : List FileEnd) → EachEndsAs format told limit files ends → list_any is_cut ends ≡ false → unread_of ends ≡ unread_of (ends_from format k files)
unread_of-same format told limit k [] [] each none = refl
unread_of-same format told limit k [] (end ∷ ends) each none = absurd each
unread_of-same format told limit k (f ∷ fs) [] each none = absurd each
unread_of-same format told limit k (f ∷ fs) (Read c count ∷ ends) each none =
    unread_of-same format told limit (k + 1) fs ends each.1 none ∙ sym (unread_of-read told (doc format f.bytes.items) c count k (ends_from format (k + 1) fs) each.0)
unread_of-same format told limit k (f ∷ fs) (Refused c code ∷ ends) each none =
    ap suc (unread_of-same format told limit (k + 1) fs ends each.1 none) ∙ sym (unread_of-refused told (doc format f.bytes.items) c code k (ends_from format (k + 1) fs) each.0)
unread_of-same format told limit k (f ∷ fs) (Stopped c done cause ∷ ends) each none = absurd cc
unread_of-same format told limit k (f ∷ fs) (NotStarted ∷ ends) each none = absurd cc

end_line-read : (told : List Entry) (name : List ℕ) (document : Document) (c count k : ℕ) → IsRead told document c count → [] ≡ end_line name (end_by k document)
end_line-read told name (Ok items) c count k is = refl
end_line-read told name (Err error) c count k is = absurd is

end_line-refused : (told : List Entry) (name : List ℕ) (document : Document) (c code k : ℕ) → IsRefused told document c code → fault_line name code ≡ end_line name (end_by k document)
end_line-refused told name (Ok items) c code k is = absurd is
end_line-refused told name (Err error) c code k is = ap (fault_line name) is.0

-- the same fault lines are said as where callers from one number on tell them
pub end_lines-same : (format : Format) (told : List Entry) (limit k : ℕ) (files : List Input) (ends : List FileEnd) → EachEndsAs format told limit files ends → list_any is_cut ends ≡ false → end_lines files ends ≡ end_lines files (ends_from format k files)
end_lines-same format told limit k [] [] each none = refl
end_lines-same format told limit k [] (end ∷ ends) each none = absurd each
end_lines-same format told limit k (f ∷ fs) [] each none = absurd each
end_lines-same format told limit k (f ∷ fs) (Read c count ∷ ends) each none =
    ap₂ (λ (x y : List ℕ). x ++ y) (end_line-read told f.name (doc format f.bytes.items) c count k each.0) (end_lines-same format told limit (k + 1) fs ends each.1 none)
end_lines-same format told limit k (f ∷ fs) (Refused c code ∷ ends) each none =
    ap₂ (λ (x y : List ℕ). x ++ y) (end_line-refused told f.name (doc format f.bytes.items) c code k each.0) (end_lines-same format told limit (k + 1) fs ends each.1 none)
end_lines-same format told limit k (f ∷ fs) (Stopped c done cause ∷ ends) each none = absurd cc
end_lines-same format told limit k (f ∷ fs) (NotStarted ∷ ends) each none = absurd cc
