-- What the whole text is, mark by mark.
use Rattle.std.proofs.{Common.{◌≡◌, ℕ, zero, suc, ◌-◌, ◌<◌, ◌≤◌, inl, inr, List, [], ◌∷◌, ◌++◌, codes, length, take, get_or, refl, sym, ap, ap₂, ◌∙◌, subst, arith, append_assoc, add-one, length-append}, lemmas.{Bool.cases_lt, List.{get_or_append_left, get_or_push, length_push, length-take-le, take-append-le, take-take, take_at}}}
use Rattle.template_names.specs.{Marks.Bytes, Merged.written, Writing.{AreOpened, IsReady, Writes, closed_by, least, place_before, whole, without_one}, declared.{marks.Mark.{Mark, TheVariants.{Open, Close, Other}}, merging.Writer.Writer}}
use Rattle.template_names.proofs.MarkLemmas.{written-matched, written-unmatched}

least_le : (m n : ℕ) → least m n ≤ n
least_le zero n = omega arith
least_le (suc m) zero = omega arith
least_le (suc m) (suc n) = omega (arith, least_le m n)

least-zero : (m : ℕ) → least m zero ≡ zero
least-zero zero = refl
least-zero (suc m) = refl

pub whole-start : (marks : List Mark) → whole [] [] (least (closed_by marks) 0) marks ≡ written 0 marks
whole-start marks = ap (λ n. whole [] [] n marks) (least-zero (closed_by marks))

pub AreOpened-nil : AreOpened [] []
AreOpened-nil = record { within = λ i few. absurd (omega arith); rise = λ i j le few. absurd (omega arith) }

-- a byte behind the text doesn't change what is before a place in it
take-place : (text : Bytes) (opened : List ℕ) (byte n : ℕ) → AreOpened text opened → n < length opened → take (place_before opened n) (text ++ byte ∷ []) ≡ take (place_before opened n) text
take-place text opened byte n are few =
    take-append-le (place_before opened n) text (byte ∷ []) (are.within (length opened - suc n) (omega arith))

place_before-last : (opened : List ℕ) (place : ℕ) → place_before (opened ++ place ∷ []) 0 ≡ place
place_before-last opened place =
    ap (λ i. get_or (opened ++ place ∷ []) i 0) (omega (arith, length_push opened place)) ∙ get_or_push opened place 0 (length opened) refl

place_before-push : (opened : List ℕ) (place n : ℕ) → n < length opened → place_before (opened ++ place ∷ []) (suc n) ≡ place_before opened n
place_before-push opened place n few =
    ap (λ i. get_or (opened ++ place ∷ []) i 0) (omega (arith, length_push opened place)) ∙ get_or_append_left opened (place ∷ []) 0 (length opened - suc n) (omega arith)

module _ (text : Bytes) (opened : List ℕ) (marks : List Mark) (are : AreOpened text opened) where
  -- a byte that neither opens nor closes
  pub whole-other : (byte n : ℕ) → n ≤ length opened → whole (text ++ byte ∷ []) opened n marks ≡ whole text opened n (Other byte ∷ marks)
  whole-other byte zero few = append_assoc text (byte ∷ []) (written 0 marks)
  whole-other byte (suc n) few = ap (λ front. front ++ (codes "<$>" ++ written (suc n) marks)) (take-place text opened byte n are (omega arith))

  -- one more is open, and stays open
  unmatched : closed_by marks ≡ 0 → whole (text ++ 60 ∷ []) (opened ++ length text ∷ []) 0 marks ≡ whole text opened 0 (Open ∷ marks)
  unmatched none = append_assoc text (60 ∷ []) (written 0 marks) ∙ ap (λ rest. text ++ rest) (sym (written-unmatched marks none))

  -- and is closed, as the n before it are
  matched : (m n : ℕ) → closed_by marks ≡ suc m → n ≤ length opened → whole (text ++ 60 ∷ []) (opened ++ length text ∷ []) (suc n) marks ≡ whole text opened n (Open ∷ marks)
  matched m zero some few =
      ap₂ ◌++◌ (ap (λ place. take place (text ++ 60 ∷ [])) (place_before-last opened (length text)) ∙ take_at text (60 ∷ []) (length text) refl) (sym (written-matched marks m some))
  matched m (suc n) some few =
      ap (λ front. front ++ (codes "<$>" ++ written (suc (suc n)) marks))
      (ap (λ place. take place (text ++ 60 ∷ [])) (place_before-push opened (length text) n (omega arith)) ∙ take-place text opened 60 n are (omega arith))

  by_closed : (m : ℕ) → closed_by marks ≡ m → whole (text ++ 60 ∷ []) (opened ++ length text ∷ []) (least m (suc (length opened))) marks ≡ whole text opened (least (without_one m) (length opened)) (Open ∷ marks)
  by_closed zero none = unmatched none
  by_closed (suc m) some = matched m (least m (length opened)) some (least_le m (length opened))

  pub whole-open : whole (text ++ 60 ∷ []) (opened ++ length text ∷ []) (least (closed_by marks) (length (opened ++ length text ∷ []))) marks ≡ whole text opened (least (closed_by (Open ∷ marks)) (length opened)) (Open ∷ marks)
  whole-open =
      ap (λ n. whole (text ++ 60 ∷ []) (opened ++ length text ∷ []) (least (closed_by marks) n) marks) (length_push opened (length text) ∙ add-one (length opened))
      ∙ by_closed (closed_by marks) refl

-- nothing is open
pub whole-close_none : (text : Bytes) (marks : List Mark) → whole (text ++ 62 ∷ []) [] (least (closed_by marks) 0) marks ≡ whole text [] 0 (Close ∷ marks)
whole-close_none text marks =
    ap (λ n. whole (text ++ 62 ∷ []) [] n marks) (least-zero (closed_by marks)) ∙ append_assoc text (62 ∷ []) (written 0 marks)

module _ (text : Bytes) (opened : List ℕ) (are : AreOpened text opened) where
  pushed_within : (i : ℕ) → i < length (opened ++ length text ∷ []) → get_or (opened ++ length text ∷ []) i 0 ≤ length text
  pushed_within i few =
      elim (cases_lt i (length opened)) [
        | inl before ↦ omega (arith, get_or_append_left opened (length text ∷ []) 0 i before, are.within i before)
        | inr last ↦ omega (arith, get_or_push opened (length text) 0 i (omega (arith, length_push opened (length text))))
      ]

  pushed_rise : (i j : ℕ) → i ≤ j → j < length (opened ++ length text ∷ []) → get_or (opened ++ length text ∷ []) i 0 ≤ get_or (opened ++ length text ∷ []) j 0
  pushed_rise i j le few =
      elim (cases_lt j (length opened)) [
        | inl before ↦
            omega (arith, get_or_append_left opened (length text ∷ []) 0 i (omega arith), get_or_append_left opened (length text ∷ []) 0 j before, are.rise i j le before)
        | inr last ↦ omega (arith, get_or_push opened (length text) 0 j (omega (arith, length_push opened (length text))), pushed_within i (omega arith))
      ]

  pub AreOpened-push : AreOpened text (opened ++ length text ∷ [])
  AreOpened-push = record { within = pushed_within; rise = pushed_rise }

  pub AreOpened-byte : (byte : ℕ) → AreOpened (text ++ byte ∷ []) opened
  AreOpened-byte byte = record { within = λ i few. omega (arith, are.within i few, length_push text byte); rise = are.rise }

module _ (text : Bytes) (opened : List ℕ) (place : ℕ) (are : AreOpened text (opened ++ place ∷ [])) where
  last_within : place ≤ length text
  last_within = subst (λ n. n ≤ length text) (get_or_push opened place 0 (length opened) refl) (are.within (length opened) (omega (arith, length_push opened place)))

  before_last : (i : ℕ) → i < length opened → get_or opened i 0 ≤ place
  before_last i few =
      let here = get_or_append_left opened (place ∷ []) 0 i few in
      let last = get_or_push opened place 0 (length opened) refl in
      omega (arith, here, last, are.rise i (length opened) (omega arith) (omega (arith, length_push opened place)))

  pub AreOpened-take : AreOpened (take place text) opened
  AreOpened-take = record {
    within = λ i few. omega (arith, before_last i few, length-take-le place text last_within);
    rise = λ i j le few. omega (arith, are.rise i j le (omega (arith, length_push opened place)), get_or_append_left opened (place ∷ []) 0 i (omega arith), get_or_append_left opened (place ∷ []) 0 j few);
  }

  pub AreOpened-close : AreOpened (take place text ++ codes "<$>") opened
  AreOpened-close = record {
    within = λ i few. omega (arith, AreOpened-take.within i few, length-append (take place text) (codes "<$>"));
    rise = AreOpened-take.rise;
  }

  by_number : (marks : List Mark) (n : ℕ) → n ≤ length opened → whole (take place text ++ codes "<$>") opened n marks ≡ whole text (opened ++ place ∷ []) (suc n) (Close ∷ marks)
  by_number marks zero few =
      append_assoc (take place text) (codes "<$>") (written 0 marks)
      ∙ ap (λ p. take p text ++ (codes "<$>" ++ written 0 marks)) (sym (place_before-last opened place))
  by_number marks (suc n) few =
      let q = place_before opened n in
      let before : q ≤ place = before_last (length opened - suc n) (omega arith) in
      ap (λ front. front ++ (codes "<$>" ++ written (suc n) marks))
      (take-append-le q (take place text) (codes "<$>") (omega (arith, length-take-le place text last_within)) ∙ take-take q place text before
      ∙ ap (λ p. take p text) (sym (place_before-push opened place n (omega arith))))

  pub whole-close : (marks : List Mark) → whole (take place text ++ codes "<$>") opened (least (closed_by marks) (length opened)) marks ≡ whole text (opened ++ place ∷ []) (least (closed_by (Close ∷ marks)) (length (opened ++ place ∷ []))) (Close ∷ marks)
  whole-close marks =
      by_number marks (least (closed_by marks) (length opened)) (least_le (closed_by marks) (length opened))
      ∙ ap (λ n. whole text (opened ++ place ∷ []) (least (suc (closed_by marks)) n) (Close ∷ marks)) (sym (length_push opened place ∙ add-one (length opened)))

-- what the writer keeps, by what is written and what is open

abbrev pub outcome_of : Bytes → List ℕ → List Mark → Bytes
outcome_of text opened marks = whole text opened (least (closed_by marks) (length opened)) marks

pub Writes-open : (old new : Writer) → IsReady old → new.written.items ≡ old.written.items ++ 60 ∷ [] → new.opened.items ≡ old.opened.items ++ length old.written.items ∷ [] → Writes old new Open
Writes-open old new ready text opened =
    let was = old.written.items in
    let before = old.opened.items in
    record {
      ready = subst (λ t. AreOpened t new.opened.items) (sym text) (subst (AreOpened (was ++ 60 ∷ [])) (sym opened) (AreOpened-byte was (before ++ length was ∷ []) (AreOpened-push was before ready) 60));
      same = λ marks. ap₂ (λ t o. outcome_of t o marks) text opened ∙ whole-open was before marks ready;
    }

pub Writes-close : (old new : Writer) (place : ℕ) → IsReady old → old.opened.items ≡ new.opened.items ++ place ∷ [] → new.written.items ≡ take place old.written.items ++ codes "<$>" → Writes old new Close
Writes-close old new place ready opened text =
    let was = old.written.items in
    let left = new.opened.items in
    let are : AreOpened was (left ++ place ∷ []) = subst (AreOpened was) opened ready in
    record {
      ready = subst (λ t. AreOpened t left) (sym text) (AreOpened-close was left place are);
      same = λ marks. ap (λ t. outcome_of t left marks) text ∙ whole-close was left place are marks ∙ ap (λ o. outcome_of was o (Close ∷ marks)) (sym opened);
    }
