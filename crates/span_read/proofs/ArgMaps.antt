-- Where a pair is put among pairs in the order of their names.
use Rattle.std.specs.BTreeMap.{insert_entry}
use Rattle.std.proofs.{Common.{◌≡◌, ℕ, ◌+◌, List, [], ◌∷◌, ◌++◌, length, set, Equal, Greater, append_assoc, length-append, refl, sym, ap, ◌∙◌, arith}, Math.Seq.set-append_seam}
use Rattle.span_event.proofs.Merged.{same_name}
use Rattle.span_read.specs.{ArgValue, IsBelowAll, IsInNameOrder, text_cmp}

abbrev pub Pair : Type 0
Pair = List ℕ × ArgValue

-- so many pairs come before the name, which has its place among the rest
pub record IsPassed (pairs : List Pair) (name : List ℕ) (place : ℕ) (rest : List Pair) : Type 0 where
  pub before : List Pair
  pub parts : before ++ rest ≡ pairs
  pub count : length before ≡ place
  pub put : (value : ArgValue) → insert_entry text_cmp pairs name value ≡ before ++ insert_entry text_cmp rest name value

module _ (pairs : List Pair) (name : List ℕ) (place : ℕ) (rest : List Pair) (is : IsPassed pairs name place rest) where
  pub IsPassed-next : (p : Pair) (later : List Pair) → rest ≡ p ∷ later → text_cmp name p.0 ≡ Greater → IsPassed pairs name (place + 1) later
  IsPassed-next p later first above = record {
    before = is.before ++ p ∷ [];
    parts = append_assoc is.before (p ∷ []) later ∙ ap (λ r. is.before ++ r) (sym first) ∙ is.parts;
    count = omega (arith, is.count, length-append is.before (p ∷ []));
    put = λ value.
        let next : insert_entry text_cmp rest name value ≡ p ∷ insert_entry text_cmp later name value = rw (first, above) refl in
        is.put value ∙ ap (λ r. is.before ++ r) next ∙ sym (append_assoc is.before (p ∷ []) (insert_entry text_cmp later name value));
  }

  pub held-IsPassed : (p : Pair) (later : List Pair) → rest ≡ p ∷ later → text_cmp name p.0 ≡ Equal → (value : ArgValue) → insert_entry text_cmp pairs name value ≡ set pairs place (name, value)
  held-IsPassed p later first same value =
      let here : insert_entry text_cmp rest name value ≡ (name, value) ∷ later = rw (first, same, same_name name p.0 same) refl in
      is.put value ∙ ap (λ r. is.before ++ r) here ∙ sym (set-append_seam is.before p later (name, value))
      ∙ ap (λ i. set (is.before ++ p ∷ later) i (name, value)) is.count ∙ ap (λ ps. set ps place (name, value)) (ap (λ r. is.before ++ r) (sym first) ∙ is.parts)

-- in order, each pair is below those behind it
pub IsBelowAll-behind : (before : List Pair) (p : Pair) (behind : List Pair) → IsInNameOrder (before ++ p ∷ behind) → IsBelowAll p.0 behind
IsBelowAll-behind [] p behind sorted = sorted.0
IsBelowAll-behind (q ∷ before) p behind sorted = IsBelowAll-behind before p behind sorted.1
