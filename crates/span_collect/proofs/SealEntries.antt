-- The seals that are told, from one to the next.
use Rattle.std.proofs.{Common.{◌≡◌, Bool, ℕ, List, [], ◌∷◌, ◌++◌, map, refl, ap, ◌∙◌}, lemmas.List.map-append}
use Rattle.span_collect.specs.{Entry, Op, journal_after, next_entry, Seals.with_seals}

-- one more call is the last entry
pub journal_after-push : (strict : Bool) (journal : List Entry) (calls : List (ℕ × Op)) (caller : ℕ) (op : Op) → journal_after strict journal (calls ++ (caller, op) ∷ []) ≡ journal_after strict journal calls ++ next_entry strict (journal_after strict journal calls) caller op ∷ []
journal_after-push strict journal [] caller op = refl
journal_after-push strict journal ((c, o) ∷ calls) caller op = journal_after-push strict (journal ++ next_entry strict journal c o ∷ []) calls caller op

-- one more seal is the last entry
pub with_seals-push : (strict : Bool) (journal : List Entry) (seals : List Op) (seal : Op) → with_seals strict journal (seals ++ seal ∷ []) ≡ with_seals strict journal seals ++ next_entry strict (with_seals strict journal seals) 0 seal ∷ []
with_seals-push strict journal seals seal =
    ap (journal_after strict journal) (map-append (λ (op : Op). (0, op)) seals (seal ∷ [])) ∙ journal_after-push strict journal (map (λ (op : Op). (0, op)) seals) 0 seal
