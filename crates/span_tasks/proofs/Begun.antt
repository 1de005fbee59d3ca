-- What is read of a name where a byte is wanted first.
use Rattle.std.specs.Io.KnownBytes.{Consumes}
use Rattle.std.proofs.{Common.{◌≡◌, ◌≢◌, ◌⊎◌, ℕ, zero, suc, ◌+◌, ◌<◌, ◌≤◌, List, [], ◌∷◌, ◌++◌, length, take, Option, Some, None, inl, inr, refl, sym, ap, ◌∙◌, append_assoc, arith, length-take-le, take_at}, lemmas.{Bool.cases_lt, List.take_all}}
use Rattle.span_parts.proofs.Whole.{IsNoPart-other}
use Rattle.span_tasks.specs.{Bytes, AreBegun, AreFirst, BeginOtherwise, IsNoPart, Name, NotTableFault, SourceBytes, fault_line, number_of, printed, Added.{IsNoTable, most_added}}

-- what some reads brought is the first of what there was
pub AreFirst-brought : (before mid after : Option (List ℕ)) (bytes more all : List ℕ) → Consumes before mid bytes → Consumes mid after more → all ≡ bytes ++ more → AreFirst (length all) before all
AreFirst-brought None mid after bytes more all one other is = tt
AreFirst-brought (Some xs) None after bytes more all one other is = absurd one
AreFirst-brought (Some xs) (Some ys) None bytes more all one other is = absurd other
AreFirst-brought (Some xs) (Some ys) (Some zs) bytes more all one other is =
    let whole : xs ≡ all ++ zs = one ∙ ap (λ l. bytes ++ l) other ∙ sym (append_assoc bytes more zs) ∙ ap (λ l. l ++ zs) (sym is) in
    sym (ap (take (length all)) whole ∙ take_at all zs (length all) refl)

-- what begins otherwise is no table, whether it is one byte too long or not
module _ (most : ℕ) (some : 0 < most) where
  otherwise : (known : Option Bytes) (n : ℕ) (text : Bytes) → AreFirst n known text → BeginOtherwise (Some 123) text →
      ((all : Bytes) × AreFirst (most + 1) known all × (most < length all)) ⊎ ((all : Bytes) × AreFirst (most + 1) known all × (length all ≤ most) × IsNoPart all)
  otherwise known n [] first other = absurd other
  otherwise None n (byte ∷ bytes) first other = inr (byte ∷ [], tt, omega (arith, some), IsNoPart-other byte [] other)
  otherwise (Some []) zero (byte ∷ bytes) first other = absurd (omega (arith, ap length first))
  otherwise (Some []) (suc n) (byte ∷ bytes) first other = absurd (omega (arith, ap length first))
  otherwise (Some (b ∷ all)) zero (byte ∷ bytes) first other = absurd (omega (arith, ap length first))
  otherwise (Some (b ∷ all)) (suc n) (byte ∷ bytes) first other =
      let none : IsNoPart (b ∷ all) = IsNoPart-other b all (λ is. other (ap (head 123) first ∙ is)) in
      elim (cases_lt most (length (b ∷ all))) [
        | inl many ↦ inl (take (most + 1) (b ∷ all), refl, omega (arith, length-take-le (most + 1) (b ∷ all) (omega (arith, many)), many))
        | inr few ↦ inr (b ∷ all, sym (take_all (most + 1) (b ∷ all) (omega (arith, few))), few, none)
      ]
    where
      head : ℕ → Bytes → ℕ
      head none [] = none
      head none (byte ∷ bytes) = byte

module _ (source : SourceBytes) (name : Name) (text lines : Bytes) (read : AreBegun (Some 123) (most_added + 1) (source name) text) (said : lines ≡ fault_line (printed name) (number_of NotTableFault)) where
  -- it is no table, however much of it was read
  pub IsNoTable-otherwise : BeginOtherwise (Some 123) text → IsNoTable source name lines
  IsNoTable-otherwise other = elim read [
    | inl first ↦ none (most_added + 1) first
    | inr fewer ↦ none fewer.0 fewer.1
  ]
    where
      none : (n : ℕ) → AreFirst n (source name) text → IsNoTable source name lines
      none n first = elim (otherwise most_added (omega arith) (source name) n text first other) [
        | inl long ↦ inr (inl (long.0, long.1, long.2, said))
        | inr whole ↦ inr (inr (whole.0, record { read = whole.1; within = whole.2 }, whole.3, said))
      ]

  -- nor where it is too long
  pub IsNoTable-long : most_added < length text → IsNoTable source name lines
  IsNoTable-long long = elim read [
    | inl first ↦ inr (inl (text, first, long, said))
    | inr fewer ↦ IsNoTable-otherwise fewer.2
  ]
