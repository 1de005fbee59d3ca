-- That the ranking of spans with different positions is a strict order.
use Rattle.std.specs.Bool.{Decides}
use Rattle.std.proofs.{Common.{◌≡◌, ◌<◌, true, false, ◌||◌, ℤ, ◌<ℤ◌, int_lt, ◌≢◌, List, [], ◌∷◌, sym, ◌∙◌, arith, inl, inr, ◌⊎◌}, lemmas.{Grind.common_steps, Bool.Decides.{nat_tests}, Int.ints}}
use Rattle.span_self_time.specs.{Laws.{IsApart, AreSpans}, Spans.{Span, outranks}}
use Rattle.span_self_time.proofs.Tops.{IsConnected, IsRanked}

pub Decides-int_lt : (a b : ℤ) → Decides (int_lt a b) (a <ℤ b)
Decides-int_lt a b = (λ h. grind (arith, ints), λ h. grind (arith, ints))

module _ {N : Type 0} where
  pub outranks-itself : (a : Span N) → outranks a a ≡ false
  outranks-itself a = grind (arith, ints, nat_tests)

  -- what `outranks` tests
  abbrev pub IsAbove : Span N → Span N → Type 0
  IsAbove a b = (b.start <ℤ a.start) ⊎ ((a.start ≡ b.start) × ((a.until <ℤ b.until) ⊎ ((a.until ≡ b.until) × (b.at < a.at))))

  pub Decides-outranks : (a b : Span N) → Decides (outranks a b) (IsAbove a b)
  Decides-outranks a b = grind (arith, ints, common_steps)

  IsAbove-trans : (a b c : Span N) → IsAbove a b → IsAbove b c → IsAbove a c
  IsAbove-trans a b c (inl h) (inl k) = inl (omega (arith, ints))
  IsAbove-trans a b c (inl h) (inr k) = inl (omega (arith, ints, k.0))
  IsAbove-trans a b c (inr h) (inl k) = inl (omega (arith, ints, h.0))
  IsAbove-trans a b c (inr (h, inl m)) (inr (k, inl n)) = inr (h ∙ k, inl (omega (arith, ints)))
  IsAbove-trans a b c (inr (h, inl m)) (inr (k, inr n)) = inr (h ∙ k, inl (omega (arith, ints, n.0)))
  IsAbove-trans a b c (inr (h, inr m)) (inr (k, inl n)) = inr (h ∙ k, inl (omega (arith, ints, m.0)))
  IsAbove-trans a b c (inr (h, inr m)) (inr (k, inr n)) = inr (h ∙ k, inr (m.0 ∙ n.0, omega (arith, m.1, n.1)))

  pub outranks-trans : (a b c : Span N) → outranks a b ≡ true → outranks b c ≡ true → outranks a c ≡ true
  outranks-trans a b c h k =
      (Decides-outranks a c).1 (IsAbove-trans a b c ((Decides-outranks a b).0 h) ((Decides-outranks b c).0 k))

  pub outranks-either : (a b : Span N) → a.at ≢ b.at → (outranks a b || outranks b a) ≡ true
  outranks-either a b h = grind (arith, ints, nat_tests)

  IsConnected-apart : (a : Span N) (spans : List (Span N)) → IsApart a.at spans → IsConnected outranks a spans
  IsConnected-apart a [] apart = tt
  IsConnected-apart a (s ∷ spans) apart =
      (outranks-either a s (λ same. apart.0 (sym same)), IsConnected-apart a spans apart.1)

  pub IsRanked-spans : (spans : List (Span N)) → AreSpans spans → IsRanked outranks spans
  IsRanked-spans [] are = tt
  IsRanked-spans (s ∷ spans) are = (IsConnected-apart s spans are.1, IsRanked-spans spans are.2)
