-- The end of all open spans.
use Rattle.std.proofs.{Common.{◌≡◌, ℕ, ◌<◌, ◌≢◌, ℤ, ◌≤ℤ◌, List, [], ◌∷◌, ◌++◌, length, map, reverse, false, sym, ap, subst, ◌∙◌, arith, All}, lemmas.List.{map-append, reverse-append, length-map, length-reverse, Elements.{All-nil, All-cons, All-head, All-tail, All-append, All-weaker}}}
use Rattle.span_self_time.proofs.Apart.{AreSpans-append}
use Rattle.span_track.specs.{least_time, IsInTime, CanJoin, AreSpans, Span, Kept.{IsSound, IsUpTo, AreRising}, Nesting.{Begin, span_sealed}, Thread.{ThreadSpans, IsSealTime, goes_back}}
use Rattle.span_track.proofs.Threads.Sound.{IsUpTo-later}

-- what holds of each holds of each in reverse
All-reverse : {A : Type 0} (P : A → Type 0) (xs : List A) → All P xs → All P (reverse xs)
All-reverse P [] all = all
All-reverse P (x ∷ xs) all =
    subst (All P) (sym (reverse-append (x ∷ []) xs)) (All-append P (reverse xs) (x ∷ []) (All-reverse P xs (All-tail P x xs all)) (All-cons P x [] (All-head P x xs all) (All-nil P)))

-- what holds of what a function gives of each, holds of the list of it
All-map : {A B : Type 0} (f : A → B) (P : A → Type 0) (Q : B → Type 0) → ((a : A) → P a → Q (f a)) → (xs : List A) → All P xs → All Q (map f xs)
All-map f P Q gives [] all = All-nil Q
All-map f P Q gives (x ∷ xs) all = All-cons Q (f x) (map f xs) (gives x (All-head P x xs all)) (All-map f P Q gives xs (All-tail P x xs all))

module _ {N : Type 0} (ts : ℤ) where
  -- the spans of these begins that a seal closes, the last first
  abbrev pub sealed_spans : List (Begin N) → List (Span N)
  sealed_spans opened = map (λ b. span_sealed b ts) (reverse opened)

  -- what holds of the begins holds of the spans
  pub All-sealed_spans : (P : Begin N → Type 0) (Q : Span N → Type 0) → ((b : Begin N) → P b → Q (span_sealed b ts)) → (opened : List (Begin N)) → All P opened → All Q (sealed_spans opened)
  All-sealed_spans P Q gives opened all = All-map (λ b. span_sealed b ts) P Q gives (reverse opened) (All-reverse P opened all)

  -- there are as many as begins
  pub length-sealed_spans : (opened : List (Begin N)) → length (sealed_spans opened) ≡ length opened
  length-sealed_spans opened = length-map (reverse opened) (λ b. span_sealed b ts) ∙ length-reverse opened

  sealed_spans-cons : (b : Begin N) (opened : List (Begin N)) → sealed_spans (b ∷ opened) ≡ sealed_spans opened ++ span_sealed b ts ∷ []
  sealed_spans-cons b opened = ap (map (λ b. span_sealed b ts)) (reverse-append (b ∷ []) opened) ∙ map-append (λ b. span_sealed b ts) (reverse opened) (b ∷ [])

-- begins of rising positions, none of which is later than the seal, give spans
AreSpans-sealed_spans : (ts : ℤ) (opened : List (Begin ℕ)) → AreRising opened → All (λ b. b.ts ≤ℤ ts) opened → AreSpans (sealed_spans ts opened)
AreSpans-sealed_spans ts [] rising up_to = tt
AreSpans-sealed_spans ts (b ∷ opened) rising up_to =
    subst (λ (l : List (Span ℕ)). AreSpans l) (sym (sealed_spans-cons ts b opened))
    (AreSpans-append (sealed_spans ts opened) (span_sealed b ts)
    (AreSpans-sealed_spans ts opened rising.1 (All-tail (λ (c : Begin ℕ). c.ts ≤ℤ ts) b opened up_to))
    (All-sealed_spans ts (λ (c : Begin ℕ). b.at < c.at) (λ (s : Span ℕ). s.at ≢ b.at) (λ c above same. omega (arith, above, same)) opened rising.0)
    (All-head (λ (c : Begin ℕ). c.ts ≤ℤ ts) b opened up_to))

-- a seal that is not too early can close all open spans of a sound track
pub CanJoin-sealed_spans : (t : ThreadSpans ℕ) (ts : ℤ) → IsSound t → goes_back ts t.last ≡ false → IsSealTime ts → CanJoin t.closed (sealed_spans ts t.opened)
CanJoin-sealed_spans t ts sound later in_time = record {
  are = AreSpans-sealed_spans ts t.opened sound.rising (All-weaker (λ (b : Begin ℕ). IsUpTo b.ts t.last) (λ (b : Begin ℕ). b.ts ≤ℤ ts) (λ b h. IsUpTo-later b.ts ts t.last h later) t.opened sound.up_to);
  in_time = All-sealed_spans ts (λ (b : Begin ℕ). least_time ≤ℤ b.ts) IsInTime (λ b from. (from, in_time.1)) t.opened sound.from;
  apart = All-sealed_spans ts (λ (b : Begin ℕ). All (λ (s : Span ℕ). s.at ≢ b.at) t.closed) (λ (x : Span ℕ). All (λ (s : Span ℕ). s.at ≢ x.at) t.closed) (λ b apart. apart) t.opened sound.apart;
  few = omega (arith, sound.few, length-sealed_spans ts t.opened);
}
