-- That one more span leaves the closed spans what they must be, and what holds of each of them.
use Rattle.std.proofs.{Common.{◌≡◌, ℕ, zero, suc, ◌+◌, ◌<◌, ◌≢◌, ◌^◌, ◌≤ℤ◌, List, [], ◌∷◌, ◌++◌, length, take, get_or, sym, ap, ◌∙◌, subst, arith, All, append_assoc, append-nil, length-append}, Math.Seq.{get_or-append_seam, take-append_seam}, lemmas.{Int.ints, Grind.common_steps, List.Elements.{All-push, All-head, All-tail, All-nil, All-cons}}}
use Rattle.span_self_time.specs.{Closed.{CanJoin, IsInTime, AreClosed}, Laws.{IsApart, AreSpans}, Spans.Span}

IsApart-append : (at : ℕ) (spans : List (Span ℕ)) (s : Span ℕ) → IsApart at spans → s.at ≢ at → IsApart at (spans ++ s ∷ [])
IsApart-append at [] s apart differs = (differs, tt)
IsApart-append at (x ∷ spans) s apart differs = (apart.0, IsApart-append at spans s apart.1 differs)

-- one more span at another position
pub AreSpans-append : (spans : List (Span ℕ)) (s : Span ℕ) → AreSpans spans → All (λ x. x.at ≢ s.at) spans → s.start ≤ℤ s.until → AreSpans (spans ++ s ∷ [])
AreSpans-append [] s are apart lasts = (lasts, tt, tt)
AreSpans-append (x ∷ spans) s are apart lasts =
    let here = All-head (λ (y : Span ℕ). y.at ≢ s.at) x spans apart in
    let later = All-tail (λ (y : Span ℕ). y.at ≢ s.at) x spans apart in
    (are.0, IsApart-append x.at spans s are.1 (λ same. here (sym same)), AreSpans-append spans s are.2 later lasts)

pub AreClosed-append : (spans : List (Span ℕ)) (s : Span ℕ) → AreClosed spans → length spans + 1 < 2 ^ 32 → s.start ≤ℤ s.until → IsInTime s → All (λ x. x.at ≢ s.at) spans → AreClosed (spans ++ s ∷ [])
AreClosed-append spans s closed few lasts in_time apart = grind (arith, ints, common_steps, AreSpans-append)

pub All-apart : (at : ℕ) (spans : List (Span ℕ)) → IsApart at spans → All (λ s. s.at ≢ at) spans
All-apart at [] apart = All-nil (λ (s : Span ℕ). s.at ≢ at)
All-apart at (s ∷ spans) apart = All-cons (λ (s : Span ℕ). s.at ≢ at) s spans apart.0 (All-apart at spans apart.1)

pub All-lasts : {N : Type 0} (spans : List (Span N)) → AreSpans spans → All (λ s. s.start ≤ℤ s.until) spans
All-lasts {N} [] are = All-nil (λ (s : Span N). s.start ≤ℤ s.until)
All-lasts {N} (s ∷ spans) are = All-cons (λ (s : Span N). s.start ≤ℤ s.until) s spans are.0 (All-lasts spans are.2)

-- the positions before the i-th are not its own
pub IsApart-read : (spans : List (Span ℕ)) (i : ℕ) (s : Span ℕ) → AreSpans spans → i < length spans → s ≡ get_or spans i s → All (λ x. x.at ≢ s.at) (take i spans)
IsApart-read [] i s are within read = absurd (omega (arith, within))
IsApart-read (x ∷ spans) zero s are within read = All-nil (λ (y : Span ℕ). y.at ≢ s.at)
IsApart-read (x ∷ spans) (suc i) s are within read =
    let later : i < length spans = omega (arith, within) in
    let rest = IsApart-read spans i s are.2 later read in
    let apart = All-apart x.at spans are.1 i s later in
    All-cons (λ (y : Span ℕ). y.at ≢ s.at) x (take i spans) (λ same. apart (ap (λ (y : Span ℕ). y.at) (sym read) ∙ sym same)) rest

-- what one more span needs
pub record CanFollow (spans : List (Span ℕ)) (s : Span ℕ) : Type 0 where
  pub few : length spans + 1 < 2 ^ 32
  pub forward : s.start ≤ℤ s.until
  pub in_time : IsInTime s
  pub apart : All (λ x. x.at ≢ s.at) spans

-- each of closed spans could be added to those before it
pub AreClosed-next : (spans : List (Span ℕ)) (s : Span ℕ) (more : List (Span ℕ)) → AreClosed (spans ++ s ∷ more) → CanFollow spans s
AreClosed-next spans s more closed =
    let all = spans ++ s ∷ more in
    let within : length spans < length all = omega (arith, length-append spans (s ∷ more)) in
    let here : get_or all (length spans) s ≡ s = get_or-append_seam spans s more s in
    let apart = IsApart-read all (length spans) s closed.are within (sym here) in
    record {
      few = omega (arith, closed.few, length-append spans (s ∷ more));
      forward = subst (λ (x : Span ℕ). x.start ≤ℤ x.until) here (All-lasts all closed.are (length spans) s within);
      in_time = subst IsInTime here (closed.in_time (length spans) s within);
      apart = subst (λ (l : List (Span ℕ)). All (λ x. x.at ≢ s.at) l) (take-append_seam spans (s ∷ more)) apart;
    }

-- spans that can be added to closed ones are closed with them
pub AreClosed-join : (spans more : List (Span ℕ)) → AreClosed spans → CanJoin spans more → AreClosed (spans ++ more)
AreClosed-join spans [] closed can = rw (append-nil spans) closed
AreClosed-join spans (s ∷ more) closed can =
    let apart = All-head (λ (y : Span ℕ). All (λ x. x.at ≢ y.at) spans) s more can.apart in
    let rest = All-tail (λ (y : Span ℕ). All (λ x. x.at ≢ y.at) spans) s more can.apart in
    let with_it = AreClosed-append spans s closed (omega (arith, can.few)) can.are.0 (All-head IsInTime s more can.in_time) apart in
    subst (λ (l : List (Span ℕ)). AreClosed l) (append_assoc spans (s ∷ []) more) (AreClosed-join (spans ++ s ∷ []) more with_it (record {
      are = can.are.2;
      in_time = All-tail IsInTime s more can.in_time;
      apart = λ k d within. All-push (λ (x : Span ℕ). x.at ≢ (get_or more k d).at) spans s (rest k d within) (λ same. All-apart s.at more can.are.1 k d within (sym same));
      few = omega (arith, can.few, length-append spans (s ∷ []));
    }))
