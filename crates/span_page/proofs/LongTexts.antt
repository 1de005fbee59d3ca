-- Texts that are too long, as parts of others.
use Rattle.std.specs.Prelude.{codes, IfErr, Result, Err}
use Rattle.std.proofs.Common.{◌≡◌, ℕ, zero, suc, ◌+◌, ◌≤◌, Bool, true, false, cond, List, [], ◌∷◌, ◌++◌, length, nat_eq, refl, sym, subst, append_assoc, length-append, arith}
use Rattle.span_page.specs.{Bounds.IsTooLong, Safe.{begins_line, begins_paragraph, safe, safe_after, safe_byte}, declared.fault.PageFault.PageFault}

-- with more behind it
pub long-append : (text more : List ℕ) → IsTooLong text → IsTooLong (text ++ more)
long-append text more long = omega (arith, long, length-append text more)

pub long-appends : (text a b c d : List ℕ) → IsTooLong text → IsTooLong ((((text ++ a) ++ b) ++ c) ++ d)
long-appends text a b c d long = long-append (((text ++ a) ++ b) ++ c) d (long-append ((text ++ a) ++ b) c (long-append (text ++ a) b (long-append text a long)))

-- behind another
pub long-behind : (before text : List ℕ) → IsTooLong text → IsTooLong (before ++ text)
long-behind before text long = omega (arith, long, length-append before text)

-- as the beginning of another
pub long-beginning : (text more all : List ℕ) → text ++ more ≡ all → IsTooLong text → IsTooLong all
long-beginning text more all is long = subst IsTooLong is (long-append text more long)

-- something stands for each byte
safe_byte-some : (byte : ℕ) → 1 ≤ length (safe_byte byte)
unfolding safe_byte
safe_byte-some byte = by (nat_eq byte 60) (nat_eq byte 62) (nat_eq byte 38)
  where
    by : (less greater ampersand : Bool) → 1 ≤ length (cond less (codes "\\u003c") (cond greater (codes "\\u003e") (cond ampersand (codes "\\u0026") (byte ∷ []))))
    by true greater ampersand = omega arith
    by false true ampersand = omega arith
    by false false true = omega arith
    by false false false = omega arith

-- so a text with escapes is no shorter
safe_after-longer : (n : ℕ) (text : List ℕ) → length text ≤ n + length (safe_after n text)
safe_after-longer n [] = omega arith
safe_after-longer (suc n) (byte ∷ text) = omega (arith, safe_after-longer n text)
safe_after-longer zero (byte ∷ text) = by (begins_line (byte ∷ text)) (begins_paragraph (byte ∷ text)) (safe_after-longer 2 text) (safe_after-longer 0 text)
  where
    by : (line paragraph : Bool) → length text ≤ 2 + length (safe_after 2 text) → length text ≤ 0 + length (safe_after 0 text) →
        length (byte ∷ text) ≤ 0 + length (cond line (codes "\\u2028" ++ safe_after 2 text) (cond paragraph (codes "\\u2029" ++ safe_after 2 text) (safe_byte byte ++ safe_after 0 text)))
    by true paragraph later next = omega (arith, later, length-append (codes "\\u2028") (safe_after 2 text))
    by false true later next = omega (arith, later, length-append (codes "\\u2029") (safe_after 2 text))
    by false false later next = omega (arith, next, safe_byte-some byte, length-append (safe_byte byte) (safe_after 0 text))

pub safe-long : (text : List ℕ) → IsTooLong text → IsTooLong (safe text)
safe-long text long = omega (arith, long, safe_after-longer 0 text)

-- what a call fails with that fails as one which it makes
pub fails : {A : Type 0} (Says : PageFault → Type 0) (result : Result A PageFault) (fault : PageFault) → result ≡ Err fault → Says fault → IfErr result Says
fails {A} Says result fault is says = subst (λ (r : Result A PageFault). IfErr r Says) (sym is) says

-- the first of pieces that are appended one by one
module _ (o a b c d : List ℕ) where
  pub long-one-of-four : IsTooLong (o ++ a) → IsTooLong (o ++ (a ++ (b ++ (c ++ d))))
  long-one-of-four = long-beginning (o ++ a) (b ++ (c ++ d)) (o ++ (a ++ (b ++ (c ++ d)))) (append_assoc o a (b ++ (c ++ d)))

  pub long-three-of-four : IsTooLong (((o ++ a) ++ b) ++ c) → IsTooLong (o ++ (a ++ (b ++ (c ++ d))))
  long-three-of-four = long-beginning (((o ++ a) ++ b) ++ c) d (o ++ (a ++ (b ++ (c ++ d)))) (simp append_assoc refl)

module _ (o a b c d e f g h i : List ℕ) where
  abbrev pub all-nine : List ℕ
  all-nine = o ++ (a ++ (b ++ (c ++ (d ++ (e ++ (f ++ (g ++ (h ++ i))))))))

  pub long-two-of-nine : IsTooLong ((o ++ a) ++ b) → IsTooLong all-nine
  long-two-of-nine = long-beginning ((o ++ a) ++ b) (c ++ (d ++ (e ++ (f ++ (g ++ (h ++ i)))))) all-nine (simp append_assoc refl)

  pub long-four-of-nine : IsTooLong ((((o ++ a) ++ b) ++ c) ++ d) → IsTooLong all-nine
  long-four-of-nine = long-beginning ((((o ++ a) ++ b) ++ c) ++ d) (e ++ (f ++ (g ++ (h ++ i)))) all-nine (simp append_assoc refl)

  pub long-six-of-nine : IsTooLong ((((((o ++ a) ++ b) ++ c) ++ d) ++ e) ++ f) → IsTooLong all-nine
  long-six-of-nine = long-beginning ((((((o ++ a) ++ b) ++ c) ++ d) ++ e) ++ f) (g ++ (h ++ i)) all-nine (simp append_assoc refl)

  pub long-eight-of-nine : IsTooLong ((((((((o ++ a) ++ b) ++ c) ++ d) ++ e) ++ f) ++ g) ++ h) → IsTooLong all-nine
  long-eight-of-nine = long-beginning ((((((((o ++ a) ++ b) ++ c) ++ d) ++ e) ++ f) ++ g) ++ h) i all-nine (simp append_assoc refl)
