-- A number in a width is padded with blanks on the left.
use Rattle.std.specs.{Fmt.{padded_integral, format_spec, char_count}, List.repeat}
use Rattle.std.proofs.{Common.{◌≡◌, ℕ, zero, suc, ◌-◌, ◌^◌, false, List, [], ◌∷◌, ◌++◌, replicate, refl, ap, arith}, lemmas.List.append-nil}
use Rattle.span_report.specs.Lines.{right_in}
use lib.Utf8.{encode}

repeat_blank : (n : ℕ) → repeat {A = ℕ} n (32 ∷ []) ≡ replicate n 32
repeat_blank zero = refl
repeat_blank (suc n) = ap (λ l. 32 ∷ l) (repeat_blank n)

blanks_before : (before after blanks : ℕ) (digits : List ℕ) → before ≡ blanks → after ≡ 0 → ((((repeat {A = ℕ} before (32 ∷ []) ++ []) ++ []) ++ []) ++ (digits ++ repeat {A = ℕ} after (32 ∷ []))) ≡ replicate blanks 32 ++ digits
blanks_before before after blanks digits same none = rw (same, none) (simp (append-nil, repeat_blank))

pub padded_integral_right : (width : ℕ) (digits : List ℕ) → padded_integral (format_spec 32 3 0 width (2 ^ 64 - 1)) false [] digits ≡ right_in width digits
unfolding padded_integral char_count encode
padded_integral_right width digits = blanks_before _ _ _ digits (omega arith) (omega arith)
