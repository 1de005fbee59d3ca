-- A text with escapes has no byte `<`.
use Rattle.std.specs.Prelude.{codes}
use Rattle.std.proofs.{Common.{◌≡◌, ℕ, zero, suc, Bool, true, false, cond, List, [], ◌∷◌, ◌++◌, All, nat_eq, refl}, lemmas.List.Elements.{All-nil, All-cons, All-append}}
use Rattle.span_page.specs.{Data.data_of, Laws.DataEndNoElement, Safe.{begins_line, begins_paragraph, safe_after, safe_byte}}

abbrev Harmless : ℕ → Type 0
Harmless byte = nat_eq byte 60 ≡ false

-- six bytes of an escape
six : (a b c d e f : ℕ) → Harmless a → Harmless b → Harmless c → Harmless d → Harmless e → Harmless f → All Harmless (a ∷ b ∷ c ∷ d ∷ e ∷ f ∷ [])
six a b c d e f ha hb hc hd he hf =
    All-cons Harmless a (b ∷ c ∷ d ∷ e ∷ f ∷ []) ha (All-cons Harmless b (c ∷ d ∷ e ∷ f ∷ []) hb (All-cons Harmless c (d ∷ e ∷ f ∷ []) hc
    (All-cons Harmless d (e ∷ f ∷ []) hd (All-cons Harmless e (f ∷ []) he (All-cons Harmless f [] hf (All-nil Harmless))))))

All-safe_byte : (byte : ℕ) → All Harmless (safe_byte byte)
unfolding safe_byte
All-safe_byte byte = by (nat_eq byte 60) refl (nat_eq byte 62) (nat_eq byte 38)
  where
    by : (less : Bool) → nat_eq byte 60 ≡ less → (greater ampersand : Bool) →
        All Harmless (cond less (codes "\\u003c") (cond greater (codes "\\u003e") (cond ampersand (codes "\\u0026") (byte ∷ []))))
    by true is greater ampersand = six 92 117 48 48 51 99 refl refl refl refl refl refl
    by false is true ampersand = six 92 117 48 48 51 101 refl refl refl refl refl refl
    by false is false true = six 92 117 48 48 50 54 refl refl refl refl refl refl
    by false is false false = All-cons Harmless byte [] is (All-nil Harmless)

pub All-safe_after : (n : ℕ) (text : List ℕ) → All Harmless (safe_after n text)
All-safe_after n [] = All-nil Harmless
All-safe_after (suc n) (byte ∷ text) = All-safe_after n text
All-safe_after zero (byte ∷ text) = by (begins_line (byte ∷ text)) (begins_paragraph (byte ∷ text)) (All-safe_after 2 text) (All-safe_after 0 text)
  where
    by : (line paragraph : Bool) → All Harmless (safe_after 2 text) → All Harmless (safe_after 0 text) →
        All Harmless (cond line (codes "\\u2028" ++ safe_after 2 text) (cond paragraph (codes "\\u2029" ++ safe_after 2 text) (safe_byte byte ++ safe_after 0 text)))
    by true paragraph later next = All-append Harmless (codes "\\u2028") (safe_after 2 text) (six 92 117 50 48 50 56 refl refl refl refl refl refl) later
    by false true later next = All-append Harmless (codes "\\u2029") (safe_after 2 text) (six 92 117 50 48 50 57 refl refl refl refl refl refl) later
    by false false later next = All-append Harmless (safe_byte byte) (safe_after 0 text) (All-safe_byte byte) next

pub data-harmless : DataEndNoElement
data-harmless unit labels table files ends journal = All-safe_after 0 (data_of unit labels table files ends journal)
