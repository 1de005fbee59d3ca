-- Texts without a match, and how many marks close.
use Rattle.std.proofs.{Common.{◌≡◌, ℕ, zero, suc, ◌-◌, Bool, true, false, ◌&&◌, List, [], ◌∷◌, ◌++◌, codes, map, length, refl, sym, ap, ap₂, ◌∙◌, arith, true≢false}, lemmas.{Bool.Decides.nat_tests}}
use Rattle.template_names.specs.{Marks.{Bytes, mark_in, marks, marks_behind, symbol_length, word_with}, Merged.{are_closed, byte_of, merged, written}, Writing.{closed_by, without_one}, declared.marks.Mark.{Mark, TheVariants.{Open, Close, Other}}}

byte_of-mark_in : (symbol byte : ℕ) → byte_of (mark_in symbol byte) ≡ byte
byte_of-mark_in symbol byte = grind (arith, nat_tests)

bytes-marks_behind : (left : ℕ) (word text : Bytes) → map byte_of (marks_behind left word text) ≡ text
bytes-marks_behind left word [] = refl
bytes-marks_behind left word (byte ∷ text) =
    let symbol = symbol_length left word (byte ∷ text) in
    ap₂ ◌∷◌ (byte_of-mark_in symbol byte) (bytes-marks_behind (symbol - 1) (word_with word byte) text)

pub bytes-marks : (text : Bytes) → map byte_of (marks text) ≡ text
bytes-marks text = bytes-marks_behind 0 [] text

pub length-marks_behind : (left : ℕ) (word text : Bytes) → length (marks_behind left word text) ≡ length text
length-marks_behind left word [] = refl
length-marks_behind left word (byte ∷ text) =
    ap suc (length-marks_behind (symbol_length left word (byte ∷ text) - 1) (word_with word byte) text)

-- so many that are open are no more than those that close
abbrev is_within : ℕ → ℕ → Bool
is_within zero n = true
is_within (suc m) zero = false
is_within (suc m) (suc n) = is_within m n

is_within-without_one : (m n : ℕ) → is_within (suc (suc m)) n ≡ is_within (suc m) (without_one n)
is_within-without_one m zero = refl
is_within-without_one m (suc n) = refl

are_closed-closed_by : (depth : ℕ) (marks : List Mark) → are_closed depth marks ≡ is_within depth (closed_by marks)
are_closed-closed_by zero marks = refl
are_closed-closed_by (suc depth) [] = refl
are_closed-closed_by (suc depth) (Open ∷ marks) =
    are_closed-closed_by (suc (suc depth)) marks ∙ is_within-without_one depth (closed_by marks)
are_closed-closed_by (suc depth) (Close ∷ marks) = are_closed-closed_by depth marks
are_closed-closed_by (suc depth) (Other byte ∷ marks) = are_closed-closed_by (suc depth) marks

-- of these marks the first opens and has no match
pub written-unmatched : (marks : List Mark) → closed_by marks ≡ 0 → written 0 (Open ∷ marks) ≡ 60 ∷ written 0 marks
written-unmatched marks none = rw (are_closed-closed_by 1 marks, none) refl

-- it has one
pub written-matched : (marks : List Mark) (n : ℕ) → closed_by marks ≡ suc n → written 0 (Open ∷ marks) ≡ codes "<$>" ++ written 1 marks
written-matched marks n some = rw (are_closed-closed_by 1 marks, some) refl

abbrev is_zero : ℕ → Bool
is_zero zero = true
is_zero (suc n) = false

-- none closes while some are open
abbrev pub none_closes : ℕ → List Mark → Bool
none_closes depth [] = true
none_closes depth (Open ∷ marks) = none_closes (suc depth) marks
none_closes depth (Close ∷ marks) = is_zero depth && none_closes depth marks
none_closes depth (Other byte ∷ marks) = none_closes depth marks

closed_by-none : (depth : ℕ) (marks : List Mark) → none_closes (suc depth) marks ≡ true → closed_by marks ≡ 0
closed_by-none depth [] none = refl
closed_by-none depth (Open ∷ marks) none = ap without_one (closed_by-none (suc depth) marks none)
closed_by-none depth (Close ∷ marks) none = absurd (true≢false (sym none))
closed_by-none depth (Other byte ∷ marks) none = closed_by-none depth marks none

-- behind a `<` that stays open, none closes
none_closes-less : (depth : ℕ) (marks : List Mark) → none_closes (suc depth) marks ≡ true → none_closes depth marks ≡ true
none_closes-less depth [] none = refl
none_closes-less depth (Open ∷ marks) none = none_closes-less (suc depth) marks none
none_closes-less depth (Close ∷ marks) none = absurd (true≢false (sym none))
none_closes-less depth (Other byte ∷ marks) none = none_closes-less depth marks none

written-none : (marks : List Mark) → none_closes 0 marks ≡ true → written 0 marks ≡ map byte_of marks
written-none [] none = refl
written-none (Open ∷ marks) none =
    written-unmatched marks (closed_by-none 0 marks none) ∙ ap (λ bytes. 60 ∷ bytes) (written-none marks (none_closes-less 0 marks none))
written-none (Close ∷ marks) none = ap (λ bytes. 62 ∷ bytes) (written-none marks none)
written-none (Other byte ∷ marks) none = ap (λ bytes. byte ∷ bytes) (written-none marks none)

pub merged-none : (text : Bytes) → none_closes 0 (marks text) ≡ true → merged text ≡ text
merged-none text none = written-none (marks text) none ∙ bytes-marks text
