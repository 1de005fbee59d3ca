-- The parts of a condition's word, and the one condition that it is.
use Rattle.std.proofs.{Common.{◌≡◌, ◌≢◌, ◌∙◌, ◌+◌, ◌<◌, ◌≤◌, ◌||◌, ◌==◌, ℕ, zero, suc, Bool, true, false, cond, codes, refl, sym, ap, ap₂, subst, arith, List, [], ◌∷◌, ◌++◌, append-nil, get_or, length, length-append, slice_index_or, take, true≢false}, lemmas.{Bool.{ne_eqb, or_parts}}}
use Rattle.span_table_text.proofs.Determined.{column_name-injective}
use Rattle.span_request.specs.{Bytes, Condition, column_name, Columns.NamesNone, Conditions.{AreConditions, AreNoConditions, IsCondition, IsNoCondition, IsParted, IsUnmarked, has_operator, is_operator, mark_of}}
use Rattle.span_request.proofs.ColumnNames.{take-next}

-- the byte is none of these
abbrev pub Lacks : ℕ → Bytes → Type 0
Lacks byte text = (i : ℕ) → i < length text → get_or text i 0 ≢ byte

-- what lacks both bytes of operators has none
pub has_operator-lacks : (text : Bytes) → Lacks 61 text → Lacks 126 text → has_operator text ≡ false
has_operator-lacks [] first second = refl
has_operator-lacks (byte ∷ text) first second =
    ap₂ (λ a b. a || b) (ap₂ (λ a b. a || b) (ne_eqb byte 61 (first 0 (omega arith))) (ne_eqb byte 126 (second 0 (omega arith))))
    (has_operator-lacks text (λ i low. first (suc i) (omega (arith, low))) (λ i low. second (suc i) (omega (arith, low))))

Lacks-cons : (byte first : ℕ) (text : Bytes) → first ≢ byte → Lacks byte text → Lacks byte (first ∷ text)
Lacks-cons byte first text other lacks zero low = other
Lacks-cons byte first text other lacks (suc i) low = lacks i (omega (arith, low))

-- of two beginnings the shorter one lacks what the longer one does
pub Lacks-shorter : (byte : ℕ) (one other rest behind : Bytes) → one ++ rest ≡ other ++ behind → length one ≤ length other → Lacks byte other → Lacks byte one
Lacks-shorter byte [] other rest behind same short lacks = λ i low. absurd (omega (arith, low))
Lacks-shorter byte (b ∷ one) [] rest behind same short lacks = absurd (omega (arith, short))
Lacks-shorter byte (b ∷ one) (d ∷ other) rest behind same short lacks =
    let here : b ≡ d = cc in
    let after : one ++ rest ≡ other ++ behind = cc in
    Lacks-cons byte b one (λ is. lacks 0 (omega arith) (sym here ∙ is)) (Lacks-shorter byte one other rest behind after (omega (arith, short)) (λ i low. lacks (suc i) (omega (arith, low))))

-- the byte of an operator
abbrev sign : Bool → ℕ
sign contains = cond contains 126 61

sign-is : (contains : Bool) (text : Bytes) → cond contains (codes "~") (codes "=") ++ text ≡ sign contains ∷ text
sign-is true text = refl
sign-is false text = refl

sign-operator : (contains : Bool) → is_operator (sign contains) ≡ true
sign-operator true = refl
sign-operator false = refl

sign-same : (a b : Bool) → sign a ≡ sign b → a ≡ b
sign-same true true same = refl
sign-same true false same = absurd (omega (arith, same))
sign-same false true same = absurd (omega (arith, same))
sign-same false false same = refl

-- what is behind the first operator of a word has an operator before it
has_operator-parted : (front : Bytes) (contains : Bool) (text : Bytes) → has_operator (front ++ (cond contains (codes "~") (codes "=") ++ text)) ≡ true
has_operator-parted [] true text = refl
has_operator-parted [] false text = refl
has_operator-parted (byte ∷ front) contains text = by (is_operator byte) (has_operator-parted front contains text)
  where
    by : (b : Bool) → has_operator (front ++ (cond contains (codes "~") (codes "=") ++ text)) ≡ true → (b || has_operator (front ++ (cond contains (codes "~") (codes "=") ++ text))) ≡ true
    by true rest = refl
    by false rest = rest

-- a word is parted in one way
record SameParts (front other : Bytes) (a b : Bool) (text more : Bytes) : Type 0 where
  fronts : front ≡ other
  signs : a ≡ b
  texts : text ≡ more

parted-once : (front other : Bytes) (a b : Bool) (text more : Bytes) → front ++ sign a ∷ text ≡ other ++ sign b ∷ more → has_operator front ≡ false → has_operator other ≡ false → SameParts front other a b text more
parted-once [] [] a b text more same one two = let signs : sign a ≡ sign b = cc in record { fronts = refl; signs = sign-same a b signs; texts = cc }
parted-once [] (byte ∷ other) a b text more same one two =
    let here : sign a ≡ byte = cc in
    absurd (true≢false (sym (sign-operator a) ∙ ap is_operator here ∙ (or_parts (is_operator byte) (has_operator other) two).0))
parted-once (byte ∷ front) [] a b text more same one two =
    let here : sign b ≡ byte = cc in
    absurd (true≢false (sym (sign-operator b) ∙ ap is_operator here ∙ (or_parts (is_operator byte) (has_operator front) one).0))
parted-once (byte ∷ front) (next ∷ other) a b text more same one two =
    let here : byte ≡ next = cc in
    let rest = parted-once front other a b text more (cc) (or_parts (is_operator byte) (has_operator front) one).1 (or_parts (is_operator next) (has_operator other) two).1 in
    record { fronts = ap₂ (λ (x : ℕ) (l : Bytes). x ∷ l) here rest.fronts; signs = rest.signs; texts = rest.texts }

IsParted-once : (word front other : Bytes) (a b : Bool) (text more : Bytes) → IsParted word front a text → IsParted word other b more → SameParts front other a b text more
IsParted-once word front other a b text more one two =
    parted-once front other a b text more
    (ap (λ l. front ++ l) (sym (sign-is a text)) ∙ sym one.parts ∙ two.parts ∙ ap (λ l. other ++ l) (sign-is b more)) one.first two.first

-- what is before the same byte is the same
front-same : (byte : ℕ) (one other : Bytes) → one ++ byte ∷ [] ≡ other ++ byte ∷ [] → one ≡ other
front-same byte [] [] same = refl
front-same byte [] (b ∷ other) same = let none : [] ≡ other ++ byte ∷ [] = cc in absurd (omega (arith, length-append other (byte ∷ []), ap length none))
front-same byte (b ∷ one) [] same = let none : one ++ byte ∷ [] ≡ [] = cc in absurd (omega (arith, length-append one (byte ∷ []), ap length none))
front-same byte (b ∷ one) (d ∷ other) same = let here : b ≡ d = cc in ap₂ (λ (x : ℕ) (l : Bytes). x ∷ l) here (front-same byte one other (cc))

-- a name and its mark
record SameMarks (name other : Bytes) (a b : Bool) : Type 0 where
  names : name ≡ other
  marks : a ≡ b

marked-once : (name other : Bytes) (a b : Bool) → name ++ mark_of a ≡ other ++ mark_of b → (a ≡ false → IsUnmarked name) → (b ≡ false → IsUnmarked other) → SameMarks name other a b
marked-once name other true true same one two = record { names = front-same 33 name other same; marks = refl }
marked-once name other true false same one two = absurd (two refl name (sym (same ∙ append-nil other)))
marked-once name other false true same one two = absurd (one refl other (sym (append-nil name) ∙ same))
marked-once name other false false same one two = record { names = sym (append-nil name) ∙ same ∙ append-nil other; marks = refl }

-- a word is one condition
pub IsCondition-once : (word : Bytes) (condition other : Condition) → IsCondition word condition → IsCondition word other → condition ≡ other
IsCondition-once word condition other is also =
    let parts = IsParted-once word (column_name condition.column ++ mark_of condition.negated) (column_name other.column ++ mark_of other.negated) condition.contains other.contains condition.text other.text is.parted also.parted in
    let marks = marked-once (column_name condition.column) (column_name other.column) condition.negated other.negated parts.fronts is.unmarked also.unmarked in
    let column = column_name-injective condition.column other.column marks.names in
    λ i. record { column = column i; negated = marks.marks i; contains = parts.signs i; text = parts.texts i }

-- words are one list of conditions
pub AreConditions-once : (words : List Bytes) (conditions others : List Condition) → AreConditions words conditions → AreConditions words others → conditions ≡ others
AreConditions-once [] [] [] are also = refl
AreConditions-once [] [] (other ∷ others) are also = absurd also
AreConditions-once [] (condition ∷ conditions) others are also = absurd are
AreConditions-once (word ∷ words) [] others are also = absurd are
AreConditions-once (word ∷ words) (condition ∷ conditions) [] are also = absurd also
AreConditions-once (word ∷ words) (condition ∷ conditions) (other ∷ others) are also =
    ap₂ (λ (c : Condition) (l : List Condition). c ∷ l) (IsCondition-once word condition other are.0 also.0) (AreConditions-once words conditions others are.1 also.1)

AreConditions-append : (words more : List Bytes) (conditions others : List Condition) → AreConditions words conditions → AreConditions more others → AreConditions (words ++ more) (conditions ++ others)
AreConditions-append [] more [] others are also = also
AreConditions-append [] more (condition ∷ conditions) others are also = absurd are
AreConditions-append (word ∷ words) more [] others are also = absurd are
AreConditions-append (word ∷ words) more (condition ∷ conditions) others are also = (are.0, AreConditions-append words more conditions others are.1 also)

-- the conditions of the first words, and that of one more
pub AreConditions-next : (words : List Bytes) (i : ℕ) (word : Bytes) (conditions new : List Condition) (condition : Condition) → i < length words → word ≡ slice_index_or words i word
    → AreConditions (take i words) conditions → IsCondition word condition → new ≡ conditions ++ condition ∷ [] → AreConditions (take (i + 1) words) new
AreConditions-next words i word conditions new condition low at are is pushed =
    subst (λ ws. AreConditions ws new) (ap (λ w. take i words ++ w ∷ []) at ∙ sym (take-next words i word low))
    (subst (AreConditions (take i words ++ word ∷ [])) (sym pushed) (AreConditions-append (take i words) (word ∷ []) conditions (condition ∷ []) are (is, tt)))

-- words of which one is no condition
pub AreNoConditions-at : (words : List Bytes) (i : ℕ) (word : Bytes) → i < length words → word ≡ slice_index_or words i word → IsNoCondition word → AreNoConditions words
AreNoConditions-at [] i word low at none conditions are = absurd (omega (arith, low))
AreNoConditions-at (first ∷ words) i word low at none [] are = absurd are
AreNoConditions-at (first ∷ words) zero word low at none (condition ∷ conditions) are = none condition (subst (λ w. IsCondition w condition) (sym at) are.0)
AreNoConditions-at (first ∷ words) (suc i) word low at none (condition ∷ conditions) are = AreNoConditions-at words i word (omega (arith, low)) at none conditions are.1

-- a text that is to be contained may not be empty
pub IsNoCondition-empty : (word front text : Bytes) → IsParted word front true text → (length text == 0) ≡ true → IsNoCondition word
IsNoCondition-empty word front [] parted empty condition is =
    let parts = IsParted-once word front (column_name condition.column ++ mark_of condition.negated) true condition.contains [] condition.text parted is.parted in
    is.some (sym parts.signs) (sym parts.texts)
IsNoCondition-empty word front (byte ∷ text) parted empty condition is = true≢false (sym empty ∙ ne_eqb (length (byte ∷ text)) 0 (λ same. omega (arith, same)))

-- what stands before the operator is to be a column
pub IsNoCondition-unknown : (word front name text : Bytes) (contains negated : Bool) → IsParted word front contains text → front ≡ name ++ mark_of negated → (negated ≡ false → IsUnmarked name) → NamesNone name → IsNoCondition word
IsNoCondition-unknown word front name text contains negated parted marked unmarked none condition is =
    let parts = IsParted-once word front (column_name condition.column ++ mark_of condition.negated) contains condition.contains text condition.text parted is.parted in
    let marks = marked-once name (column_name condition.column) negated condition.negated (sym marked ∙ parts.fronts) unmarked is.unmarked in
    none condition.column (sym marks.names, is.column)

-- a word without an operator
pub IsNoCondition-plain : (word : Bytes) → has_operator word ≡ false → IsNoCondition word
IsNoCondition-plain word none condition is =
    true≢false (sym (has_operator-parted (column_name condition.column ++ mark_of condition.negated) condition.contains condition.text) ∙ sym (ap has_operator is.parted.parts) ∙ none)
