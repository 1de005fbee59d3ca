-- The columns of names.
use Rattle.std.proofs.Common.{Bor, ◌≡◌, ◌∙◌, ◌<◌, ◌+◌, ◌&&◌, ℕ, Bool, true, false, not, zero, suc, refl, sym, ap, ap₂, subst, arith, List, [], ◌∷◌, ◌++◌, map, length, take, drop, lt-ltb, nat_lt, slice_index_or}
use Rattle.std.specs.{List.{All, cons_option, filter_map, list_any}, Prelude.{Err, IfOk, IfSome, MatchOption, None, Ok, Option, Result, Some}, declared.alloc.AllocError.AllocError}
use Rattle.std.proofs.Math.Seq.{take-suc}
use Rattle.std.proofs.lemmas.Bool.{and_parts}
use Rattle.std.proofs.lemmas.List.{map-append}
use Rattle.std.proofs.lemmas.List.Elements.{All-head, All-tail, All-nil, All-cons, All-append, filter_map-append}
use Rattle.span_request.specs.{Argument, Bytes, Cat, Column, File, Name, Pid, Process, SpanColumn, Thread, Tid, column_name, is_column, Columns.{AreEach, IsNamed, NamesNone, has_comma}, Lists.is_comma, Tasks.label_of}
use Rattle.span_table.specs.declared.column.Column.TheVariants.{Id, ParentArgument, ParentName, Scope}

-- what has the name of a column, with a key and without a comma, is one
is_column-named : (column : Column) (name : Bytes) → column_name column ≡ name → (column ≡ Argument [] → ⊥) → (column ≡ ParentArgument [] → ⊥) → has_comma name ≡ false → is_column column ≡ true
is_column-named (Argument []) name is some some_parent none = absurd (some refl)
is_column-named (Argument (byte ∷ key)) name is some some_parent none =
    ap₂ (λ a b. a && b) (lt-ltb 0 (length (byte ∷ key)) (omega arith)) (ap not (ap has_comma is ∙ none))
is_column-named (ParentArgument []) name is some some_parent none = absurd (some_parent refl)
is_column-named (ParentArgument (byte ∷ key)) name is some some_parent none =
    ap₂ (λ a b. a && b) (lt-ltb 0 (length (byte ∷ key)) (omega arith)) (ap not (ap has_comma is ∙ none))
is_column-named column name is some some_parent none = refl

no-comma : (b : Bool) → not b ≡ true → b ≡ false
no-comma true is = sym is
no-comma false is = refl

-- no name of a column has a comma
pub has_comma-named : (column : Column) → is_column column ≡ true → has_comma (column_name column) ≡ false
has_comma-named (Argument key) is = no-comma (list_any is_comma key) (and_parts (nat_lt 0 (length key)) (not (list_any is_comma key)) is).1
has_comma-named (ParentArgument key) is = no-comma (list_any is_comma key) (and_parts (nat_lt 0 (length key)) (not (list_any is_comma key)) is).1
has_comma-named column is = refl

-- the column that is found for a name without a comma
pub found-named : (name : Bytes) (result : Result (Option Column) AllocError) → has_comma name ≡ false → IfOk result (λ found. IfSome found (λ column. column_name column ≡ name))
    → IfOk result (λ found. (column : Column) → is_column column ≡ true → column_name column ≡ name → found ≡ Some column) → IfOk result (λ found. found ≡ Some (Argument []) → ⊥)
    → IfOk result (λ found. found ≡ Some (ParentArgument []) → ⊥) → IfOk result (λ found. MatchOption found (NamesNone name) (IsNamed name))
found-named name (Ok None) none named found some some_parent = λ column is. let same = found column is.1 is.0 in absurd cc
found-named name (Ok (Some column)) none named found some some_parent =
    (named, is_column-named column name named (λ is. some (ap (λ c. Some c) is)) (λ is. some_parent (ap (λ c. Some c) is)) none)
found-named name (Err error) none named found some some_parent = tt

-- the column is one
abbrev IsColumn : Column → Type 0
IsColumn column = is_column column ≡ true

-- where each name is that of a column, so is the one at a place
pub AreEach-at : (names : List (Bor Bytes)) (columns : List Column) (i : ℕ) (d : Bor Bytes) → i < length names → AreEach (map (λ name. name.now) names) columns
    → (column : Column) × (is_column column ≡ true) × (column_name column ≡ (slice_index_or names i d).now)
AreEach-at [] columns i d lt each = absurd (omega arith)
AreEach-at (name ∷ names) [] i d lt each =
    let none : 0 ≡ suc (length (map (λ other. other.now) names)) = ap length each.0 in
    absurd (omega arith)
AreEach-at (name ∷ names) (column ∷ columns) zero d lt each =
    (column, All-head IsColumn column columns each.1, ap (λ all. slice_index_or all 0 []) each.0)
AreEach-at (name ∷ names) (column ∷ columns) (suc i) d lt each =
    AreEach-at names columns i d (omega arith) (ap (drop 1) each.0, All-tail IsColumn column columns each.1)

-- the first elements, and one more
pub take-next : {X : Type 0} (xs : List X) (i : ℕ) (d : X) → i < length xs → take (i + 1) xs ≡ take i xs ++ slice_index_or xs i d ∷ []
take-next xs i d lt =
    let next : i + 1 ≡ suc i = omega arith in
    ap (λ n. take n xs) next ∙ take-suc xs i d lt

-- one more name, and one more column
pub AreEach-next : (names : List (Bor Bytes)) (i : ℕ) (d : Bor Bytes) (columns new : List Column) (column : Column) → i < length names
    → AreEach (map (λ name. name.now) (take i names)) columns → IsNamed (slice_index_or names i d).now column → new ≡ columns ++ column ∷ []
    → AreEach (map (λ name. name.now) (take (i + 1) names)) new
AreEach-next names i d columns new column lt each is pushed = (
  ap (map column_name) pushed ∙ map-append column_name columns (column ∷ []) ∙ ap₂ (λ a b. a ++ b ∷ []) each.0 is.0
      ∙ sym (map-append (λ name. name.now) (take i names) (slice_index_or names i d ∷ [])) ∙ sym (ap (map (λ name. name.now)) (take-next names i d lt)),
  subst (All IsColumn) (sym pushed) (All-append IsColumn columns (column ∷ []) each.1 (All-cons IsColumn column [] is.1 (All-nil IsColumn))),
)

-- the labels of the first columns, and that of one more
pub labels-next : (columns : List Column) (i : ℕ) (column : Column) (labels new : List SpanColumn) → i < length columns → column ≡ slice_index_or columns i column
    → labels ≡ filter_map label_of (take i columns) → new ≡ labels ++ cons_option (label_of column) [] → new ≡ filter_map label_of (take (i + 1) columns)
labels-next columns i column labels new lt at so_far pushed =
    pushed ∙ ap₂ (λ a (b : Column). a ++ cons_option (label_of b) []) so_far at ∙ sym (filter_map-append label_of (take i columns) (slice_index_or columns i column ∷ []))
    ∙ sym (ap (filter_map label_of) (take-next columns i column lt))
