-- The columns that sound options ask for are those of a table.
use Rattle.std.proofs.Common.{◌≡◌, ◌≢◌, ◌∙◌, ◌⊎◌, ◌<◌, ◌≤◌, ◌&&◌, Bool, true, false, not, cond, List, [], ◌∷◌, map, Option, Some, None, ap, arith, inl, inr, length, refl, subst, sym, true≢false, is_some}
use Rattle.std.specs.List.{All, list_all, list_any}
use Rattle.std.specs.Str.{bytes_eq}
use Rattle.std.proofs.lemmas.List.{length-map}
use Rattle.std.proofs.lemmas.List.Splits.{length-slice_split}
use Rattle.std.proofs.lemmas.List.Sums.{AllPass-from_list_all, list_all-from_AllPass}
use Rattle.std.proofs.lemmas.List.Elements.{All-cons, All-nil}
use Rattle.std.proofs.lemmas.Slice.Eq.{bytes_eq-Decides}
use Rattle.span_request.specs.{AreColumns, AreDistinct, Async, Bytes, Column, Condition, Name, Of, Options, Spans, column_name, goes_with, is_column, Asked.Asked, Columns.{AreGiven, AreNamed, alike, paged, ranked, usual_columns}, Laws.{AddedTablesMayHaveThem, ConditionsMayTestThem, TablesMayHaveThem}, Lists.{has_twice, is_comma, names_in}, Rules.{is_broken, unsuited}, Texts.{are_given, most_rows}}
use Rattle.std.proofs.lemmas.Bool.{or_parts}

-- a name that is none of the others differs from each
pub differs : (name : Bytes) (names : List Bytes) → list_any (λ other. bytes_eq other name) names ≡ false → All (λ other. name ≢ other) names
differs name [] none = All-nil (λ other. name ≢ other)
differs name (other ∷ names) none =
    let both = or_parts (bytes_eq other name) _ none in
    All-cons (λ another. name ≢ another) other names
    (λ same. true≢false (sym ((bytes_eq-Decides name name).1 refl) ∙ ap (λ another. bytes_eq another name) same ∙ both.0)) (differs name names both.1)

-- names of which none comes twice are distinct
pub AreDistinct-once : (names : List Bytes) → has_twice names ≡ false → AreDistinct names
AreDistinct-once [] once = tt
AreDistinct-once (name ∷ names) once =
    let both = or_parts (list_any (λ other. bytes_eq other name) names) _ once in
    (differs name names both.0, AreDistinct-once names both.1)

-- what a table may have in whatever it sums
record MayHave (columns : List Column) : Type 0 where
  some : 0 < length columns
  few : length columns ≤ 8
  each : list_all is_column columns ≡ true
  once : has_twice (map column_name columns) ≡ false

usual : (of : Of) (options : Options) → options.add ≡ false → MayHave (usual_columns of options)
usual Async options own = rw own (record { some = omega arith; few = omega arith; each = refl; once = refl })
usual Spans options own =
    subst (λ add. MayHave (cond add [] (cond (are_given options.base.items) alike (cond (is_some (most_rows options)) ranked (cond options.folded (Name ∷ []) (cond options.page paged alike))))))
    (sym own) (go (are_given options.base.items) (is_some (most_rows options)) options.folded options.page)
  where
    go : (base top folded page : Bool) → MayHave (cond base alike (cond top ranked (cond folded (Name ∷ []) (cond page paged alike))))
    go true top folded page = record { some = omega arith; few = omega arith; each = refl; once = refl }
    go false true folded page = record { some = omega arith; few = omega arith; each = refl; once = refl }
    go false false true page = record { some = omega arith; few = omega arith; each = refl; once = refl }
    go false false false true = record { some = omega arith; few = omega arith; each = refl; once = refl }
    go false false false false = record { some = omega arith; few = omega arith; each = refl; once = refl }

named : (names : Bytes) (columns : List Column) → AreNamed (names_in names) columns → MayHave columns
named names columns are =
    let many : length columns ≡ length (names_in names) = sym (length-map columns column_name) ∙ ap length are.each.0 in
    let parts = length-slice_split is_comma names in
    record {
      some = omega (arith, many, parts);
      few = omega (arith, many, are.few);
      each = list_all-from_AllPass is_column columns are.each.1;
      once = ap has_twice are.each.0 ∙ are.once;
    }

may_have : (of : Of) (options : Options) (group_by : Option Bytes) (columns : List Column) → AreGiven of options group_by columns → options.add ≡ false → MayHave columns
may_have of options None columns are own = subst MayHave (sym are) (usual of options own)
may_have of options (Some names) columns are own = named names columns are

-- a rule that is kept where tables aren't added
pub kept : (options : Options) → options.add ≡ false → (all : Bool) → (not options.add && not all) ≡ false → all ≡ true
kept options own true e = refl
kept options own false e = absurd (true≢false (sym (ap (λ add. not add && true) own) ∙ e))

-- if tables aren't added, the columns are those of what is summed
suited : (options : Options) (asked : Asked) → is_broken (unsuited options asked) ≡ false → options.add ≡ false
    → list_all (goes_with asked.of) asked.columns ≡ true
suited options asked whole own = kept options own (list_all (goes_with asked.of) asked.columns) (or_parts _ _ (or_parts _ _ whole).1).0

-- so they are columns that a table may have, if what it sums has them
AreColumns-suited : (of : Of) (columns : List Column) → MayHave columns → All (λ column. goes_with of column ≡ true) columns → AreColumns of columns
AreColumns-suited of columns may goes =
    record { some = may.some; few = may.few; each = AllPass-from_list_all is_column columns may.each; suited = goes; distinct = AreDistinct-once (map column_name columns) may.once }

pub tables-may : TablesMayHaveThem
tables-may options asked sound own =
    AreColumns-suited asked.of asked.columns (may_have asked.of options options.group_by asked.columns sound.summed.columns own)
    (AllPass-from_list_all (goes_with asked.of) asked.columns (suited options asked sound.suited own))

pub added-may : AddedTablesMayHaveThem
added-may options own asked sound adds goes = by options.group_by sound.summed.columns
  where
    none : (of : Of) → usual_columns of options ≡ []
    none Async = rw adds refl
    none Spans = rw adds refl

    by : (group_by : Option Bytes) → AreGiven asked.of options group_by asked.columns → (asked.columns ≡ []) ⊎ AreColumns own asked.columns
    by None are = inl (are ∙ none asked.of)
    by (Some names) are = inr (AreColumns-suited own asked.columns (named names asked.columns are) goes)

-- so are those of conditions
pub conditions-may : ConditionsMayTestThem
conditions-may options asked sound own =
    AllPass-from_list_all (λ (c : Condition). goes_with asked.of c.column) asked.conditions
    (kept options own (list_all (λ (c : Condition). goes_with asked.of c.column) asked.conditions) (or_parts _ _ sound.tested).0)
