-- Options that break a rule.
use Rattle.std.proofs.Common.{◌≡◌, ◌∙◌, ◌||◌, true, List, [], ◌∷◌, map, Option, Some, None, ap, ap₂, arith, length, refl, subst, suc, sym, true≢false}
use Rattle.std.specs.Prelude.{drop, unwrap_or}
use Rattle.span_table.proofs.Numbers.{number_name-same}
use Rattle.span_table_text.proofs.Determined.{column_name-injective}
use Rattle.span_request.specs.{Bytes, Column, Number, Of, Options, Spans, column_name, number_name, Asked.{Asked, IsAskedBy}, Columns.{AreAsked, AreGiven}, Numbers.{AreNumbersGiven, of_of}, Request.{AreUnsound}, Rules.{is_broken, unsuited, untested}}
use Rattle.span_request.proofs.ConditionParts.{AreConditions-once}

-- what two words stand for is the same, if they are one
one : (options : Options) (of other : Of) → of_of options ≡ Some of → of_of options ≡ Some other → of ≡ other
one options of other is also = ap (λ word. unwrap_or word Spans) (sym is ∙ also)

-- lists of what has the same names are the same, where it is told by its name
same : {A : Type 0} (name : A → Bytes) → ((one other : A) → name one ≡ name other → one ≡ other) → (all others : List A) → map name all ≡ map name others → all ≡ others
same name told [] [] is = refl
same name told [] (other ∷ others) is =
    let bad : 0 ≡ suc (length (map name others)) = ap length is in
    absurd (omega arith)
same name told (first ∷ all) [] is =
    let bad : suc (length (map name all)) ≡ 0 = ap length is in
    absurd (omega arith)
same name told (first ∷ all) (other ∷ others) is =
    ap₂ (λ one more. one ∷ more) (told first other (ap (λ names. head names) is)) (same name told all others (ap (drop 1) is))
  where
    head : List Bytes → Bytes
    head [] = []
    head (name ∷ names) = name

asked_once : (options : Options) (of : Of) (names : Option Bytes) (columns others : List Column) → AreGiven of options names columns → AreGiven of options names others
    → columns ≡ others
asked_once options of None columns others are also = are ∙ sym also
asked_once options of (Some names) columns others are also = same column_name column_name-injective columns others (are.each.0 ∙ sym also.each.0)

numbers_once : (list : Option Bytes) (numbers others : List Number) → AreNumbersGiven list numbers → AreNumbersGiven list others → numbers ≡ others
numbers_once None numbers others are also = are ∙ sym also
numbers_once (Some list) numbers others are also = same number_name number_name-same numbers others (are.each ∙ sym also.each)

-- what options ask for they ask for once
once : (options : Options) (asked other : Asked) → IsAskedBy options asked → IsAskedBy options other → asked ≡ other
once options asked other is also =
    let summed = one options asked.of other.of is.of also.of in
    let columns = asked_once options asked.of options.group_by asked.columns other.columns is.columns (subst (λ of. AreAsked of options other.columns) (sym summed) also.columns) in
    let numbers = numbers_once options.numbers asked.numbers other.numbers is.numbers also.numbers in
    let conditions = AreConditions-once options.conditions.items asked.conditions other.conditions is.conditions also.conditions in
    λ i. record { of = summed i; columns = columns i; numbers = numbers i; conditions = conditions i }

-- columns, conditions or numbers that don't suit
pub AreUnsound-suited : (options : Options) (asked : Asked) → IsAskedBy options asked → (is_broken (unsuited options asked) || is_broken (untested options asked)) ≡ true → AreUnsound options
AreUnsound-suited options asked is broken other sound =
    true≢false (sym broken ∙ ap (λ a. is_broken (unsuited options a) || is_broken (untested options a)) (once options asked other is sound.summed) ∙ ap₂ (λ a b. a || b) sound.suited sound.tested)
