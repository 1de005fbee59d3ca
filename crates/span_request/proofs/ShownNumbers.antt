-- The numbers that are shown of what sound options ask for are those that a table may have.
use Rattle.std.specs.{List.{All, list_all, list_any}, Prelude.{Option, Some, None}, Str.bytes_eq}
use Rattle.std.proofs.Common.{◌≡◌, ◌≢◌, ◌∙◌, ◌<◌, ◌==◌, ◌&&◌, ◌||◌, ℕ, zero, suc, Bool, true, false, cond, List, [], ◌∷◌, get_or, length, map, refl, sym, ap, ap₂, subst, arith, true≢false}
use Rattle.std.proofs.lemmas.{Bool.{and_parts, ne_eqb, or_parts}, List.{Sums.{AllPass-from_list_all, list_all-from_AllPass}}}
use Rattle.span_table.proofs.Numbers.{AreAmong-self, AreAmong-trans, are_same-same, list_all-among}
use Rattle.span_table_text.specs.AskedNumbers.{in_order, named_or, with_first}
use Rattle.span_request.specs.{AreDistinct, AreNumbers, Async, AskedNumbers, Audience, Bytes, Number, Of, Options, People, Programs, Spans, all_of, has_number, number_name, shown_numbers, usual_numbers, Asked.Asked, Laws.{AddedTablesMayShowThem, TablesMayShowThem}, Lists.has_twice, Numbers.{AreNumbersGiven, are_numbers_of, by_of, goes_by, numbers_go_with}, Request.AreSound, Rules.{is_broken, unsuited}, Tasks.IsOptions}
use Rattle.span_request.specs.declared.views.TableOptions.{TableOptions}
use Rattle.span_request.proofs.Suited.{AreDistinct-once, differs, kept}
use Rattle.span_table.specs.{Adding.AreAmong, Numbers.are_same}

-- ---- a table's own numbers, for whomever they are

in_order-own : (audience : Audience) (of : Of) (own : List Number) → list_all (has_number own) (in_order audience of own) ≡ true
in_order-own audience of own = by (are_same own (usual_numbers Programs of)) refl
  where
    usual : (audience : Audience) (of : Of) → list_all (has_number (usual_numbers Programs of)) (usual_numbers audience of) ≡ true
    usual People Spans = refl
    usual People Async = refl
    usual Programs Spans = refl
    usual Programs Async = refl

    by : (b : Bool) → are_same own (usual_numbers Programs of) ≡ b → list_all (has_number own) (cond b (usual_numbers audience of) own) ≡ true
    by true e = subst (λ all. list_all (has_number all) (usual_numbers audience of) ≡ true) (sym (are_same-same own (usual_numbers Programs of) e)) (usual audience of)
    by false e = AreAmong-self own

in_order-some : (audience : Audience) (of : Of) (own : List Number) → 0 < length own → 0 < length (in_order audience of own)
in_order-some audience of own some = by (are_same own (usual_numbers Programs of))
  where
    usual : (audience : Audience) (of : Of) → 0 < length (usual_numbers audience of)
    usual People Spans = omega arith
    usual People Async = omega arith
    usual Programs Spans = omega arith
    usual Programs Async = omega arith

    by : (b : Bool) → 0 < length (cond b (usual_numbers audience of) own)
    by true = usual audience of
    by false = some

in_order-distinct : (audience : Audience) (of : Of) (own : List Number) → AreDistinct (map number_name own) → AreDistinct (map number_name (in_order audience of own))
in_order-distinct audience of own distinct = by (are_same own (usual_numbers Programs of))
  where
    usual : (audience : Audience) (of : Of) → AreDistinct (map number_name (usual_numbers audience of))
    usual People Spans = AreDistinct-once (map number_name (usual_numbers People Spans)) refl
    usual People Async = AreDistinct-once (map number_name (usual_numbers People Async)) refl
    usual Programs Spans = AreDistinct-once (map number_name (usual_numbers Programs Spans)) refl
    usual Programs Async = AreDistinct-once (map number_name (usual_numbers Programs Async)) refl

    by : (b : Bool) → AreDistinct (map number_name (cond b (usual_numbers audience of) own))
    by true = usual audience of
    by false = distinct

-- ---- with a number before them

with_first-some : (by : Option Number) (numbers : List Number) → 0 < length numbers → 0 < length (with_first by numbers)
with_first-some None numbers some = some
with_first-some (Some by) numbers some = choose (has_number numbers by)
  where
    choose : (b : Bool) → 0 < length (cond b numbers (by ∷ numbers))
    choose true = some
    choose false = omega arith

-- a name that none of the numbers has
names-differ : (name : Bytes) (numbers : List Number) → list_any (λ number. bytes_eq (number_name number) name) numbers ≡ false → All (λ other. name ≢ other) (map number_name numbers)
names-differ name numbers none = differs name (map number_name numbers) (mapped numbers ∙ none)
  where
    mapped : (numbers : List Number) → list_any (λ other. bytes_eq other name) (map number_name numbers) ≡ list_any (λ number. bytes_eq (number_name number) name) numbers
    mapped [] = refl
    mapped (number ∷ numbers) = ap (λ b. bytes_eq (number_name number) name || b) (mapped numbers)

with_first-distinct : (by : Option Number) (numbers : List Number) → AreDistinct (map number_name numbers) → AreDistinct (map number_name (with_first by numbers))
with_first-distinct None numbers distinct = distinct
with_first-distinct (Some by) numbers distinct = choose (has_number numbers by) refl
  where
    choose : (b : Bool) → has_number numbers by ≡ b → AreDistinct (map number_name (cond b numbers (by ∷ numbers)))
    choose true e = distinct
    choose false e = (names-differ (number_name by) numbers e, distinct)

-- all of them are among others where the numbers are, and so is the first
with_first-among : (by : Option Number) (numbers all : List Number) → list_all (has_number all) numbers ≡ true → list_all (has_number all) (with_first by numbers) ≡ goes_by all by
with_first-among None numbers all are = are
with_first-among (Some by) numbers all are = choose (has_number numbers by) refl
  where
    choose : (b : Bool) → has_number numbers by ≡ b → list_all (has_number all) (cond b numbers (by ∷ numbers)) ≡ has_number all by
    choose true e = are ∙ sym (list_all-among (has_number all) numbers by are e)
    choose false e = ap (λ b. has_number all by && b) are ∙ and-true (has_number all by)
      where
        and-true : (b : Bool) → (b && true) ≡ b
        and-true true = refl
        and-true false = refl

-- ---- what is shown

-- where none are named, a table has all that are shown, if it has that by which rows are to go
pub go_with-none : (asked : AskedNumbers) (of : Of) (own : List Number) → (length asked.named.items == 0) ≡ true → goes_by own asked.by ≡ numbers_go_with asked of own
go_with-none asked of own none =
    sym (ap (λ named. list_all (has_number own) (named_or named (with_first asked.by (in_order asked.audience of own)))) (empty asked.named.items none)
    ∙ with_first-among asked.by (in_order asked.audience of own) own (in_order-own asked.audience of own))
  where
    empty : (named : List Number) → (length named == 0) ≡ true → named ≡ []
    empty [] none = refl
    empty (number ∷ named) none = absurd (true≢false (sym none ∙ ne_eqb (length (number ∷ named)) 0 (λ same. omega (arith, same))))

named_or-some : (named others : List Number) → 0 < length others → 0 < length (named_or named others)
named_or-some [] others some = some
named_or-some (number ∷ named) others some = omega arith

named_or-distinct : (named others : List Number) → AreDistinct (map number_name named) → AreDistinct (map number_name others) → AreDistinct (map number_name (named_or named others))
named_or-distinct [] others distinct also = also
named_or-distinct (number ∷ named) others distinct also = distinct

named_or-among : (named others all : List Number) → list_all (has_number all) named ≡ true → list_all (has_number all) others ≡ true → list_all (has_number all) (named_or named others) ≡ true
named_or-among [] others all are also = also
named_or-among (number ∷ named) others all are also = are

-- the names that options list are distinct
named-distinct : (list : Option Bytes) (numbers : List Number) → AreNumbersGiven list numbers → AreDistinct (map number_name numbers)
named-distinct None numbers are = subst (λ all. AreDistinct (map number_name all)) (sym are) tt
named-distinct (Some list) numbers are = AreDistinct-once (map number_name numbers) (ap has_twice are.each ∙ are.once)

module _ (options : Options) (asked : Asked) (table : TableOptions) (sound : AreSound options asked) (is : IsOptions options asked table) where
  shown-some : (of : Of) (own : List Number) → 0 < length own → 0 < length (shown_numbers table.numbers of own)
  shown-some of own some =
      named_or-some table.numbers.named.items _ (with_first-some table.numbers.by (in_order table.numbers.audience of own) (in_order-some table.numbers.audience of own some))

  shown-distinct : (of : Of) (own : List Number) → AreDistinct (map number_name own) → AreDistinct (map number_name (shown_numbers table.numbers of own))
  shown-distinct of own distinct =
      named_or-distinct table.numbers.named.items _
      (subst (λ named. AreDistinct (map number_name named)) (sym is.numbers.named) (named-distinct options.numbers asked.numbers sound.summed.numbers))
      (with_first-distinct table.numbers.by (in_order table.numbers.audience of own) (in_order-distinct table.numbers.audience of own distinct))

-- numbers that a table has are those that it may have
AreNumbers-among : (of : Of) (own shown : List Number) → AreNumbers of own → 0 < length shown → AreDistinct (map number_name shown) → list_all (has_number own) shown ≡ true → AreNumbers of shown
AreNumbers-among of own shown are some distinct among = record {
  some = some;
  each = AllPass-from_list_all (has_number (all_of of)) shown (AreAmong-trans shown own (all_of of) among own_among);
  distinct = distinct;
}
  where
    own_among : AreAmong own (all_of of)
    own_among = list_all-from_AllPass (has_number (all_of of)) own are.each

pub added-shown : AddedTablesMayShowThem
added-shown options asked table of own sound is are goes =
    AreNumbers-among of own (shown_numbers table.numbers of own) are (shown-some options asked table sound is of own are.some) (shown-distinct options asked table sound is of own are.distinct) goes

-- the numbers of what is summed, each once
AreNumbers-all : (of : Of) → AreNumbers of (all_of of)
AreNumbers-all Spans = record { some = omega arith; each = AllPass-from_list_all (has_number (all_of Spans)) (all_of Spans) refl; distinct = AreDistinct-once (map number_name (all_of Spans)) refl }
AreNumbers-all Async = record { some = omega arith; each = AllPass-from_list_all (has_number (all_of Async)) (all_of Async) refl; distinct = AreDistinct-once (map number_name (all_of Async)) refl }

-- the rules on numbers are kept
record Suits (options : Options) (asked : Asked) : Type 0 where
  by : goes_by (all_of asked.of) (by_of options) ≡ true
  named : are_numbers_of asked.of asked.numbers ≡ true

suits : (options : Options) (asked : Asked) → is_broken (unsuited options asked) ≡ false → options.add ≡ false → Suits options asked
suits options asked whole own = record {
  by = kept options own (goes_by (all_of asked.of) (by_of options)) (unbroken (unsuited options asked) 4 whole);
  named = kept options own (are_numbers_of asked.of asked.numbers) (unbroken (unsuited options asked) 5 whole);
}
  where
    unbroken : (rules : List Bool) (place : ℕ) → is_broken rules ≡ false → get_or rules place false ≡ false
    unbroken [] place whole = refl
    unbroken (rule ∷ rules) zero whole = (or_parts rule (is_broken rules) whole).0
    unbroken (rule ∷ rules) (suc place) whole = unbroken rules place (or_parts rule (is_broken rules) whole).1

pub tables-shown : TablesMayShowThem
tables-shown options asked table sound own is =
    let of = asked.of in
    let usual = usual_numbers Programs of in
    let suited = suits options asked sound.suited own in
    let named = subst (λ numbers. list_all (has_number (all_of of)) numbers ≡ true) (sym is.numbers.named) suited.named in
    let first = subst (λ by. goes_by (all_of of) by ≡ true) (sym is.numbers.by) suited.by in
    let all = in_order-all table.numbers.audience of in
    AreNumbers-among of (all_of of) (shown_numbers table.numbers of usual) (AreNumbers-all of)
    (shown-some options asked table sound is of usual (usual-some of)) (shown-distinct options asked table sound is of usual (usual-distinct of))
    (named_or-among table.numbers.named.items _ (all_of of) named (with_first-among table.numbers.by (in_order table.numbers.audience of usual) (all_of of) all ∙ first))
  where
    usual-some : (of : Of) → 0 < length (usual_numbers Programs of)
    usual-some Spans = omega arith
    usual-some Async = omega arith

    usual-distinct : (of : Of) → AreDistinct (map number_name (usual_numbers Programs of))
    usual-distinct Spans = AreDistinct-once (map number_name (usual_numbers Programs Spans)) refl
    usual-distinct Async = AreDistinct-once (map number_name (usual_numbers Programs Async)) refl

    in_order-all : (audience : Audience) (of : Of) → list_all (has_number (all_of of)) (in_order audience of (usual_numbers Programs of)) ≡ true
    in_order-all People Spans = refl
    in_order-all People Async = refl
    in_order-all Programs Spans = refl
    in_order-all Programs Async = refl
