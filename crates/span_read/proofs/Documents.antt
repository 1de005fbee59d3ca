-- What a file is, from what its first candidate is that reads.
use Rattle.std.specs.{Prelude.IfErr, Str.{IsUtf8, is_utf8}}
use Rattle.std.proofs.{Common.{◌≡◌, ℕ, ◌≤◌, List, length, refl, sym, ap, arith, Bool, true, false, Option, None, Some, Result, Ok, Err, IfOk, All, nat_lt, if◌then◌else◌, rules, tests}, lemmas.Str.{is_utf8-from_IsUtf8, IsUtf8-from_is_utf8}}
use Rattle.serde_json.specs.{Data.{Data, Items, no_items, item}, Events.items_len}
use Rattle.span_read.specs.{Item, Unit, IsGoodItem, Document.{document, candidates, first_read, elements_of, doc, doc_of_document, doc_of_elements, items_of}, Time.IsItemInRange, declared.{error.ReadError.TheVariants.{TooLarge, NotJson, TooMany}, format.Format.Format}}
use Rattle.span_read.proofs.Good.{All-good_items_of, All-in_range_items_of}
use borrow.Author.Tests.{ltb-false}

pub doc-of_utf8 : (format : Format) (bytes : List ℕ) → length bytes ≤ format.most_bytes → IsUtf8 bytes → doc format bytes ≡ doc_of_document format (first_read (candidates bytes))
doc-of_utf8 format bytes small is = let text = is_utf8-from_IsUtf8 bytes is in search (rules, tests)

pub doc-of_no_utf8 : (format : Format) (bytes : List ℕ) → length bytes ≤ format.most_bytes → (IsUtf8 bytes → ⊥) → doc format bytes ≡ Err NotJson
doc-of_no_utf8 format bytes small not = by (is_utf8 bytes) refl
  where
    by : (b : Bool) → is_utf8 bytes ≡ b → doc format bytes ≡ Err NotJson
    by true is = absurd (not (IsUtf8-from_is_utf8 bytes is))
    by false is = search (rules, tests)

-- these are the items of some elements, of which there are not too many
record AreOfElements (format : Format) (is : List Item) : Type 0 where
  elements : Items
  few : items_len elements ≤ format.most_elements
  are : is ≡ items_of format.unit elements

of_count : (format : Format) (b : Bool) (ds : Items) (is : List Item) → nat_lt format.most_elements (items_len ds) ≡ b → (if b then Err TooMany else Ok (items_of format.unit ds)) ≡ Ok is → AreOfElements format is
of_count format true ds is over e = cc
of_count format false ds is within e = let same : items_of format.unit ds ≡ is = cc in record { elements = ds; few = omega (arith, ltb-false); are = sym same }

of_elements : (format : Format) (o : Option Items) (is : List Item) → doc_of_elements format o ≡ Ok is → AreOfElements format is
of_elements format None is e = cc
of_elements format (Some ds) is e = of_count format _ ds is refl e

of_document : (format : Format) (o : Option Data) (is : List Item) → doc_of_document format o ≡ Ok is → AreOfElements format is
of_document format None is e = cc
of_document format (Some d) is e = of_elements format (elements_of d) is e

pub All-good_document : (format : Format) (o : Option Data) (is : List Item) → doc_of_document format o ≡ Ok is → All IsGoodItem is
All-good_document format o is e = let of = of_document format o is e in All-good_items_of format.unit of.elements is of.are

pub All-in_range_document : (format : Format) (o : Option Data) (is : List Item) → doc_of_document format o ≡ Ok is → All (IsItemInRange format.unit) is
All-in_range_document format o is e = let of = of_document format o is e in All-in_range_items_of format.unit of.elements is of.are

length-items_of : (unit : Unit) (ds : Items) → length (items_of unit ds) ≡ items_len ds
length-items_of unit no_items = refl
length-items_of unit (item d ds) = omega (arith, length-items_of unit ds)

-- a file gives no more items than it may have
pub length-doc : (format : Format) (bytes : List ℕ) (is : List Item) → doc format bytes ≡ Ok is → length is ≤ format.most_elements
length-doc format bytes is e = by (nat_lt format.most_bytes (length bytes)) e
  where
    by : (b : Bool) → (if b then Err TooLarge else doc_of_document format (document bytes)) ≡ Ok is → length is ≤ format.most_elements
    by true e = cc
    by false e = let of = of_document format (document bytes) is e in omega (arith, ap length of.are, length-items_of format.unit of.elements, of.few)

-- ---- an answer that is right unless memory ran out

abbrev pub IsRightUnless : {T E : Type 0} → E → Result T E → Result T E → Type 0
IsRightUnless memory r wanted = (r ≡ Err memory → ⊥) → r ≡ wanted

module _ {T E : Type 0} (memory : E) where
  pub right_items : (r wanted : Result T E) → IsRightUnless memory r wanted → IfOk r (λ x. wanted ≡ Ok x)
  right_items (Ok x) wanted right = sym (right (λ e. cc))
  right_items (Err e) wanted right = tt

  pub right_refusal : (r wanted : Result T E) → IsRightUnless memory r wanted → IfErr r (λ e. (e ≡ memory → ⊥) → wanted ≡ Err e)
  right_refusal (Ok x) wanted right = tt
  right_refusal (Err e) wanted right = λ other. sym (right (λ same. other (cc)))
