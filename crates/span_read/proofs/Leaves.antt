-- A number that was taken.
use Rattle.std.proofs.Common.{◌≡◌, ℕ, List, ◌∷◌, Option, Some, None, Result, Ok, Err, OnErr, option_map, unwrap_or, refl, ap, ◌∙◌}
use Rattle.json.specs.Token.{Token}
use Rattle.serde_json.specs.{Data.{Data, number, Num}, Read.{of_json, number_of, converted}}
use Rattle.json.proofs.Grammar.{value_is}
use Rattle.span_read.specs.{Fields.field_value, Tokens.{data_at, TakesLeaf}, declared.fields.FieldValue.FieldValue}

-- what holds anyway holds where a call fails
pub on_err : {T E P : Type 0} (r : Result T E) → P → OnErr r P
on_err (Ok x) p = tt
on_err (Err e) p = p

abbrev kind_of : Num → FieldValue
kind_of n = field_value (number n)

number_reads : (depth : ℕ) (text : List ℕ) (old new : List Token) → old ≡ Token.number text ∷ new → (o : Option Num) → number_of text ≡ o
    → data_at depth old ≡ option_map {U = Data × List Token} (λ d. (d, new)) (option_map number o)
number_reads depth text old new is o read = ap (data_at depth) is ∙ ap (converted of_json) (value_is depth (Token.number text ∷ new)) ∙ rw read

inside : (v w : FieldValue) → Some v ≡ Some w → v ≡ w
inside v w e = ap (λ o. unwrap_or o v) e

pub number_taken : (text : List ℕ) (old new : List Token) → old ≡ Token.number text ∷ new → (o : Option Num) (v : FieldValue) → number_of text ≡ o → option_map kind_of o ≡ Some v → TakesLeaf v old new
number_taken text old new is None v read kind = absurd (cc)
number_taken text old new is (Some n) v read kind =
    record { found = number n; reads = λ depth. number_reads depth text old new is (Some n) read; leaf = refl; kind = inside (kind_of n) v kind }

pub number_refused : (text : List ℕ) (old new : List Token) → old ≡ Token.number text ∷ new → (o : Option Num) → number_of text ≡ o → option_map kind_of o ≡ None → (depth : ℕ) → data_at depth old ≡ None
number_refused text old new is None read kind = λ depth. number_reads depth text old new is None read
number_refused text old new is (Some n) read kind = absurd (cc)
