-- What a writer has written, step by step.
use Rattle.std.specs.Prelude.{Result, Ok, Err}
use Rattle.std.proofs.Common.{◌≡◌, Bool, true, false, cond, List, [], ◌∷◌, ◌++◌, codes, map, refl, ap, ◌∙◌, append_assoc}
use Rattle.json.specs.{Token.{Token, begin_array, begin_object, end_array, key, string}, Written.{Writes, Written}}
use Rattle.span_table_text.specs.{Programs, Unit as TimeUnit, are_same, number_name, usual_numbers, Schema, Tokens.{Appends, Follow, columns_tokens, list_tokens, number_tokens, of_tokens, start_tokens, unit_tokens}}

-- one token was written
pub Follow-one : {E : Type 0} {done : Unit {0}} {old new : Written} {token : Token} → Writes {E = E} (Ok done) old new token → Follow old new (token ∷ [])
Follow-one writes = record { before = writes.room.0; tokens = writes.ok }

-- tokens that are the same were written
pub Follow-same : {old new : Written} {tokens others : List Token} → tokens ≡ others → Follow old new tokens → Follow old new others
Follow-same {old = old} same follow = record { before = follow.before; tokens = follow.tokens ∙ ap (λ l. old.tokens ++ l) same }

-- some were, and then more
pub Follow-append : {old middle new : Written} {tokens more : List Token} → Follow old middle tokens → Follow middle new more → Follow old new (tokens ++ more)
Follow-append {old = old} {tokens = tokens} {more = more} first second = record {
  before = second.before ∙ first.before;
  tokens = second.tokens ∙ ap (λ l. l ++ more) first.tokens ∙ append_assoc old.tokens tokens more;
}

-- and then more, if that succeeded
pub Appends-append : {E : Type 0} {old middle : Written} {tokens : List Token} (result : Result (Unit {0}) E) (new : Written) (more : List Token) → Follow old middle tokens → Appends result middle new more →
    Appends result old new (tokens ++ more)
Appends-append (Ok done) new more first second = Follow-append first second
Appends-append (Err error) new more first second = tt

-- and then one, if that succeeded
pub Appends-one : {E : Type 0} {old middle new : Written} {tokens : List Token} {token : Token} (result : Result (Unit {0}) E) → Follow old middle tokens → Writes result middle new token → Appends result old new (tokens ++ token ∷ [])
Appends-one (Ok done) first second = Follow-append first (Follow-one second)
Appends-one (Err error) first second = tt

-- what is behind the numbers of a first line
list_tokens-append : (schema : Schema) (rest : List Token) → list_tokens schema [] ++ rest ≡ list_tokens schema rest
list_tokens-append schema rest = by (are_same schema.numbers (usual_numbers Programs schema.of))
  where
    listed : List Token → List Token
    listed more = key (codes "numbers") ∷ begin_array ∷ (map string (map number_name schema.numbers) ++ end_array ∷ more)

    by : (b : Bool) → cond b [] (listed []) ++ rest ≡ cond b rest (listed rest)
    by true = refl
    by false = ap (λ l. key (codes "numbers") ∷ begin_array ∷ l) (append_assoc (map string (map number_name schema.numbers)) (end_array ∷ []) rest)

-- what is behind a first line up to its columns and numbers
pub start_tokens-append : (schema : Schema) (unit : TimeUnit) (rest : List Token) → start_tokens schema unit [] ++ rest ≡ start_tokens schema unit rest
start_tokens-append schema unit rest = behind (list_tokens schema []) ∙ ap begun (list_tokens-append schema rest)
  where
    begun : List Token → List Token
    begun list = begin_object ∷ (number_tokens (codes "tracebook") 1 ++ (of_tokens schema.of ++ (unit_tokens unit ++ columns_tokens schema.columns list)))

    behind : (list : List Token) → begun list ++ rest ≡ begun (list ++ rest)
    behind list = simp append_assoc refl

-- the columns of a first line, ended, and what is behind them
pub columns-ended : (of unit names : List Token) (first second : Token) (rest : List Token) → (of ++ (unit ++ first ∷ second ∷ (names ++ end_array ∷ []))) ++ rest ≡ of ++ (unit ++ first ∷ second ∷ (names ++ end_array ∷ rest))
columns-ended of unit names first second rest = simp append_assoc refl
