-- What is found among the tokens of a line.
use Rattle.std.specs.{Borrow.Bor, Prelude.All}
use Rattle.std.proofs.{Common.{◌≡◌, ◌≢◌, List, [], ◌∷◌, ◌++◌, true, map, refl, sym, ap, subst, ◌∙◌, append_assoc, Some, None, arith}, lemmas.List.length-append}
use Rattle.json.specs.{Reads.token_of, Token.{Token, end_array, key, string}, declared.token.Token.Token as Given}
use Rattle.span_table_text.proofs.{Determined.column_name-not_number, PrintedLines.IsOfArgument-any}
use Rattle.span_parts.specs.{Bytes, Column, Number, ArgValue, Value, column_name, is_column, number_name, TableKey, AreDistinct, IsKeyOf, IsOfArgument, key_tokens, name_tokens, value_tokens, Guess.{Found, MayFollow}}
use Rattle.span_parts.proofs.Lists.{All-at, All-tail}

-- a name that comes next is that of the first of some columns
pub record NextColumn (columns later : List Column) (name : Bytes) (more rest : List Token) : Type 0 where
  pub column : Column
  pub others : List Column
  pub split : later ≡ column ∷ others
  pub is : is_column column ≡ true
  pub named : column_name column ≡ name
  pub follow : MayFollow (columns ++ column ∷ []) others
  pub next : more ≡ name_tokens others ++ end_array ∷ rest

pub next_column : (columns later : List Column) (name : Bytes) (more rest : List Token) → MayFollow columns later → string name ∷ more ≡ name_tokens later ++ end_array ∷ rest → NextColumn columns later name more rest
next_column columns [] name more rest may next = absurd cc
next_column columns (column ∷ others) name more rest may next = record {
  column = column;
  others = others;
  split = refl;
  is = All-at (λ c. is_column c ≡ true) [] column others may.each;
  named = cc;
  follow = record { each = All-tail (λ c. is_column c ≡ true) column others may.each; few = omega (arith, length-append columns (column ∷ []), may.few) };
  next = cc;
}

-- a key that is next, and not of this name
record NextKey (name : Bytes) (tokens : List Token) : Type 0 where
  pub other : Bytes
  pub behind : List Token
  pub next : tokens ≡ key other ∷ behind
  pub differs : other ≢ name

-- behind a column without a value comes the key of another column, or that of the first number
next_key : (name : Bytes) (first : Number) (columns : List Column) (values : TableKey) (rest : List Token) → name ≢ number_name first → All (λ other. name ≢ other) (map column_name columns)
    → NextKey name (key_tokens columns values ++ key (number_name first) ∷ rest)
next_key name first [] values rest uncounted differ = record { other = number_name first; behind = rest; next = refl; differs = λ same. uncounted (sym same) }
next_key name first (column ∷ columns) [] rest uncounted differ = record { other = number_name first; behind = rest; next = refl; differs = λ same. uncounted (sym same) }
next_key name first (column ∷ columns) (None ∷ values) rest uncounted differ = next_key name first columns values rest uncounted (All-tail (λ other. name ≢ other) (column_name column) (map column_name columns) differ)
next_key name first (column ∷ columns) (Some value ∷ values) rest uncounted differ = record {
  other = column_name column;
  behind = (value_tokens value ++ key_tokens columns values) ++ key (number_name first) ∷ rest;
  next = refl;
  differs = λ same. All-at (λ other. name ≢ other) [] (column_name column) (map column_name columns) differ (sym same);
}

-- what was found for the first name is the first value of the key
pub record NextValue (names : List Bytes) (values : TableKey) (first : Number) (rest : List Token) (found : Value × Bor (List Given)) : Type 0 where
  pub columns : List Column
  pub later : TableKey
  pub split : values ≡ found.0 ∷ later
  pub keys : IsKeyOf columns later
  pub named : names ≡ map column_name columns
  pub next : map token_of found.1.now ≡ key_tokens columns later ++ key (number_name first) ∷ rest

module _ (name : Bytes) (names : List Bytes) (first : Number) (tokens rest : List Token) (found : Value × Bor (List Given))
    (there : (value : ArgValue) (left : List Token) → IsOfArgument (Some value) → tokens ≡ key name ∷ (value_tokens value ++ left) → Found (Some value) left found)
    (missing : (other : Bytes) (left : List Token) → other ≢ name → tokens ≡ key other ∷ left → Found None (key other ∷ left) found) where
  pub next_value : (columns : List Column) (values : TableKey) → AreDistinct (name ∷ names) → IsKeyOf columns values → name ∷ names ≡ map column_name columns → tokens ≡ key_tokens columns values ++ key (number_name first) ∷ rest → NextValue names values first rest found
  next_value [] values distinct keys named is = absurd cc
  next_value (column ∷ columns) [] distinct keys named is = absurd keys
  next_value (column ∷ columns) (None ∷ values) distinct keys named is =
      let own : column_name column ≡ name = cc in
      let others : names ≡ map column_name columns = cc in
      let uncounted : name ≢ number_name first = λ same. column_name-not_number first column (own ∙ same) in
      let next = next_key name first columns values rest uncounted (subst (All (λ other. name ≢ other)) others distinct.0) in
      let left = missing next.other next.behind next.differs (is ∙ next.next) in
      record { columns = columns; later = values; split = ap (λ v. v ∷ values) (sym left.0); keys = keys.1; named = others; next = left.1 ∙ sym next.next }
  next_value (column ∷ columns) (Some value ∷ values) distinct keys named is =
      let own : column_name column ≡ name = cc in
      let others : names ≡ map column_name columns = cc in
      let behind = key_tokens columns values ++ key (number_name first) ∷ rest in
      let left = there value behind (IsOfArgument-any column (Some value) keys.0)
      (is ∙ (λ i. key (own i) ∷ append_assoc (value_tokens value) (key_tokens columns values) (key (number_name first) ∷ rest) i)) in
      record { columns = columns; later = values; split = ap (λ v. v ∷ values) (sym left.0); keys = keys.1; named = others; next = left.1 }
