-- Which numbers are among some, by their names.
use Rattle.std.specs.{Cmp.Lexicographic.bytes_decides, Prelude.All, Str.bytes_eq}
use Rattle.std.proofs.{Common.{◌≡◌, ◌≢◌, ◌||◌, Bool, true, false, cond, true≢false, Some, arith, codes, length, List, [], ◌∷◌, ◌++◌, append_assoc, map, refl, sym, ap, subst, ◌∙◌}, lemmas.{Bool.or_parts, List.Elements.{All-cons, All-head, All-nil, All-tail}}}
use Rattle.json.specs.Token.{Token, begin_array, end_array, key, string}
use Rattle.span_table.specs.Numbers.{number_named}
use Rattle.span_table.proofs.Numbers.{are_same-same, number-called}
use Rattle.span_parts.specs.{Bytes, Number, Programs, Schema, AreDistinct, are_same, has_number, list_tokens, number_name, usual_numbers, Guess.MayFollowNumbers}

-- a number that is not among others has another name than each
pub differs-all : (n : Number) (numbers : List Number) → has_number numbers n ≡ false → All (λ name. number_name n ≢ name) (map number_name numbers)
differs-all n [] none = All-nil (λ (name : Bytes). number_name n ≢ name)
differs-all n (m ∷ numbers) none =
    let both = or_parts (bytes_eq (number_name m) (number_name n)) (has_number numbers n) none in
    All-cons (λ (name : Bytes). number_name n ≢ name) (number_name m) (map number_name numbers)
    (λ same. true≢false (sym ((bytes_decides (number_name m) (number_name n)).1 (sym same)) ∙ both.0)) (differs-all n numbers both.1)

-- and the other way round
pub differs-has : (n : Number) (numbers : List Number) → All (λ name. number_name n ≢ name) (map number_name numbers) → has_number numbers n ≡ false
differs-has n [] all = refl
differs-has n (m ∷ numbers) all =
    let apart = All-head (λ (name : Bytes). number_name n ≢ name) (number_name m) (map number_name numbers) all in
    by (bytes_eq (number_name m) (number_name n)) refl (differs-has n numbers (All-tail (λ (name : Bytes). number_name n ≢ name) (number_name m) (map number_name numbers) all))
  where
    by : (b : Bool) → bytes_eq (number_name m) (number_name n) ≡ b → has_number numbers n ≡ false → (b || has_number numbers n) ≡ false
    by true e rest = absurd (All-head (λ (name : Bytes). number_name n ≢ name) (number_name m) (map number_name numbers) all (sym ((bytes_decides (number_name m) (number_name n)).0 e)))
    by false e rest = rest

-- of distinct numbers the next is not among those before it
pub next-new : (numbers later : List Number) (n : Number) → AreDistinct (map number_name (numbers ++ n ∷ later)) → has_number numbers n ≡ false
next-new [] later n distinct = refl
next-new (m ∷ numbers) later n distinct = by (bytes_eq (number_name m) (number_name n)) refl (next-new numbers later n distinct.1)
  where
    at : (before : List Number) → All (λ name. number_name m ≢ name) (map number_name (before ++ n ∷ later)) → number_name m ≢ number_name n
    at [] all = All-head (λ (name : Bytes). number_name m ≢ name) (number_name n) (map number_name later) all
    at (x ∷ before) all = at before (All-tail (λ (name : Bytes). number_name m ≢ name) (number_name x) (map number_name (before ++ n ∷ later)) all)

    by : (b : Bool) → bytes_eq (number_name m) (number_name n) ≡ b → has_number numbers n ≡ false → (b || has_number numbers n) ≡ false
    by true e rest = absurd (at numbers distinct.0 ((bytes_decides (number_name m) (number_name n)).0 e))
    by false e rest = rest

-- a name that comes next is that of the first of some numbers
pub record NextNumber (numbers later : List Number) (name : Bytes) (more rest : List Token) : Type 0 where
  pub number : Number
  pub others : List Number
  pub split : later ≡ number ∷ others
  pub named : number_named name ≡ Some number
  pub fresh : has_number numbers number ≡ false
  pub follow : MayFollowNumbers (numbers ++ number ∷ []) others
  pub next : more ≡ map string (map number_name others) ++ end_array ∷ rest

pub next_number : (numbers later : List Number) (name : Bytes) (more rest : List Token) → MayFollowNumbers numbers later → string name ∷ more ≡ map string (map number_name later) ++ end_array ∷ rest → NextNumber numbers later name more rest
next_number numbers [] name more rest may next = absurd cc
next_number numbers (n ∷ others) name more rest may next =
    let own : number_name n ≡ name = cc in
    record {
      number = n;
      others = others;
      split = refl;
      named = ap number_named (sym own) ∙ number-called n;
      fresh = next-new numbers others n may;
      follow = subst (λ l. AreDistinct (map number_name l)) (sym (append_assoc numbers (n ∷ []) others)) may;
      next = cc;
    }

-- where no list of numbers is next, a schema has the usual ones
pub usual-next : (schema : Schema) (tokens rest : List Token) → ((more : List Token) → tokens ≡ key (codes "numbers") ∷ more → ⊥) → tokens ≡ list_tokens schema (key (codes "rows") ∷ rest) →
    (tokens ≡ key (codes "rows") ∷ rest) × (usual_numbers Programs schema.of ≡ schema.numbers)
usual-next schema tokens rest none is = by (are_same schema.numbers (usual_numbers Programs schema.of)) refl is
  where
    by : (b : Bool) → are_same schema.numbers (usual_numbers Programs schema.of) ≡ b →
        tokens ≡ cond b (key (codes "rows") ∷ rest) (key (codes "numbers") ∷ begin_array ∷ (map string (map number_name schema.numbers) ++ end_array ∷ key (codes "rows") ∷ rest)) →
        (tokens ≡ key (codes "rows") ∷ rest) × (usual_numbers Programs schema.of ≡ schema.numbers)
    by true same is = (is, sym (are_same-same schema.numbers (usual_numbers Programs schema.of) same))
    by false differ is = absurd (none (begin_array ∷ (map string (map number_name schema.numbers) ++ end_array ∷ key (codes "rows") ∷ rest)) is)

-- where one is next, it has the schema's
pub list-next : (schema : Schema) (tokens rest : List Token) → ((other : Bytes) (more : List Token) → other ≢ codes "numbers" → tokens ≡ key other ∷ more → ⊥) → tokens ≡ list_tokens schema (key (codes "rows") ∷ rest) →
    tokens ≡ key (codes "numbers") ∷ begin_array ∷ (map string (map number_name schema.numbers) ++ end_array ∷ key (codes "rows") ∷ rest)
list-next schema tokens rest some is = by (are_same schema.numbers (usual_numbers Programs schema.of)) is
  where
    listed : List Token
    listed = key (codes "numbers") ∷ begin_array ∷ (map string (map number_name schema.numbers) ++ end_array ∷ key (codes "rows") ∷ rest)

    by : (b : Bool) → tokens ≡ cond b (key (codes "rows") ∷ rest) listed → tokens ≡ listed
    by true is = absurd (some (codes "rows") rest (λ same. omega (arith, ap length same)) is)
    by false is = is
