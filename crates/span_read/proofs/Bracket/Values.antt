-- What a value is of tokens with a closing bracket behind them.
use Rattle.std.proofs.Common.{◌≡◌, ℕ, zero, suc, ◌<◌, ◌≤◌, List, [], ◌∷◌, length, Option, Some, None, option_map, option_and_then, refl, sym, ap, ◌∙◌, arith}
use Rattle.json.specs.{Json.{Json, Items, item, Members, member, Parse, parse_map, after_end_array, read_key, items_step, members_step, items, members, value_with, value}, Token.{Token, begin_object, end_object, begin_array, end_array, key, string, number, boolean, null, bad}}
use Rattle.json.proofs.Grammar.{left, left-parse_map, Takes, skip_value-shorter, value_is, read_key-shorter}
use Rattle.span_read.specs.Ending.{with_bracket}
use Rattle.span_read.proofs.Grammar.{items-nothing}
use Rattle.json.specs.Json as json

-- the same was taken, with the bracket behind what is left
abbrev pub with_bracket_left : {A : Type 0} → Option (A × List Token) → Option (A × List Token)
with_bracket_left o = option_map (λ p. (p.0, with_bracket p.1)) o

-- a call takes `o` of its tokens, and `closed` with the bracket behind them: the same, or where it takes nothing without the bracket, all the tokens if any
abbrev pub IsClosed : {A : Type 0} → Option (A × List Token) → Option (A × List Token) → Type 0
IsClosed None closed = (r : List Token) → left closed ≡ Some r → r ≡ []
IsClosed (Some p) closed = closed ≡ Some (p.0, with_bracket p.1)

IsClosed-same : {A : Type 0} (o closed : Option (A × List Token)) → closed ≡ with_bracket_left o → IsClosed o closed
IsClosed-same None closed e = λ r e2. cc
IsClosed-same (Some p) closed e = e

IsClosed-map : {A B : Type 0} (f : A → B) (o closed : Option (A × List Token)) → IsClosed o closed → IsClosed (parse_map f o) (parse_map f closed)
IsClosed-map f None closed is = λ r e. is r (sym (left-parse_map f closed) ∙ e)
IsClosed-map f (Some p) closed is = ap (parse_map f) is

same-map : {A B : Type 0} (f : A → B) (o closed : Option (A × List Token)) → closed ≡ with_bracket_left o → parse_map f closed ≡ with_bracket_left (parse_map f o)
same-map f None closed is = ap (parse_map f) is
same-map f (Some p) closed is = ap (parse_map f) is

pub after_end_array-bracket : (t : Token) (ts : List Token) → after_end_array (with_bracket (t ∷ ts)) ≡ option_map with_bracket (after_end_array (t ∷ ts))
after_end_array-bracket begin_object ts = refl
after_end_array-bracket end_object ts = refl
after_end_array-bracket begin_array ts = refl
after_end_array-bracket end_array ts = refl
after_end_array-bracket (key s) ts = refl
after_end_array-bracket (string s) ts = refl
after_end_array-bracket (number s) ts = refl
after_end_array-bracket (boolean b) ts = refl
after_end_array-bracket null ts = refl
after_end_array-bracket bad ts = refl

read_key-bracket : (ts : List Token) → read_key (with_bracket ts) ≡ with_bracket_left (read_key ts)
read_key-bracket [] = refl
read_key-bracket (bad ∷ ts) = refl
read_key-bracket (t ∷ ts) = refl

-- with the bracket the tokens are never none
some_tokens : (ts : List Token) → 0 < length (with_bracket ts)
some_tokens [] = omega arith
some_tokens (bad ∷ ts) = omega arith
some_tokens (t ∷ ts) = omega arith

-- so many turns are enough for some tokens, with and without the bracket
record AreEnough (n m : ℕ) (ts : List Token) : Type 0 where
  plain : length ts ≤ n
  closed : length (with_bracket ts) ≤ m

module _ (p : Parse Json) (takes : Takes p) (closes : (ts : List Token) → IsClosed (p ts) (p (with_bracket ts))) (nothing : p [] ≡ None) where
  -- no member begins where nothing is left
  members_none : (m : ℕ) → members p m [] ≡ None
  unfolding members
  members_none zero = refl
  members_none (suc m) = refl

  item_taken : (n m : ℕ) (ts : List Token) (o closed : Option (Json × List Token)) → IsClosed o closed → p ts ≡ o → p (with_bracket ts) ≡ closed → ((r : List Token) → AreEnough n m r → IsClosed (items p n r) (items p m (with_bracket r))) → AreEnough (suc n) (suc m) ts
      → IsClosed (option_and_then (λ q. parse_map (item q.0) (items p n q.1)) o) (option_and_then (λ q. parse_map (item q.0) (items p m q.1)) closed)
  item_taken n m ts None None is e f again enough = λ r h. cc
  item_taken n m ts None (Some q) is e f again enough = λ r h.
      let none : items p m q.1 ≡ None = ap (items p m) (is q.1 refl) ∙ items-nothing p nothing m in
      let never : None ≡ Some r = ap left (sym (ap (parse_map (item q.0)) none)) ∙ h in
      cc
  item_taken n m ts (Some q) closed is e f again enough =
      let less = takes ts q.1 (ap left e) in
      let less_closed = takes (with_bracket ts) (with_bracket q.1) (ap left (f ∙ is)) in
      let rest = again q.1 (record { plain = omega (arith, enough.plain); closed = omega (arith, enough.closed) }) in
      rw is (IsClosed-map (item q.0) (items p n q.1) (items p m (with_bracket q.1)) rest)

  item_turn : (n m : ℕ) (t : Token) (ts : List Token) (o : Option (List Token)) → after_end_array (t ∷ ts) ≡ o → ((r : List Token) → AreEnough n m r → IsClosed (items p n r) (items p m (with_bracket r))) → AreEnough (suc n) (suc m) (t ∷ ts)
      → IsClosed (items_step p (items p n) (t ∷ ts) o) (items_step p (items p m) (with_bracket (t ∷ ts)) (option_map with_bracket o))
  item_turn n m t ts None e again enough = item_taken n m (t ∷ ts) _ _ (closes (t ∷ ts)) refl refl again enough
  item_turn n m t ts (Some r) e again enough = refl

  IsClosed-items : (n m : ℕ) (ts : List Token) → AreEnough n m ts → IsClosed (items p n ts) (items p m (with_bracket ts))
  unfolding items
  IsClosed-items n zero ts enough = absurd (omega (arith, some_tokens ts, enough.closed))
  IsClosed-items zero (suc m) [] enough = λ r e. cc
  IsClosed-items (suc n) (suc m) [] enough = rw nothing (λ r e. cc)
  IsClosed-items zero (suc m) (t ∷ ts) enough = absurd (omega (arith, enough.plain))
  IsClosed-items (suc n) (suc m) (t ∷ ts) enough = rw (after_end_array-bracket t ts) (item_turn n m t ts (after_end_array (t ∷ ts)) refl (IsClosed-items n m) enough)

  member_taken : (n m : ℕ) (k : List ℕ) (ts : List Token) (o closed : Option (Json × List Token)) → IsClosed o closed → p ts ≡ o → p (with_bracket ts) ≡ closed
      → ((r : List Token) → AreEnough n m r → members p m (with_bracket r) ≡ with_bracket_left (members p n r)) → AreEnough n m ts
      → option_and_then (λ q. parse_map (member k q.0) (members p m q.1)) closed ≡ with_bracket_left (option_and_then (λ q. parse_map (member k q.0) (members p n q.1)) o)
  member_taken n m k ts None None is e f again enough = refl
  member_taken n m k ts None (Some q) is e f again enough = ap (parse_map (member k q.0)) (ap (members p m) (is q.1 refl) ∙ members_none m)
  member_taken n m k ts (Some q) closed is e f again enough =
      let less = takes ts q.1 (ap left e) in
      let less_closed = takes (with_bracket ts) (with_bracket q.1) (ap left (f ∙ is)) in
      let rest = again q.1 (record { plain = omega (arith, enough.plain); closed = omega (arith, enough.closed) }) in
      rw is (same-map (member k q.0) (members p n q.1) (members p m (with_bracket q.1)) rest)

  member_turn : (n m : ℕ) (ts : List Token) (o : Option (Option (List ℕ) × List Token)) → read_key ts ≡ o
      → ((r : List Token) → AreEnough n m r → members p m (with_bracket r) ≡ with_bracket_left (members p n r)) → AreEnough (suc n) (suc m) ts
      → option_and_then (λ q. members_step p (members p m) q.0 q.1) (with_bracket_left o) ≡ with_bracket_left (option_and_then (λ q. members_step p (members p n) q.0 q.1) o)
  member_turn n m ts None e again enough = refl
  member_turn n m ts (Some (None, r)) e again enough = refl
  member_turn n m ts (Some (Some k, r)) e again enough =
      let less = read_key-shorter ts (Some k) r e in
      let less_closed = read_key-shorter (with_bracket ts) (Some k) (with_bracket r) (read_key-bracket ts ∙ ap with_bracket_left e) in
      member_taken n m k r _ _ (closes r) refl refl again (record { plain = omega (arith, enough.plain); closed = omega (arith, enough.closed) })

  members-bracket : (n m : ℕ) (ts : List Token) → AreEnough n m ts → members p m (with_bracket ts) ≡ with_bracket_left (members p n ts)
  unfolding members
  members-bracket n zero ts enough = absurd (omega (arith, some_tokens ts, enough.closed))
  members-bracket zero (suc m) [] enough = refl
  members-bracket zero (suc m) (t ∷ ts) enough = absurd (omega (arith, enough.plain))
  members-bracket (suc n) (suc m) ts enough = ap (option_and_then (λ q. members_step p (members p m) q.0 q.1)) (read_key-bracket ts) ∙ member_turn n m ts (read_key ts) refl (members-bracket n m) enough

IsClosed-value_with : (a : Parse Items) (o : Parse Members) → ((ts : List Token) → IsClosed (a ts) (a (with_bracket ts))) → ((ts : List Token) → o (with_bracket ts) ≡ with_bracket_left (o ts)) → (ts : List Token)
    → IsClosed (value_with a o ts) (value_with a o (with_bracket ts))
IsClosed-value_with a o p q [] = λ r e. cc
IsClosed-value_with a o p q (begin_object ∷ ts) = IsClosed-map json.object (o ts) _ (IsClosed-same (o ts) _ (q ts))
IsClosed-value_with a o p q (end_object ∷ ts) = λ r e. cc
IsClosed-value_with a o p q (begin_array ∷ ts) = IsClosed-map json.array (a ts) _ (p ts)
IsClosed-value_with a o p q (end_array ∷ ts) = λ r e. cc
IsClosed-value_with a o p q (key s ∷ ts) = λ r e. cc
IsClosed-value_with a o p q (string s ∷ ts) = refl
IsClosed-value_with a o p q (number s ∷ ts) = refl
IsClosed-value_with a o p q (boolean b ∷ ts) = refl
IsClosed-value_with a o p q (null ∷ ts) = refl
IsClosed-value_with a o p q (bad ∷ ts) = λ r e. cc

enough : (ts : List Token) → AreEnough (length ts) (length (with_bracket ts)) ts
enough ts = record { plain = omega arith; closed = omega arith }

pub IsClosed-value : (depth : ℕ) (ts : List Token) → IsClosed (value depth ts) (value depth (with_bracket ts))
unfolding value
IsClosed-value zero = IsClosed-value_with (λ ts. None) (λ ts. None) (λ ts r e. cc) (λ ts. refl)
IsClosed-value (suc d) =
    IsClosed-value_with (λ ts. items (value d) (length ts) ts) (λ ts. members (value d) (length ts) ts)
    (λ ts. IsClosed-items (value d) (skip_value-shorter d) (IsClosed-value d) (value_is d []) (length ts) (length (with_bracket ts)) ts (enough ts))
    (λ ts. members-bracket (value d) (skip_value-shorter d) (IsClosed-value d) (value_is d []) (length ts) (length (with_bracket ts)) ts (enough ts))

-- an object can't take the bracket
pub object-bracket : (depth : ℕ) (ts : List Token) → value depth (begin_object ∷ with_bracket ts) ≡ with_bracket_left (value depth (begin_object ∷ ts))
unfolding value
object-bracket zero ts = refl
object-bracket (suc d) ts =
    same-map json.object (members (value d) (length ts) ts) _ (members-bracket (value d) (skip_value-shorter d) (IsClosed-value d) (value_is d []) (length ts) (length (with_bracket ts)) ts (enough ts))
