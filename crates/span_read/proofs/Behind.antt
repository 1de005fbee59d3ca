-- What is read of tokens is read the same with more tokens behind them.
use Rattle.std.proofs.Common.{◌≡◌, ℕ, zero, suc, ◌-◌, ◌<◌, ◌≤◌, List, [], ◌∷◌, ◌++◌, length, Option, Some, None, option_map, option_and_then, refl, ap, ◌∙◌, arith}
use Rattle.std.proofs.lemmas.List.{length-append}
use Rattle.json.specs.{Json.{Json, Items, no_items, item, Members, no_members, member, Parse, parse_map, after_end_array, read_key, items_step, members_step, items, members, value_with, value}, Token.{Token, begin_object, end_object, begin_array, end_array, key, string, number, boolean, null, bad}}
use Rattle.json.proofs.Grammar.{left, Takes, key_token, items_end, items_more, members_end, members_more, skip_value-shorter, read_key-shorter, closed_array, read_key_is}
use Rattle.serde_json.specs.{Data.Data, Read.{of_json, converted}}
use Rattle.span_read.specs.Tokens.{data_at}
use Rattle.span_read.proofs.Grammar.{converted_some}
use Rattle.json.specs.Json as json

goes_on-behind : (ts us : List Token) → 0 < length ts → after_end_array ts ≡ None → after_end_array (ts ++ us) ≡ None
goes_on-behind [] us some e = absurd (omega arith)
goes_on-behind (end_array ∷ ts) us some e = absurd (cc)
goes_on-behind (t ∷ ts) us some e = refl

key_read : (k : Option (List ℕ)) (r : List Token) → read_key (key_token k ∷ r) ≡ Some (k, r)
key_read None r = refl
key_read (Some k) r = refl

pub read_key-behind : (ts us r : List Token) (k : Option (List ℕ)) → read_key ts ≡ Some (k, r) → read_key (ts ++ us) ≡ Some (k, r ++ us)
read_key-behind ts us r k e = ap (λ xs. read_key (xs ++ us)) (read_key_is ts k r e) ∙ key_read k (r ++ us)

whole : {A : Type 0} (x y : A) → Some x ≡ Some y → x ≡ y
whole x y e = cc

with_data : (j : Json) (d : Data) (r : List Token) → of_json j ≡ Some d → converted of_json (Some (j, r)) ≡ Some (d, r)
with_data j d r e = ap (option_map (λ x. (x, r))) e

module _ (us : List Token) where
  -- what takes `a` and leaves `r` takes the same with `us` behind, and leaves `us` behind `r`
  abbrev Keeps : {A : Type 0} → Parse A → Type 0
  Keeps {A} p = (ts r : List Token) (a : A) → p ts ≡ Some (a, r) → p (ts ++ us) ≡ Some (a, r ++ us)

  mapped : {A B : Type 0} (f : A → B) (o behind : Option (A × List Token)) (b : B) (r : List Token) → parse_map f o ≡ Some (b, r) → ((a : A) → o ≡ Some (a, r) → behind ≡ Some (a, r ++ us)) → parse_map f behind ≡ Some (b, r ++ us)
  mapped f None behind b r e again = absurd (cc)
  mapped f (Some q) behind b r e again =
      let same = whole _ _ e in
      let rest : q.1 ≡ r = ap (λ p. p.1) same in
      let made : f q.0 ≡ b = ap (λ p. p.0) same in
      ap (parse_map f) (again q.0 (ap (λ s. Some (q.0, s)) rest)) ∙ ap (λ c. Some (c, r ++ us)) made

  module _ (p : Parse Json) (takes : Takes p) (keeps : Keeps p) where
    item_taken : (n m : ℕ) (ts r : List Token) (js : Items) (o : Option (Json × List Token)) → p ts ≡ o → after_end_array ts ≡ None → option_and_then (λ q. parse_map (item q.0) (items p n q.1)) o ≡ Some (js, r)
        → ((s t : List Token) (is : Items) → items p n s ≡ Some (is, t) → length (s ++ us) ≤ m - 1 → items p (m - 1) (s ++ us) ≡ Some (is, t ++ us)) → length (ts ++ us) ≤ m → items p m (ts ++ us) ≡ Some (js, r ++ us)
    item_taken n m ts r js None f goes e again enough = absurd (cc)
    item_taken n m ts r js (Some q) f goes e again enough =
        let less = takes ts q.1 (ap left f) in
        let long = length-append ts us in
        let fits : length (q.1 ++ us) ≤ m - 1 = omega (arith, length-append q.1 us) in
        items_more p m (ts ++ us) (q.1 ++ us) q.0 (omega arith) (goes_on-behind ts us (omega arith) goes) (keeps ts q.1 q.0 f)
        ∙ mapped (item q.0) (items p n q.1) _ js r e (λ is h. again q.1 r is h fits)

    item_turn : (n m : ℕ) (ts r : List Token) (js : Items) (o : Option (List Token)) → after_end_array ts ≡ o → items_step p (items p n) ts o ≡ Some (js, r)
        → ((s t : List Token) (is : Items) → items p n s ≡ Some (is, t) → length (s ++ us) ≤ m - 1 → items p (m - 1) (s ++ us) ≡ Some (is, t ++ us)) → length (ts ++ us) ≤ m → items p m (ts ++ us) ≡ Some (js, r ++ us)
    item_turn n m ts r js (Some x) f e again enough =
        let same = whole (no_items, x) (js, r) e in
        let none : no_items ≡ js = ap (λ p. p.0) same in
        let rest : x ≡ r = ap (λ p. p.1) same in
        items_end p m (ts ++ us) (x ++ us) enough (ap (λ xs. after_end_array (xs ++ us)) (closed_array ts x f)) ∙ ap (λ is. Some (is, x ++ us)) none ∙ ap (λ s. Some (js, s ++ us)) rest
    item_turn n m ts r js None f e again enough = item_taken n m ts r js (p ts) refl f e again enough

    Keeps-items : (n m : ℕ) (ts r : List Token) (js : Items) → items p n ts ≡ Some (js, r) → length (ts ++ us) ≤ m → items p m (ts ++ us) ≡ Some (js, r ++ us)
    unfolding items
    Keeps-items zero m ts r js e enough = absurd (cc)
    Keeps-items (suc n) m ts r js e enough = item_turn n m ts r js (after_end_array ts) refl e (λ s t is h fits. Keeps-items n (m - 1) s t is h fits) enough

    member_taken : (n m : ℕ) (k : List ℕ) (ts s r : List Token) (ms : Members) (o : Option (Json × List Token)) → p s ≡ o → read_key ts ≡ Some (Some k, s) → option_and_then (λ q. parse_map (member k q.0) (members p n q.1)) o ≡ Some (ms, r)
        → ((s t : List Token) (is : Members) → members p n s ≡ Some (is, t) → length (s ++ us) ≤ m - 1 → members p (m - 1) (s ++ us) ≡ Some (is, t ++ us)) → length (ts ++ us) ≤ m → members p m (ts ++ us) ≡ Some (ms, r ++ us)
    member_taken n m k ts s r ms None f named e again enough = absurd (cc)
    member_taken n m k ts s r ms (Some q) f named e again enough =
        let shorter = read_key-shorter ts (Some k) s named in
        let less = takes s q.1 (ap left f) in
        let long = length-append ts us in
        let fits : length (q.1 ++ us) ≤ m - 1 = omega (arith, length-append q.1 us) in
        members_more p m k (ts ++ us) (s ++ us) (q.1 ++ us) q.0 (omega arith) (read_key-behind ts us s (Some k) named) (keeps s q.1 q.0 f)
        ∙ mapped (member k q.0) (members p n q.1) _ ms r e (λ is h. again q.1 r is h fits)

    member_turn : (n m : ℕ) (ts r : List Token) (ms : Members) (o : Option (Option (List ℕ) × List Token)) → read_key ts ≡ o → option_and_then (λ q. members_step p (members p n) q.0 q.1) o ≡ Some (ms, r)
        → ((s t : List Token) (is : Members) → members p n s ≡ Some (is, t) → length (s ++ us) ≤ m - 1 → members p (m - 1) (s ++ us) ≡ Some (is, t ++ us)) → length (ts ++ us) ≤ m → members p m (ts ++ us) ≡ Some (ms, r ++ us)
    member_turn n m ts r ms None f e again enough = absurd (cc)
    member_turn n m ts r ms (Some (None, x)) f e again enough =
        let same = whole (no_members, x) (ms, r) e in
        let none : no_members ≡ ms = ap (λ p. p.0) same in
        let rest : x ≡ r = ap (λ p. p.1) same in
        members_end p m (ts ++ us) (x ++ us) enough (read_key-behind ts us x None f) ∙ ap (λ is. Some (is, x ++ us)) none ∙ ap (λ s. Some (ms, s ++ us)) rest
    member_turn n m ts r ms (Some (Some k, s)) f e again enough = member_taken n m k ts s r ms (p s) refl f e again enough

    Keeps-members : (n m : ℕ) (ts r : List Token) (ms : Members) → members p n ts ≡ Some (ms, r) → length (ts ++ us) ≤ m → members p m (ts ++ us) ≡ Some (ms, r ++ us)
    unfolding members
    Keeps-members zero m ts r ms e enough = absurd (cc)
    Keeps-members (suc n) m ts r ms e enough = member_turn n m ts r ms (read_key ts) refl e (λ s t is h fits. Keeps-members n (m - 1) s t is h fits) enough

  Keeps-value_with : (a : Parse Items) (o : Parse Members) → Keeps a → Keeps o → Keeps (value_with a o)
  Keeps-value_with a o p q [] r j e = absurd (cc)
  Keeps-value_with a o p q (begin_object ∷ ts) r j e = mapped json.object (o ts) (o (ts ++ us)) j r e (q ts r)
  Keeps-value_with a o p q (end_object ∷ ts) r j e = absurd (cc)
  Keeps-value_with a o p q (begin_array ∷ ts) r j e = mapped json.array (a ts) (a (ts ++ us)) j r e (p ts r)
  Keeps-value_with a o p q (end_array ∷ ts) r j e = absurd (cc)
  Keeps-value_with a o p q (key s ∷ ts) r j e = absurd (cc)
  Keeps-value_with a o p q (string s ∷ ts) r j e = ap (λ x. Some (x.0, x.1 ++ us)) (whole (json.string s, ts) (j, r) e)
  Keeps-value_with a o p q (number s ∷ ts) r j e = ap (λ x. Some (x.0, x.1 ++ us)) (whole (json.number s, ts) (j, r) e)
  Keeps-value_with a o p q (boolean b ∷ ts) r j e = ap (λ x. Some (x.0, x.1 ++ us)) (whole (json.boolean b, ts) (j, r) e)
  Keeps-value_with a o p q (null ∷ ts) r j e = ap (λ x. Some (x.0, x.1 ++ us)) (whole (json.null, ts) (j, r) e)
  Keeps-value_with a o p q (bad ∷ ts) r j e = absurd (cc)

  Keeps-value : (depth : ℕ) → Keeps (value depth)
  unfolding value
  Keeps-value zero = Keeps-value_with (λ ts. None) (λ ts. None) (λ ts r a e. absurd (cc)) (λ ts r a e. absurd (cc))
  Keeps-value (suc d) =
      Keeps-value_with (λ ts. items (value d) (length ts) ts) (λ ts. members (value d) (length ts) ts)
      (λ ts r a e. Keeps-items (value d) (skip_value-shorter d) (Keeps-value d) (length ts) (length (ts ++ us)) ts r a e (omega arith))
      (λ ts r a e. Keeps-members (value d) (skip_value-shorter d) (Keeps-value d) (length ts) (length (ts ++ us)) ts r a e (omega arith))

  -- the same data are taken with `us` behind what is left
  pub data_at-behind : (depth : ℕ) (ts r : List Token) (d : Data) → data_at depth ts ≡ Some (d, r) → data_at depth (ts ++ us) ≡ Some (d, r ++ us)
  data_at-behind depth ts r d e =
      let j = converted_some of_json (value depth ts) d r e in
      ap (converted of_json) (Keeps-value depth ts r j.0 j.1) ∙ with_data j.0 d (r ++ us) j.2
