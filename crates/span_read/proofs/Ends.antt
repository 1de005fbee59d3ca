-- What a call takes are tokens without a fault; those of an array end with its bracket.
use Rattle.std.proofs.Common.{◌≡◌, ℕ, zero, suc, List, [], ◌∷◌, ◌++◌, length, Option, Some, None, option_and_then, append_assoc, append-nil, refl, sym, ap, ◌∙◌, subst}
use Rattle.json.specs.{Json.{Json, Items, item, Members, member, Parse, parse_map, after_end_array, read_key, items_step, members_step, items, members, value_with, value}, Token.{Token, begin_object, end_object, begin_array, end_array, key, string, number, boolean, null, bad}}
use Rattle.json.proofs.Grammar.{left, left-parse_map, closed_array, read_key_is}
use Rattle.span_read.specs.Parts.{AreGood}
use Rattle.json.specs.Json as json

pub AreGood-append : (ts us : List Token) → AreGood ts → AreGood us → AreGood (ts ++ us)
AreGood-append [] us good more = more
AreGood-append (bad ∷ ts) us good more = absurd good
AreGood-append (t ∷ ts) us good more = AreGood-append ts us good more

-- ---- what a call leaves is the end of what it was given, behind tokens without a fault

abbrev IsEnd : List Token → List Token → Type 0
IsEnd whole end = (front : List Token) × (whole ≡ front ++ end) × AreGood front

abbrev Leaves : {A : Type 0} → Parse A → Type 0
Leaves {A} p = (ts r : List Token) → left (p ts) ≡ Some r → IsEnd ts r

itself : (ts r : List Token) → Some ts ≡ Some r → IsEnd ts r
itself ts r e = ([], cc, tt)

later : (t : Token) (ts r : List Token) → ((us : List Token) → AreGood us → AreGood (t ∷ us)) → IsEnd ts r → IsEnd (t ∷ ts) r
later t ts r good end = (t ∷ end.0, ap (λ us. t ∷ us) end.1, good end.0 end.2)

both_ends : (ts s r : List Token) → IsEnd ts s → IsEnd s r → IsEnd ts r
both_ends ts s r a b = (a.0 ++ b.0, a.1 ∙ ap (λ us. a.0 ++ us) b.1 ∙ sym (append_assoc a.0 b.0 r), AreGood-append a.0 b.0 a.2 b.2)

then_more : {B : Type 0} (f : Json → B → B) (more : Parse B) (ts : List Token) (o : Option (Json × List Token)) (r : List Token) → Leaves more → ((s : List Token) → left o ≡ Some s → IsEnd ts s)
    → left (option_and_then (λ q. parse_map (f q.0) (more q.1)) o) ≡ Some r → IsEnd ts r
then_more f more ts None r leaves first e = cc
then_more f more ts (Some q) r leaves first e = both_ends ts q.1 r (first q.1 refl) (leaves q.1 r (sym (left-parse_map (f q.0) (more q.1)) ∙ e))

module _ (p : Parse Json) (leaves : Leaves p) where
  item_turn : (more : Parse Items) (ts r : List Token) (o : Option (List Token)) → Leaves more → after_end_array ts ≡ o → left (items_step p more ts o) ≡ Some r → IsEnd ts r
  item_turn more ts r (Some x) again e f = let last = closed_array ts x e in let same : x ≡ r = cc in (end_array ∷ [], last ∙ ap (λ us. end_array ∷ us) same, tt)
  item_turn more ts r None again e f = then_more item more ts (p ts) r again (leaves ts) f

  Leaves-items : (n : ℕ) → Leaves (items p n)
  unfolding items
  Leaves-items zero ts r e = cc
  Leaves-items (suc n) ts r e = item_turn (items p n) ts r (after_end_array ts) (Leaves-items n) refl e

  member_turn : (more : Parse Members) (ts r : List Token) (o : Option (Option (List ℕ) × List Token)) → Leaves more → read_key ts ≡ o
      → left (option_and_then (λ q. members_step p more q.0 q.1) o) ≡ Some r → IsEnd ts r
  member_turn more ts r None again e f = cc
  member_turn more ts r (Some (None, s)) again e f = let same : s ≡ r = cc in (end_object ∷ [], read_key_is ts None s e ∙ ap (λ us. end_object ∷ us) same, tt)
  member_turn more ts r (Some (Some k, s)) again e f =
      both_ends ts s r (key k ∷ [], read_key_is ts (Some k) s e, tt) (then_more (member k) more s (p s) r again (leaves s) f)

  Leaves-members : (n : ℕ) → Leaves (members p n)
  unfolding members
  Leaves-members zero ts r e = cc
  Leaves-members (suc n) ts r e = member_turn (members p n) ts r (read_key ts) (Leaves-members n) refl e

Leaves-value_with : (a : Parse Items) (o : Parse Members) → Leaves a → Leaves o → Leaves (value_with a o)
Leaves-value_with a o p q [] r e = cc
Leaves-value_with a o p q (begin_object ∷ ts) r e = later begin_object ts r (λ us g. g) (q ts r (sym (left-parse_map json.object (o ts)) ∙ e))
Leaves-value_with a o p q (end_object ∷ ts) r e = cc
Leaves-value_with a o p q (begin_array ∷ ts) r e = later begin_array ts r (λ us g. g) (p ts r (sym (left-parse_map json.array (a ts)) ∙ e))
Leaves-value_with a o p q (end_array ∷ ts) r e = cc
Leaves-value_with a o p q (key s ∷ ts) r e = cc
Leaves-value_with a o p q (string s ∷ ts) r e = later _ ts r (λ us g. g) (itself ts r e)
Leaves-value_with a o p q (number s ∷ ts) r e = later _ ts r (λ us g. g) (itself ts r e)
Leaves-value_with a o p q (boolean b ∷ ts) r e = later _ ts r (λ us g. g) (itself ts r e)
Leaves-value_with a o p q (null ∷ ts) r e = later _ ts r (λ us g. g) (itself ts r e)
Leaves-value_with a o p q (bad ∷ ts) r e = cc

Leaves-value : (depth : ℕ) → Leaves (value depth)
unfolding value
Leaves-value zero = Leaves-value_with (λ ts. None) (λ ts. None) (λ ts r e. cc) (λ ts r e. cc)
Leaves-value (suc d) =
    Leaves-value_with (λ ts. items (value d) (length ts) ts) (λ ts. members (value d) (length ts) ts) (λ ts. Leaves-items (value d) (Leaves-value d) (length ts) ts) (λ ts. Leaves-members (value d) (Leaves-value d) (length ts) ts)

-- ---- the items of an array end with its bracket

abbrev pub EndsWith : {A : Type 0} → A → List A → Type 0
EndsWith {A} x xs = (front : List A) × (xs ≡ front ++ x ∷ [])

abbrev TakesAll : {A : Type 0} → Parse A → Type 0
TakesAll {A} p = (ts : List Token) → left (p ts) ≡ Some [] → EndsWith end_array ts

longer : (ts s : List Token) → IsEnd ts s → EndsWith end_array s → EndsWith end_array ts
longer ts s end last = (end.0 ++ last.0, end.1 ∙ ap (λ us. end.0 ++ us) last.1 ∙ sym (append_assoc end.0 last.0 (end_array ∷ [])))

then_last : (f : Json → Items → Items) (more : Parse Items) (ts : List Token) (o : Option (Json × List Token)) → TakesAll more → ((s : List Token) → left o ≡ Some s → IsEnd ts s)
    → left (option_and_then (λ q. parse_map (f q.0) (more q.1)) o) ≡ Some [] → EndsWith end_array ts
then_last f more ts None last first e = cc
then_last f more ts (Some q) last first e = longer ts q.1 (first q.1 refl) (last q.1 (sym (left-parse_map (f q.0) (more q.1)) ∙ e))

module _ (depth : ℕ) where
  last_turn : (more : Parse Items) (ts : List Token) (o : Option (List Token)) → TakesAll more → after_end_array ts ≡ o → left (items_step (value depth) more ts o) ≡ Some [] → EndsWith end_array ts
  last_turn more ts (Some x) again e f = let same : x ≡ [] = cc in ([], closed_array ts x e ∙ ap (λ us. end_array ∷ us) same)
  last_turn more ts None again e f = then_last item more ts (value depth ts) again (Leaves-value depth ts) f

  TakesAll-items : (n : ℕ) → TakesAll (items (value depth) n)
  unfolding items
  TakesAll-items zero ts e = cc
  TakesAll-items (suc n) ts e = last_turn (items (value depth) n) ts (after_end_array ts) (TakesAll-items n) refl e

pub array_ends : (depth : ℕ) (ts : List Token) → left (value depth (begin_array ∷ ts)) ≡ Some [] → EndsWith end_array (begin_array ∷ ts)
unfolding value
array_ends zero ts e = cc
array_ends (suc d) ts e = longer (begin_array ∷ ts) ts (begin_array ∷ [], refl, tt) (TakesAll-items d (length ts) ts (sym (left-parse_map json.array (items (value d) (length ts) ts)) ∙ e))

-- ---- all tokens are taken

all_good : (ts : List Token) → IsEnd ts [] → AreGood ts
all_good ts end = subst AreGood (sym (append-nil end.0) ∙ sym end.1) end.2

pub items_good : (depth n : ℕ) (ts : List Token) → left (items (value depth) n ts) ≡ Some [] → AreGood ts
items_good depth n ts e = all_good ts (Leaves-items (value depth) (Leaves-value depth) n ts [] e)

pub value_good : (depth : ℕ) (ts : List Token) → left (value depth ts) ≡ Some [] → AreGood ts
value_good depth ts e = all_good ts (Leaves-value depth ts [] e)
