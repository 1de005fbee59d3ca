-- What is read of a text whose middle was read before.
use Rattle.std.proofs.Common.{◌≡◌, ℕ, zero, suc, ◌<◌, ◌≤◌, List, [], ◌∷◌, ◌++◌, length, Bool, true, false, Option, Some, None, option_and_then, append_assoc, refl, sym, ap, ◌∙◌, subst, arith}
use Rattle.json.specs.{Json.{Parse, parse_map, after_end_array, read_key, items_step, items, value}, Lex.tokens, Token.{Token, begin_array, end_array, bad}}
use Rattle.json.proofs.Grammar.{left, Takes, skip_value-shorter, value_is}
use Rattle.serde_json.specs.{Data.{Data, array, Items, no_items, item}, Read.{of_items, converted}}
use Rattle.span_read.specs.{Divided.left_with, Elements.{ReadsSoFar, TakesUpTo}, Ending.{with_bracket, ended}, Parts.AreGood, Tokens.{TakesArray, TakesValue, items_before, ItemsSoFar}, declared.{divided.Middle.Middle, elements.End.{End, TheVariants.{Bracket, Text}}}}
use Rattle.span_read.proofs.{Behind.{data_at-behind, read_key-behind}, Ends.items_good, Grammar.{converted_some, items-nothing, items_over}}
use Rattle.json.specs.Json as json

-- ---- faults

pub AreGood-front : (ts us : List Token) → AreGood (ts ++ us) → AreGood ts
AreGood-front [] us good = tt
AreGood-front (bad ∷ ts) us good = absurd good
AreGood-front (t ∷ ts) us good = AreGood-front ts us good

-- a bracket comes behind all tokens if the first ones are without a fault
pub with_bracket-append : (ts us : List Token) → AreGood ts → with_bracket (ts ++ us) ≡ ts ++ with_bracket us
with_bracket-append [] us good = refl
with_bracket-append (bad ∷ ts) us good = absurd good
with_bracket-append (t ∷ ts) us good = ap (λ xs. t ∷ xs) (with_bracket-append ts us good)

ended-append : (bracket : Bool) (ts us : List Token) → AreGood ts → ended bracket (ts ++ us) ≡ ts ++ ended bracket us
ended-append true ts us good = with_bracket-append ts us good
ended-append false ts us good = refl

-- ---- turns of a loop, one behind the other

module _ (p : Parse json.Json) (takes : Takes p) (nothing : p [] ≡ None) where
  same_item : (n m : ℕ) (ts : List Token) (o : Option (json.Json × List Token)) → p ts ≡ o → ((s : List Token) → length s < length ts → items p n s ≡ items p m s)
      → option_and_then (λ q. parse_map (json.item q.0) (items p n q.1)) o ≡ option_and_then (λ q. parse_map (json.item q.0) (items p m q.1)) o
  same_item n m ts None e again = refl
  same_item n m ts (Some q) e again = ap (parse_map (json.item q.0)) (again q.1 (takes ts q.1 (ap left e)))

  same_step : (n m : ℕ) (ts : List Token) (o : Option (List Token)) → ((s : List Token) → length s < length ts → items p n s ≡ items p m s) → items_step p (items p n) ts o ≡ items_step p (items p m) ts o
  same_step n m ts (Some r) again = refl
  same_step n m ts None again = same_item n m ts (p ts) refl again

  -- turns past the count of the tokens change nothing
  items_turns : (n m : ℕ) (ts : List Token) → length ts ≤ n → length ts ≤ m → items p n ts ≡ items p m ts
  unfolding items
  items_turns zero m [] enough too = sym (items-nothing p nothing m)
  items_turns (suc n) zero [] enough too = items-nothing p nothing (suc n)
  items_turns zero m (t ∷ ts) enough too = absurd (omega (arith, enough))
  items_turns (suc n) zero (t ∷ ts) enough too = absurd (omega (arith, too))
  items_turns (suc n) (suc m) [] enough too = items-nothing p nothing (suc n) ∙ sym (items-nothing p nothing (suc m))
  items_turns (suc n) (suc m) (t ∷ ts) enough too = same_step n m (t ∷ ts) (after_end_array (t ∷ ts)) (λ s less. items_turns n m s (omega (arith, enough, less)) (omega (arith, too, less)))

before_both : (cs bs : List Data) (rest : Items) → items_before cs (items_before bs rest) ≡ items_before (cs ++ bs) rest
before_both [] bs rest = refl
before_both (a ∷ cs) bs rest = ap (item a) (before_both cs bs rest)

both_before : (cs bs : List Data) (o : Option (Items × List Token)) → parse_map (items_before cs) (parse_map (items_before bs) o) ≡ parse_map (items_before (cs ++ bs)) o
both_before cs bs None = refl
both_before cs bs (Some q) = ap (λ is. Some (is, q.1)) (before_both cs bs q.0)

module _ (depth : ℕ) (P Q R : List Data → Type 0) (both : (cs bs : List Data) → P cs → Q bs → R (cs ++ bs)) where
  pub so_far_both : (start mid after : List Token) → ItemsSoFar depth start mid P → ItemsSoFar depth mid after Q → ItemsSoFar depth start after R
  so_far_both start mid after a b = record {
    before = a.before ++ b.before;
    turns = b.turns;
    enough = b.enough;
    same = a.same ∙ ap (λ o. parse_map (items_before a.before) (converted of_items o)) (items_turns (value depth) (skip_value-shorter depth) (value_is depth []) a.turns (length mid) mid a.enough (omega arith)) ∙ ap (parse_map (items_before a.before)) b.same ∙ both_before a.before b.before _;
    holds = both a.before b.before a.holds b.holds;
  }

-- ---- what is left where a text ends within an array

taken_all : (ds : List Data) (n : ℕ) (depth : ℕ) → 0 < n → parse_map (items_before ds) (converted of_items (items (value depth) n (end_array ∷ []))) ≡ Some (items_before ds no_items, [])
taken_all ds n depth some = ap (parse_map (items_before ds)) (items_over (value depth) n (end_array ∷ []) [] (omega (arith, some)) refl)

-- elements that were taken up to the end of a text are tokens without a fault
pub ReadsSoFar-good : (depth : ℕ) (ts : List Token) (P : List Data → Type 0) → ReadsSoFar depth ts [] P → AreGood ts
ReadsSoFar-good depth ts P s =
    let end = s.behind (end_array ∷ []) in
    let all = end.same ∙ taken_all end.before end.turns depth (omega (arith, end.enough)) in
    let js = converted_some of_items _ _ [] all in
    AreGood-front ts (end_array ∷ []) (items_good depth _ (ts ++ end_array ∷ []) (ap left js.1))

-- elements before and behind those of the middle
module _ (depth : ℕ) (P M Q R : List Data → Type 0) (all : (cs ms bs : List Data) → P cs → M ms → Q bs → R (cs ++ (ms ++ bs))) (old mid : List Token)
    (first : ReadsSoFar depth old [] P) (middle : (more : List Token) → ItemsSoFar depth (mid ++ more) more M) (good : AreGood mid) where
  joined : (rest after : List Token) → ItemsSoFar depth rest after Q → ItemsSoFar depth (old ++ (mid ++ rest)) after R
  joined rest after last =
      so_far_both depth P (λ ds. (ms : List Data) × (bs : List Data) × (ds ≡ ms ++ bs) × M ms × Q bs) R (λ cs ds holds b. subst (λ xs. R (cs ++ xs)) (sym b.2) (all cs b.0 b.1 holds b.3 b.4)) (old ++ (mid ++ rest)) (mid ++ rest) after (first.behind (mid ++ rest))
      (so_far_both depth M Q _ (λ ms bs m b. (ms, bs, refl, m, b)) (mid ++ rest) rest after (middle rest) last)

  pub TakesUpTo-joined : (end : End) (rest new : List Token) → TakesUpTo end depth rest new Q → TakesUpTo end depth (old ++ (mid ++ rest)) new R
  TakesUpTo-joined Bracket rest new last = joined rest (end_array ∷ new) last
  TakesUpTo-joined Text rest new last = (
    last.0,
    record {
      so_far = λ b.
          let front = ReadsSoFar-good depth old P first in
          let same : ended b (old ++ (mid ++ rest)) ≡ old ++ (mid ++ ended b rest) = ended-append b old (mid ++ rest) front ∙ ap (λ xs. old ++ xs) (ended-append b mid rest good) in
          subst (λ xs. ItemsSoFar depth xs (ended b []) R) (sym same) (joined (ended b rest) (ended b []) (last.1.so_far b));
      behind = λ more.
          let same : (old ++ (mid ++ rest)) ++ more ≡ old ++ (mid ++ (rest ++ more)) = append_assoc old (mid ++ rest) more ∙ ap (λ xs. old ++ xs) (append_assoc mid rest more) in
          subst (λ xs. ItemsSoFar depth xs more R) (sym same) (joined (rest ++ more) more (last.1.behind more));
    },
  )

-- ---- tokens that are left, with those of the middle

pub left_with-first : (m : Option Middle) (t : Token) (ts r : List Token) → ts ≡ t ∷ r → left_with ts m ≡ t ∷ left_with r m
left_with-first None t ts r is = is
left_with-first (Some m) t ts r is = ap (λ xs. xs ++ (tokens m.text.now ++ m.rest)) is

pub left_with-key : (m : Option Middle) (ts r : List Token) (k : Option (List ℕ)) → read_key ts ≡ Some (k, r) → read_key (left_with ts m) ≡ Some (k, left_with r m)
left_with-key None ts r k is = is
left_with-key (Some m) ts r k is = read_key-behind ts (tokens m.text.now ++ m.rest) r k is

pub left_with-value : (m : Option Middle) (depth : ℕ) (ts r : List Token) (P : Data → Type 0) → TakesValue depth ts r P → TakesValue depth (left_with ts m) (left_with r m) P
left_with-value None depth ts r P taken = taken
left_with-value (Some m) depth ts r P taken = (taken.0, data_at-behind (tokens m.text.now ++ m.rest) depth ts r taken.0 taken.1, taken.2)

pub left_with-array : (m : Option Middle) (depth : ℕ) (ts r : List Token) (Q : Items → Type 0) → TakesArray depth ts r Q → TakesArray depth (left_with ts m) (left_with r m) Q
left_with-array None depth ts r Q taken = taken
left_with-array (Some m) depth ts r Q taken = (taken.0, data_at-behind (tokens m.text.now ++ m.rest) depth (begin_array ∷ ts) r (array taken.0) taken.1, taken.2)

pub left_with-whole : (m : Option Middle) (ts : List Token) → m ≡ None → left_with ts m ≡ ts
left_with-whole None ts whole = refl
left_with-whole (Some m) ts whole = absurd (cc)
