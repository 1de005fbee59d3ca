-- The turns of a loop over the items of an array, with and without a closing bracket behind the text.
use Rattle.std.specs.Prelude.{⊤}
use Rattle.std.proofs.Common.{◌≡◌, ℕ, ◌-◌, ◌<◌, List, [], ◌∷◌, ◌++◌, Bool, true, false, Option, Some, None, option_map, refl, ap, ◌∙◌, subst}
use Rattle.json.specs.{Json.{Json, after_end_array, value}, Reads.token_of, Token.{Token, begin_array, end_array}, declared.token.Token.Token as ReadToken}
use Rattle.serde_json.specs.{Data.{Data, Items, no_items}, Read.{of_json, converted}}
use Rattle.json.proofs.Grammar.{left}
use Rattle.span_read.specs.{Ending.{with_bracket, ended}, Elements.{ReadsSoFar, TakesUpTo}, Tokens.{data_at, TakesValue, TakesElements, items_before, ItemsSoFar}, declared.elements.End.{End, TheVariants.{Bracket, Text}}}
use Rattle.span_read.proofs.{Behind.data_at-behind, Bracket.Values.{IsClosed, IsClosed-value, after_end_array-bracket}, Grammar.{converted_some, refused, data_at-nothing}, Turns.{items_start, items_turn, items_refused, items_finish}}
use Rattle.json.specs.declared.token.Token.TheVariants as read

value_closed : (o closed : Option (Json × List Token)) (j : Json) (r : List Token) → IsClosed o closed → o ≡ Some (j, r) → closed ≡ Some (j, with_bracket r)
value_closed None closed j r is e = absurd (cc)
value_closed (Some p) closed j r is e = is ∙ ap (option_map (λ q. (q.0, with_bracket q.1))) e

-- the same data are taken with the bracket behind what is left
pub data_at-bracket : (depth : ℕ) (ts r : List Token) (d : Data) → data_at depth ts ≡ Some (d, r) → data_at depth (with_bracket ts) ≡ Some (d, with_bracket r)
data_at-bracket depth ts r d e =
    let j = converted_some of_json (value depth ts) d r e in
    ap (converted of_json) (value_closed _ _ j.0 r (IsClosed-value depth ts) j.1) ∙ ap (option_map (λ x. (x, with_bracket r))) j.2

-- what takes a value takes it with the bracket too
ended_value : (b : Bool) (depth : ℕ) (old new : List Token) (P : Data → Type 0) → TakesValue depth old new P → TakesValue depth (ended b old) (ended b new) P
ended_value true depth old new P taken = (taken.0, data_at-bracket depth old new taken.0 taken.1, taken.2)
ended_value false depth old new P taken = taken

-- what takes no value without the bracket takes all the tokens with it, if it takes any
nothing_left : (o closed : Option (Json × List Token)) (d : Data) (r : List Token) → IsClosed o closed → converted of_json o ≡ None → converted of_json closed ≡ Some (d, r) → r ≡ []
nothing_left None closed d r is e f = let j = converted_some of_json closed d r f in is r (ap left j.1)
nothing_left (Some p) closed d r is e f =
    let none : of_json p.0 ≡ None = refused p.1 (of_json p.0) e in
    let gone : converted of_json closed ≡ None = ap (converted of_json) is ∙ ap (option_map (λ x. (x, with_bracket p.1))) none in
    cc

after_other : (t : ReadToken) (ts : List Token) → (t ≡ read.EndArray → ⊥) → after_end_array (token_of t ∷ ts) ≡ None
after_other read.BeginObject ts other = refl
after_other read.EndObject ts other = refl
after_other read.BeginArray ts other = refl
after_other read.EndArray ts other = absurd (other refl)
after_other (read.Key s) ts other = refl
after_other (read.String s) ts other = refl
after_other (read.Number s) ts other = refl
after_other (read.Bool b) ts other = refl
after_other read.Null ts other = refl
after_other read.Bad ts other = refl

-- any other token than a closing bracket begins an element
ended_other : (b : Bool) (t : ReadToken) (ts : List Token) → (t ≡ read.EndArray → ⊥) → after_end_array (ended b (token_of t ∷ ts)) ≡ None
ended_other true t ts other = after_end_array-bracket (token_of t) ts ∙ ap (option_map with_bracket) (after_other t ts other)
ended_other false t ts other = after_other t ts other

pub ended_start : (depth : ℕ) (start : List Token) (P : List Data → Type 0) → P [] → ReadsSoFar depth start start P
ended_start depth start P holds = record { so_far = λ b. items_start depth (ended b start) P holds; behind = λ more. items_start depth (start ++ more) P holds }

module _ (depth : ℕ) (some : 0 < depth) (start : List Token) where
  -- nothing is left, so no bracket closes the array
  cut_off : (P : List Data → Type 0) → ItemsSoFar (depth - 1) start [] P → data_at depth (begin_array ∷ start) ≡ None
  cut_off P s = items_refused depth some P start [] s [] (refl, refl) (data_at-nothing (depth - 1))

  -- the next element is no value, or takes all that is left
  last_refused : (P : List Data → Type 0) (ts : List Token) (o : Option (Data × List Token)) → after_end_array ts ≡ None → ItemsSoFar (depth - 1) start ts P → data_at (depth - 1) ts ≡ o → ((d : Data) (r : List Token) → o ≡ Some (d, r) → r ≡ [])
      → data_at depth (begin_array ∷ start) ≡ None
  last_refused P ts None goes s e left = items_refused depth some P start ts s ts (goes, refl) e
  last_refused P ts (Some p) goes s e left =
      let turned : ItemsSoFar (depth - 1) start p.1 (λ ds. ⊤) = items_turn depth some P start ts s (λ ds. ⊤) ts p.1 (goes, refl) (p.0, e, tt) in
      cut_off (λ ds. ⊤) (subst (λ r. ItemsSoFar (depth - 1) start r (λ ds. ⊤)) (left p.0 p.1 refl) turned)

module _ (depth : ℕ) (some : 0 < depth) (P : List Data → Type 0) (start ts : List Token) (s : ReadsSoFar (depth - 1) start ts P) where
  -- at a token that is no closing bracket an element is read, or refused
  module _ (t : ReadToken) (rest : List Token) (is : ts ≡ token_of t ∷ rest) (other : t ≡ read.EndArray → ⊥) where
    goes_on : (b : Bool) → after_end_array (ended b ts) ≡ None
    goes_on b = rw is (ended_other b t rest other)

    goes_on_behind : (more : List Token) → after_end_array (ts ++ more) ≡ None
    goes_on_behind more = rw is (after_other t (rest ++ more) other)

    pub ended_turn : (Q : List Data → Type 0) (r : List Token) → TakesValue (depth - 1) (token_of t ∷ rest) r (λ d. (ds : List Data) → P ds → Q (ds ++ d ∷ [])) → ReadsSoFar (depth - 1) start r Q
    ended_turn Q r taken = record {
      so_far = λ b.
          let value = ended_value b (depth - 1) (token_of t ∷ rest) r (λ d. Q ((s.so_far b).before ++ d ∷ [])) (taken.0, taken.1, taken.2 _ (s.so_far b).holds) in
          items_turn depth some P (ended b start) (ended b ts) (s.so_far b) Q (ended b ts) (ended b r) (goes_on b, refl) (rw is value);
      behind = λ more.
          let value : TakesValue (depth - 1) (token_of t ∷ (rest ++ more)) (r ++ more) (λ d. Q ((s.behind more).before ++ d ∷ [])) = (taken.0, data_at-behind more (depth - 1) (token_of t ∷ rest) r taken.0 taken.1, taken.2 _ (s.behind more).holds) in
          items_turn depth some P (start ++ more) (ts ++ more) (s.behind more) Q (ts ++ more) (r ++ more) (goes_on_behind more, refl) (rw is value);
    }

    pub ended_refused : data_at (depth - 1) (token_of t ∷ rest) ≡ None → (b : Bool) → data_at depth (begin_array ∷ ended b start) ≡ None
    ended_refused none false = items_refused depth some P start ts (s.so_far false) ts (goes_on false, refl) (rw is none)
    ended_refused none true =
        let here : data_at (depth - 1) ts ≡ None = rw is none in
        last_refused depth some (with_bracket start) P (with_bracket ts) _ (goes_on true) (s.so_far true) refl (λ d r e. nothing_left _ _ d r (IsClosed-value (depth - 1) ts) here e)

  -- at the array's own bracket, and at the end of the text
  pub ended_bracket : (r : List Token) → ts ≡ end_array ∷ r → TakesUpTo Bracket (depth - 1) start r P
  ended_bracket r is = subst (λ us. ItemsSoFar (depth - 1) start us P) is (s.so_far false)

  pub ended_text : (r : List Token) → ts ≡ [] → r ≡ [] → TakesUpTo Text (depth - 1) start r P
  ended_text r is left = (left, subst (λ us. ReadsSoFar (depth - 1) start us P) is s)

-- what was taken of an array up to its bracket, or the end of the text, is what the array has
pub TakesElements-up_to : (end : End) (depth : ℕ) (some : 0 < depth) (old new : List Token) (P : List Data → Type 0) (Q : Items → Type 0) → ((ds : List Data) → P ds → Q (items_before ds no_items)) → TakesUpTo end (depth - 1) old new P → TakesElements end depth old new Q
TakesElements-up_to Bracket depth some old new P Q gives s = items_finish depth some P old (end_array ∷ new) s Q new refl (gives s.before s.holds)
TakesElements-up_to Text depth some old new P Q gives s = (
  s.0,
  cut_off depth some old P (s.1.so_far false),
  items_finish depth some P (with_bracket old) (end_array ∷ []) (s.1.so_far true) Q [] refl (gives (s.1.so_far true).before (s.1.so_far true).holds),
)
