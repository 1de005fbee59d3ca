-- The data that all tokens are, with a closing bracket behind them.
use Rattle.std.proofs.Common.{◌≡◌, ℕ, List, [], ◌∷◌, Option, Some, None, option_and_then, refl, ap, ◌∙◌}
use Rattle.json.specs.{Json.{Json, value, if_last}, Reads.token_of, Token.{Token, begin_object, bad}, declared.token.Token.Token as ReadToken}
use Rattle.serde_json.specs.{Data.Data, Read.{of_json, converted}}
use Rattle.json.proofs.Grammar.{value_is}
use Rattle.span_read.specs.{Ending.with_bracket, Tokens.{data_at, data_of_all}}
use Rattle.span_read.proofs.{Bracket.{Turns.data_at-bracket, Values.{with_bracket_left, object-bracket}}, Grammar.{converted_some, refused}}
use Rattle.json.specs.declared.token.Token.TheVariants as read

abbrev whole : Option (Json × List Token) → Option Data
whole o = option_and_then of_json (option_and_then (λ p. if_last p.0 p.1) o)

bracket_left : (j : Json) (r : List Token) → if_last j (with_bracket r) ≡ None
bracket_left j [] = refl
bracket_left j (bad ∷ ts) = refl
bracket_left j (t ∷ ts) = refl

not_whole : (o : Option (Json × List Token)) → whole (with_bracket_left o) ≡ None
not_whole None = refl
not_whole (Some p) = ap (option_and_then of_json) (bracket_left p.0 p.1)

none_whole : (o : Option (Json × List Token)) → converted of_json o ≡ None → whole o ≡ None
none_whole None e = refl
none_whole (Some (j, [])) e = refused [] (of_json j) e
none_whole (Some (j, t ∷ r)) e = refl

pub data_of_all-none : (depth : ℕ) (ts : List Token) → data_at depth ts ≡ None → data_of_all depth ts ≡ None
data_of_all-none depth ts none = none_whole (value depth ts) none

-- what reads without the bracket leaves it over
pub data_of_all-closed : (depth : ℕ) (ts r : List Token) (d : Data) → data_at depth ts ≡ Some (d, r) → data_of_all depth (with_bracket ts) ≡ None
data_of_all-closed depth ts r d e =
    let j = converted_some of_json (value depth (with_bracket ts)) d (with_bracket r) (data_at-bracket depth ts r d e) in
    ap whole j.1 ∙ ap (option_and_then of_json) (bracket_left j.0 r)

-- what doesn't begin with an array can't take the bracket
pub data_of_all-other : (depth : ℕ) (t : ReadToken) (ts : List Token) → (t ≡ read.BeginArray → ⊥) → data_of_all depth (with_bracket (token_of t ∷ ts)) ≡ None
data_of_all-other depth read.BeginObject ts other = ap whole (object-bracket depth ts) ∙ not_whole (value depth (begin_object ∷ ts))
data_of_all-other depth read.EndObject ts other = ap whole (value_is depth _)
data_of_all-other depth read.BeginArray ts other = absurd (other refl)
data_of_all-other depth read.EndArray ts other = ap whole (value_is depth _)
data_of_all-other depth (read.Key s) ts other = ap whole (value_is depth _)
data_of_all-other depth (read.String s) ts other = ap whole (value_is depth _) ∙ ap (option_and_then of_json) (bracket_left _ ts)
data_of_all-other depth (read.Number s) ts other = ap whole (value_is depth _) ∙ ap (option_and_then of_json) (bracket_left _ ts)
data_of_all-other depth (read.Bool b) ts other = ap whole (value_is depth _) ∙ ap (option_and_then of_json) (bracket_left _ ts)
data_of_all-other depth read.Null ts other = ap whole (value_is depth _) ∙ ap (option_and_then of_json) (bracket_left _ ts)
data_of_all-other depth read.Bad ts other = ap whole (value_is depth _)

pub data_of_all-nothing : (depth : ℕ) → data_of_all depth (with_bracket []) ≡ None
data_of_all-nothing depth = ap whole (value_is depth _)
