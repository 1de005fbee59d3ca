-- What is read of a text that is cut at commas between its elements.
use Rattle.std.proofs.Common.{◌≡◌, ◌≢◌, ℕ, List, [], ◌∷◌, ◌++◌, length, Bool, true, false, Option, Some, None, Err, map, option_and_then, append_assoc, if◌then◌else◌, refl, sym, ap, ap₂, ◌∙◌, subst, arith}
use Rattle.std.proofs.lemmas.List.{map-append}
use Rattle.json.specs.{Json.{Json, value, if_last}, Lex.tokens, Token.{Token, bad}}
use Rattle.serde_json.specs.{Data.Data, Read.{of_json, read}}
use Rattle.json.proofs.Grammar.{left}
use Rattle.span_read.specs.{Item, Unit, Document.doc_of_document, Element.item_of_data, Elements.{Adds, AreCollected, ReadsSoFar}, Ending.{ended, with_bracket}, Parts.{AreElements, AreGood, IsCut}, Tokens.{data_of_all, ItemsSoFar}, declared.{elements.Elements.Elements, error.ReadError.TheVariants.NotJson, format.Format.Format}}
use Rattle.span_read.proofs.{Bracket.data_of_all-ended, Comma.tokens-comma, Ends.{AreGood-append, value_good}, Middles.{AreGood-front, ReadsSoFar-good, so_far_both}}

-- the tokens of a text that is cut are those of its parts
pub tokens-cut : (text front rest : List ℕ) → IsCut text front rest → AreGood (tokens front) → tokens text ≡ tokens front ++ tokens rest
tokens-cut text front rest cut good =
    ap tokens (cut.2 ∙ ap (λ xs. xs ++ 44 ∷ rest) cut.1 ∙ append_assoc cut.0 (125 ∷ []) (44 ∷ rest))
    ∙ tokens-comma cut.0 rest (subst (λ xs. AreGood (tokens xs)) cut.1 good) cut.3
    ∙ ap (λ xs. tokens xs ++ tokens rest) (sym cut.1)

module _ (unit : Unit) (depth : ℕ) where
  -- and so are its items
  pub AreElements-cut : (text front rest : List ℕ) (is js : List Item) → IsCut text front rest → AreElements unit depth front is → AreElements unit depth rest js → AreElements unit depth text (is ++ js)
  AreElements-cut text front rest is js cut a b =
      let same = tokens-cut text front rest cut a.good in
      let both : (cs ds : List Data) → map (item_of_data unit) cs ≡ is → map (item_of_data unit) ds ≡ js → map (item_of_data unit) (cs ++ ds) ≡ is ++ js = λ cs ds e f. map-append (item_of_data unit) cs ds ∙ ap₂ (λ xs ys. xs ++ ys) e f in
      record {
        good = subst AreGood (sym same) (AreGood-append (tokens front) (tokens rest) a.good b.good);
        read = λ more.
            let whole : tokens text ++ more ≡ tokens front ++ (tokens rest ++ more) = ap (λ ts. ts ++ more) same ∙ append_assoc (tokens front) (tokens rest) more in
            subst (λ ts. ItemsSoFar depth ts more (λ ds. map (item_of_data unit) ds ≡ is ++ js)) (sym whole)
            (so_far_both depth _ _ _ both (tokens front ++ (tokens rest ++ more)) (tokens rest ++ more) more (a.read (tokens rest ++ more)) (b.read more));
      }

weaker : (depth : ℕ) (start after : List Token) (P Q : List Data → Type 0) → ((ds : List Data) → P ds → Q ds) → ItemsSoFar depth start after P → ItemsSoFar depth start after Q
weaker depth start after P Q gives s = record { before = s.before; turns = s.turns; enough = s.enough; same = s.same; holds = gives s.before s.holds }

-- what was taken up to the end of a text are its elements
pub AreElements-read : (format : Format) (depth : ℕ) (text : List ℕ) (start e : Elements) → start.items ≡ [] → start.too_many ≡ false → e.too_many ≡ false → ReadsSoFar depth (tokens text) [] (Adds format start e) → AreElements format.unit depth text e.items
AreElements-read format depth text start e none few all s =
    let empty : AreCollected format start [] = record { within = omega (arith, ap length none); all = λ h. sym none; over = λ h. absurd (cc) } in
    record { good = ReadsSoFar-good depth (tokens text) _ s; read = λ more. weaker depth (tokens text ++ more) more _ _ (λ ds added. (added [] empty).all all) (s.behind more) }

-- ---- the whole document

AreGood-bracket : (ts : List Token) → AreGood (with_bracket ts) → AreGood ts
AreGood-bracket [] good = tt
AreGood-bracket (bad ∷ ts) good = absurd good
AreGood-bracket (t ∷ ts) good = AreGood-bracket ts good

AreGood-ended : (bracket : Bool) (ts : List Token) → AreGood (ended bracket ts) → AreGood ts
AreGood-ended true ts good = AreGood-bracket ts good
AreGood-ended false ts good = good

all_taken : (ts : List Token) (o : Option (Json × List Token)) (d : Data) → value 127 ts ≡ o → option_and_then of_json (option_and_then (λ p. if_last p.0 p.1) o) ≡ Some d → AreGood ts
all_taken ts None d is e = absurd (cc)
all_taken ts (Some (j, [])) d is e = value_good 127 ts (ap left is)
all_taken ts (Some (j, t ∷ r)) d is e = absurd (cc)

-- what is found where the middle of a text was read before is what the text is, if it is JSON at all
pub doc_of_document-divided : (format : Format) (bracket : Bool) (text front others middle rest : List ℕ) → IsCut text front others → IsCut others middle rest → AreGood (tokens middle)
    → (o : Option Data) → data_of_all 127 (ended bracket (tokens front ++ (tokens middle ++ tokens rest))) ≡ o → (doc_of_document format o ≢ Err NotJson) → o ≡ read (if bracket then text ++ 93 ∷ [] else text)
doc_of_document-divided format bracket text front others middle rest first last good None is some = absurd (some refl)
doc_of_document-divided format bracket text front others middle rest first last good (Some d) is some =
    let all = all_taken (ended bracket (tokens front ++ (tokens middle ++ tokens rest))) _ d refl is in
    let begin = AreGood-front (tokens front) _ (AreGood-ended bracket _ all) in
    let same : tokens text ≡ tokens front ++ (tokens middle ++ tokens rest) = tokens-cut text front others first begin ∙ ap (λ ts. tokens front ++ ts) (tokens-cut others middle rest last good) in
    sym is ∙ ap (λ ts. data_of_all 127 (ended bracket ts)) (sym same) ∙ data_of_all-ended text bracket
