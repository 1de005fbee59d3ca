-- The first lexeme of a text that opens with a bracket or a brace.
use Rattle.std.proofs.Common.{◌≡◌, ℕ, List, [], ◌∷◌, Bool, true, false, ◌||◌, ◌==◌, eqb-true, refl, sym, ap, ◌∙◌, subst, if◌then◌else◌}
use Rattle.json.specs.{Lex.{Lexeme, token, space, class, between, lex_byte, lex}, Token.{Token, begin_object, begin_array}}
use Rattle.span_read.specs.Document.{is_blank, opens_with}

blank_class : (b : ℕ) (p q r s : Bool) → (b == 32) ≡ p → (b == 9) ≡ q → (b == 10) ≡ r → (b == 13) ≡ s → (p || q || r || s) ≡ true → class b ≡ space
blank_class b true q r s is h i j e = ap class (eqb-true b 32 is)
blank_class b false true r s h is i j e = ap class (eqb-true b 9 is)
blank_class b false false true s h i is j e = ap class (eqb-true b 10 is)
blank_class b false false false true h i j is e = ap class (eqb-true b 13 is)
blank_class b false false false false h i j k e = absurd (cc)

abbrev pub Opens : Token → List ℕ → Type 0
Opens t text = (rest : List Lexeme) × (lex between text ≡ token t ∷ rest)

module _ (x : ℕ) (t : Token) (first : (text : List ℕ) → Opens t (x ∷ text)) where
  opens_step : (blank : Bool) (b : ℕ) (text : List ℕ) → is_blank b ≡ blank → (if blank then opens_with x text else b == x) ≡ true → (opens_with x text ≡ true → Opens t text) → Opens t (b ∷ text)
  unfolding lex
  opens_step true b text is e again =
      let more = again e in
      (more.0, ap (λ c. lex_byte between c b text (λ next. lex next text)) (blank_class b _ _ _ _ refl refl refl refl is) ∙ more.1)
  opens_step false b text is e again = subst (λ y. Opens t (y ∷ text)) (sym (eqb-true b x e)) (first text)

  opens_with-lex : (text : List ℕ) → opens_with x text ≡ true → Opens t text
  opens_with-lex [] e = absurd (cc)
  opens_with-lex (b ∷ text) e = opens_step (is_blank b) b text refl e (opens_with-lex text)

pub opens_array-lex : (text : List ℕ) → opens_with 91 text ≡ true → Opens begin_array text
unfolding lex
opens_array-lex = opens_with-lex 91 begin_array (λ more. (lex between more, refl))

pub opens_object-lex : (text : List ℕ) → opens_with 123 text ≡ true → Opens begin_object text
unfolding lex
opens_object-lex = opens_with-lex 123 begin_object (λ more. (lex between more, refl))
