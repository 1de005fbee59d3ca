-- The totals of a name are those of its number.
use Rattle.std.specs.{Bool.one_answer, Cmp.Lexicographic.bytes_decides, List.list_all, Prelude.{is_some, unwrap_or, sum_by, slice_get}}
use Rattle.std.proofs.{Common.{◌≡◌, ℕ, ◌+◌, ℤ, List, [], ◌∷◌, length, map, Bool, true, false, cond, Option, Some, None, refl, sym, ap, ap₂, ◌∙◌, nat_eq, eq-eqb, eqb-true}, lemmas.List.{length-map, Sums.sum_by-cons}}
use Rattle.span_names.proofs.Numbers.{slice_get-number_in}
use Rattle.span_keyed_tracks.proofs.Matching.Closed.{both_true, and_true, closed_of-passes}
use Rattle.span_ledger.specs.{Bytes, same_text, Span, length_of, self_time, named, total_of, self_of, Begin, Ending, ThreadEvent, span_between, span_sealed, whole_span, closed_spans, number_in, Numbered.renamed_span, Tracked.{number_for, is_numbered}}
use Rattle.span_ledger.proofs.Renaming.{self_time-renamed}

-- the name of the span has a number
abbrev pub is_numbered_span : List Bytes → Span Bytes → Bool
is_numbered_span names s = is_some (number_in names s.name)

module _ (names : List Bytes) where
  -- the names of closed spans have numbers where those of the events do
  pub closed_spans-numbered : (es : List (ThreadEvent Bytes)) → list_all (is_numbered names) es ≡ true → list_all (is_numbered_span names) (closed_spans es) ≡ true
  closed_spans-numbered es known =
      closed_of-passes span_between span_sealed whole_span (λ b. is_some (number_in names b.name)) (is_numbered_span names) (is_numbered_span names)
      (λ (b : Begin Bytes) (e : Ending) (h : is_some (number_in names b.name) ≡ true). and_true (is_some (number_in names b.name)) true h refl)
      (λ (b : Begin Bytes) (ts : ℤ) (h : is_some (number_in names b.name) ≡ true). h)
      (λ (s : Span Bytes) (h : is_numbered_span names s ≡ true). and_true (is_numbered_span names s) true h refl) es known

  -- two texts are the same just where their numbers are
  pub nat_eq-number_in : (a b : Bytes) (i n : ℕ) → number_in names a ≡ Some i → number_in names b ≡ Some n → nat_eq i n ≡ same_text a b
  nat_eq-number_in a b i n p q =
      one_answer {P = a ≡ b} (nat_eq i n) (same_text a b) (
        (λ (e : nat_eq i n ≡ true). let same : i ≡ n = eqb-true i n e in
            let at : Some a ≡ Some b = sym (slice_get-number_in names a i p) ∙ ap (λ k. slice_get names k) same ∙ slice_get-number_in names b n q in cc),
        (λ (e : a ≡ b). let same : Some i ≡ Some n = sym p ∙ ap (λ t. number_in names t) e ∙ q in let numbers : i ≡ n = cc in eq-eqb i n numbers),
      )
      (bytes_decides a b)

  pub number_for-is : (text : Bytes) → is_some (number_in names text) ≡ true → number_in names text ≡ Some (number_for names text)
  number_for-is text h = by (number_in names text) refl h
    where
      by : (o : Option ℕ) → number_in names text ≡ o → is_some o ≡ true → number_in names text ≡ Some (unwrap_or o 0)
      by None e k = cc
      by (Some n) e k = e

  named-renamed : (text : Bytes) (n : ℕ) (spans : List (Span Bytes)) → number_in names text ≡ Some n → list_all (is_numbered_span names) spans ≡ true →
      named nat_eq n (map (renamed_span (number_for names)) spans) ≡ map (renamed_span (number_for names)) (named same_text text spans)
  named-renamed text n [] at known = refl
  named-renamed text n (s ∷ spans) at known =
      let parts = both_true (is_numbered_span names s) (list_all (is_numbered_span names) spans) known in
      let test = nat_eq-number_in s.name text (number_for names s.name) n (number_for-is s.name parts.0) at in
      ap₂ (λ b xs. cond b (renamed_span (number_for names) s ∷ xs) xs) test (named-renamed text n spans at parts.1)
      ∙ sym (map-cond (same_text s.name text) (renamed_span (number_for names)) s (named same_text text spans))
    where
      map-cond : {A B : Type 0} (b : Bool) (g : A → B) (x : A) (xs : List A) → map g (cond b (x ∷ xs) xs) ≡ cond b (g x ∷ map g xs) (map g xs)
      map-cond true g x xs = refl
      map-cond false g x xs = refl

  sum_by-map : {A B : Type 0} (f : B → ℕ) (g : A → B) (h : A → ℕ) → ((x : A) → f (g x) ≡ h x) → (xs : List A) → sum_by f (map g xs) ≡ sum_by h xs
  sum_by-map f g h same [] = refl
  sum_by-map f g h same (x ∷ xs) = sum_by-cons f (g x) (map g xs) ∙ ap₂ (λ a b. a + b) (same x) (sum_by-map f g h same xs) ∙ sym (sum_by-cons h x xs)

  pub count-renamed : (text : Bytes) (n : ℕ) (spans : List (Span Bytes)) → number_in names text ≡ Some n → list_all (is_numbered_span names) spans ≡ true →
      length (named nat_eq n (map (renamed_span (number_for names)) spans)) ≡ length (named same_text text spans)
  count-renamed text n spans at known = ap length (named-renamed text n spans at known) ∙ length-map (named same_text text spans) (renamed_span (number_for names))

  pub total_of-renamed : (text : Bytes) (n : ℕ) (spans : List (Span Bytes)) → number_in names text ≡ Some n → list_all (is_numbered_span names) spans ≡ true →
      total_of nat_eq n (map (renamed_span (number_for names)) spans) ≡ total_of same_text text spans
  total_of-renamed text n spans at known =
      ap (λ xs. sum_by (λ s. length_of s) xs) (named-renamed text n spans at known)
      ∙ sum_by-map (λ s. length_of s) (renamed_span (number_for names)) (λ s. length_of s) (λ s. refl) (named same_text text spans)

  pub self_of-renamed : (text : Bytes) (n : ℕ) (spans : List (Span Bytes)) → number_in names text ≡ Some n → list_all (is_numbered_span names) spans ≡ true →
      self_of nat_eq n (map (renamed_span (number_for names)) spans) ≡ self_of same_text text spans
  self_of-renamed text n spans at known =
      ap (λ xs. sum_by (λ s. self_time (map (renamed_span (number_for names)) spans) s) xs) (named-renamed text n spans at known)
      ∙ sum_by-map (λ s. self_time (map (renamed_span (number_for names)) spans) s) (renamed_span (number_for names)) (λ s. self_time spans s) (self_time-renamed (number_for names) spans) (named same_text text spans)
