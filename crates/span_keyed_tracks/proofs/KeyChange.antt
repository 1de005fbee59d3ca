-- A change of what is kept at one key, and what the map stands for then.
use Rattle.std.specs.{BTreeMap.{is_at, insert_entry}, Cmp.IsTotalOrder, List.Sorted.IsStrictlySortedBy, Map.{lookup, keys_of, set_value}, Ordering.{is_eq, match_ordering}, Prelude.{Result, Ok, Err, IfOk, IfErr, OnOk, OnErr, IsOk, is_some, unwrap_or}, declared.cmp.Ordering.{Ordering, TheVariants.{Less, Equal, Greater}}}
use Rattle.std.proofs.Common.{◌≡◌, ◌⊎◌, ℕ, List, [], ◌∷◌, ◌++◌, true, false, cond, Option, Some, None, refl, sym, ap, ap₂, subst, ◌∙◌, inl, inr}
use Rattle.span_keyed_tracks.specs.{Fault.Answers, Keyed.{Keyed, kept_at, entries_in, steps_at}, KeyedKept.ChangesAt, declared.fault.TrackFault.TrackFault}
use Rattle.span_keyed_tracks.proofs.Keyed.{has_key-below, is_some-lookup, kept_at-found, kept_at-entries_in, set_value-stays, entries_in-insert_entry}

module _ {K X : Type 0} {cmp : K → K → Ordering} (o : IsTotalOrder cmp) where
  -- to insert an entry at a key that is there is to write its value
  pub insert_entry-found : (es : List (K × X)) (key : K) (was value : X) → IsStrictlySortedBy cmp (keys_of es) → lookup (is_at (cmp key)) es ≡ Some was → set_value (is_at (cmp key)) es value ≡ insert_entry cmp es key value
  unfolding IsStrictlySortedBy
  insert_entry-found [] key was value sorted found = cc
  insert_entry-found (e ∷ es) key was value sorted found = by (cmp key e.0) refl (insert_entry-found es key was value sorted.1) found
    where
      by : (r : Ordering) → cmp key e.0 ≡ r → (lookup (is_at (cmp key)) es ≡ Some was → set_value (is_at (cmp key)) es value ≡ insert_entry cmp es key value) → cond (is_eq r) (Some e.1) (lookup (is_at (cmp key)) es) ≡ Some was → cond (is_eq r) ((e.0, value) ∷ es) (e ∷ set_value (is_at (cmp key)) es value) ≡ match_ordering r ((key, value) ∷ e ∷ es) ((e.0, value) ∷ es) (e ∷ insert_entry cmp es key value)
      by Less below rest found =
          let none : true ≡ false = sym (ap is_some found) ∙ is_some-lookup (is_at (cmp key)) es ∙ has_key-below o key e.0 (keys_of es) below sorted.0 in
          absurd cc
      by Equal same rest found = refl
      by Greater above rest found = ap (λ l. e ∷ l) (rest found)

  module _ {T : Type 0} (none : X) (call : X → Result T TrackFault → X → Type 0) (old new : List (K × X)) (key : K) (value : X) where
    on_found : (result : Result T TrackFault) → new ≡ insert_entry cmp old key value → ((fault : TrackFault) → result ≡ Err fault → new ≡ old) →
        IfOk result (λ answer. (result ≡ Ok answer) × (new ≡ insert_entry cmp old key value)) × OnErr result (new ≡ old)
    on_found (Ok answer) written stays = ((refl, written), tt)
    on_found (Err fault) written stays = (tt, stays fault refl)

    own_fault : (result : Result T TrackFault) → IfErr result (λ fault. (result ≡ Err fault) ⊎ (IsOk result × (kept_at cmp none old key ≡ none)))
    own_fault (Ok answer) = tt
    own_fault (Err fault) = inl refl

    first_fault : (made result : Result T TrackFault) → kept_at cmp none old key ≡ none → IfErr result (λ fault. (made ≡ Err fault) ⊎ IsOk made) →
        IfErr result (λ fault. (made ≡ Err fault) ⊎ (IsOk made × (kept_at cmp none old key ≡ none)))
    first_fault made (Ok answer) nothing fault = tt
    first_fault made (Err f) nothing (inl own) = inl own
    first_fault made (Err f) nothing (inr taken) = inr (taken, nothing)

    -- the call was made on what is kept at the key
    pub ChangesAt-found : (was : X) (result : Result T TrackFault) → IsStrictlySortedBy cmp (keys_of old) → lookup (is_at (cmp key)) old ≡ Some was → new ≡ set_value (is_at (cmp key)) old value →
        call was result value → ((a b : X) (fault : TrackFault) → call a (Err fault) b → b ≡ a) → ChangesAt cmp none call old new key result
    ChangesAt-found was result sorted found written called stays =
        let ends = on_found result (written ∙ insert_entry-found old key was value sorted found)
        (λ fault is. set_value-stays (is_at (cmp key)) old new was value found (stays was value fault (subst (λ r. call was r value) is called)) written) in
        record {
          made = result;
          value = value;
          called = subst (λ v. call v result value) (sym (kept_at-found cmp none old key was found)) called;
          answers = λ refusal holds. holds;
          ordered = sorted;
          ok = ends.0;
          err = ends.1;
          fault = own_fault result;
        }

    -- the call was made on `none`, where nothing is kept at the key
    pub ChangesAt-first : (made result : Result T TrackFault) → IsStrictlySortedBy cmp (keys_of old) → lookup (is_at (cmp key)) old ≡ None → call none made value →
        ((refusal : Option ℕ) → Answers made refusal → Answers result refusal) → IfOk result (λ answer. (made ≡ Ok answer) × (new ≡ insert_entry cmp old key value)) → OnErr result (new ≡ old) →
        IfErr result (λ fault. (made ≡ Err fault) ⊎ IsOk made) → ChangesAt cmp none call old new key result
    ChangesAt-first made result sorted absent called answers ok err fault = record {
      made = made;
      value = value;
      called = subst (λ v. call v made value) (sym (ap (λ found. unwrap_or found none) absent)) called;
      answers = answers;
      ordered = sorted;
      ok = ok;
      err = err;
      fault = first_fault made result (ap (λ found. unwrap_or found none) absent) fault;
    }

-- two that are the same as a third
pub by_third : {X : Type 0} {a b c : X} → c ≡ b → a ≡ b → a ≡ c
by_third second first = first ∙ sym second

-- what holds of what a track keeps at a key holds of what a call is made on
pub kept_at-holds : {K X : Type 0} (cmp : K → K → Ordering) (P : X → Type 0) {none empty value : X} {old track : List (K × X)} (key : K) → value ≡ kept_at cmp none old key → none ≡ empty → old ≡ track → P (kept_at cmp empty track key) → P value
kept_at-holds cmp P key is same stands holds = subst P (sym (is ∙ ap₂ (λ n kept. kept_at cmp n kept key) same stands)) holds

-- what follows of the answer from the call that gave it
pub ChangesAt-answer : {K X T : Type 0} {cmp : K → K → Ordering} {none : X} {call : X → Result T TrackFault → X → Type 0} {old new : List (K × X)} {key : K} (result : Result T TrackFault) (P : T → Type 0) →
    ((answer : T) (value : X) → call (kept_at cmp none old key) (Ok answer) value → P answer) → ChangesAt cmp none call old new key result → IfOk result P
ChangesAt-answer {cmp = cmp} {none = none} {call = call} {old = old} {key = key} (Ok answer) P follows change =
    follows answer change.value (subst (λ made. call (kept_at cmp none old key) made change.value) change.ok.0 change.called)
ChangesAt-answer (Err fault) P follows change = tt

-- where a track keeps what the steps of each key give
module _ {K A X : Type 0} {cmp : K → K → Ordering} (o : IsTotalOrder cmp) (same : (a b : K) → cmp a b ≡ Equal → a ≡ b) (give : List A → X) where
  module _ {T : Type 0} {call : X → Result T TrackFault → X → Type 0} {none : X} {old new track : List (K × X)} {key : K} (empty : none ≡ give []) (is : old ≡ track) where
    called_on : {result : Result T TrackFault} (change : ChangesAt cmp none call old new key result) (es : List (Keyed K A)) → track ≡ entries_in cmp give es → call (give (steps_at cmp key es)) change.made change.value
    called_on change es stands = subst (λ x. call x change.made change.value) (ap₂ (λ n kept. kept_at cmp n kept key) empty (is ∙ stands) ∙ kept_at-entries_in o same give es key) change.called

    answered_on : (answer : T) (change : ChangesAt cmp none call old new key (Ok answer)) (es : List (Keyed K A)) → track ≡ entries_in cmp give es → call (give (steps_at cmp key es)) (Ok answer) change.value
    answered_on answer change es stands = subst (λ made. call (give (steps_at cmp key es)) made change.value) change.ok.0 (called_on change es stands)

    -- what a call refuses after some steps is refused
    pub ChangesAt-refusal : {result : Result T TrackFault} → ChangesAt cmp none call old new key result → (refusal : List A → Option ℕ) →
        ((steps : List A) (made : Result T TrackFault) (value : X) → call (give steps) made value → Answers made (refusal steps)) →
        (es : List (Keyed K A)) → track ≡ entries_in cmp give es → Answers result (refusal (steps_at cmp key es))
    ChangesAt-refusal change refusal follows es stands = change.answers (refusal (steps_at cmp key es)) (follows (steps_at cmp key es) change.made change.value (called_on change es stands))

    -- what a call answers after some steps is answered
    pub ChangesAt-answered : (result : Result T TrackFault) → ChangesAt cmp none call old new key result → (P : List A → T → Type 0) →
        ((steps : List A) (answer : T) (value : X) → call (give steps) (Ok answer) value → P steps answer) →
        IfOk result (λ answer. (es : List (Keyed K A)) → track ≡ entries_in cmp give es → P (steps_at cmp key es) answer)
    ChangesAt-answered (Ok answer) change P follows = λ es stands. follows (steps_at cmp key es) answer change.value (answered_on answer change es stands)
    ChangesAt-answered (Err fault) change P follows = tt

    -- where a call makes of what some steps give what they give with one more, the track stands for one more step
    pub ChangesAt-stands : (result : Result T TrackFault) → ChangesAt cmp none call old new key result → (step : A) →
        ((steps : List A) (answer : T) (value : X) → call (give steps) (Ok answer) value → value ≡ give (steps ++ step ∷ [])) →
        OnOk result ((es : List (Keyed K A)) → track ≡ entries_in cmp give es → new ≡ entries_in cmp give (es ++ record { key = key; step = step } ∷ []))
    ChangesAt-stands (Ok answer) change step follows = λ es stands.
        change.ok.1 ∙ entries_in-insert_entry o same give es (record { key = key; step = step }) old change.value (is ∙ stands) change.ordered
        (follows (steps_at cmp key es) answer change.value (answered_on answer change es stands))
    ChangesAt-stands (Err fault) change step follows = tt
