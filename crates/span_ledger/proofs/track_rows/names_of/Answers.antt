use Rattle.std.specs.{BTreeSet.{insert_key, keys}, List.cons_option, Prelude.{fold, filter_map, nat_eq, slice_get, option_and_then}}
use Rattle.std.proofs.{Common.{◌≡◌, ℕ, suc, ◌+◌, ◌<◌, List, length, get_or, drop, drop-cons, Option, Some, None, refl, sym, ap, ◌∙◌, arith}, lemmas.Option.slice_get-get_or}
use Rattle.span_ledger.specs.{text_cmp, names_of}
use Rattle.span_ledger.proofs.track_rows.names_of.Goals.{in-Some+in_ok-copy+in_ok-insert, in_default}
use Rattle.span_ledger.proofs.track_rows.names_of.Goals as goal

fold-cons_option : {A B : Type 0} (f : B → A → B) (b : B) (o : Option A) (xs : List A) (c : B) → ((x : A) → o ≡ Some x → f b x ≡ c) → (o ≡ None → b ≡ c) → fold f b (cons_option o xs) ≡ fold f c xs
fold-cons_option f b None xs c some none = ap (λ d. fold f d xs) (none refl)
fold-cons_option f b (Some x) xs c some none = ap (λ d. fold f d xs) (some x refl)

-- one more element is passed
filter_map-step : {A B : Type 0} (h : A → Option B) (xs : List A) (i : ℕ) (x : A) → i < length xs → filter_map h (drop i xs) ≡ cons_option (option_and_then h (slice_get xs i)) (filter_map h (drop (i + 1) xs))
filter_map-step h xs i x within =
    let next : suc i ≡ i + 1 = omega arith in
    ap (filter_map h) (drop-cons xs i x within)
    ∙ ap (λ k. cons_option (h (get_or xs i x)) (filter_map h (drop k xs))) next
    ∙ ap (λ o. cons_option (option_and_then h o) (filter_map h (drop (i + 1) xs))) (sym (slice_get-get_or xs i x within))

-- the names after one more number, of which this one is the name
more_names : (names : List (List ℕ)) (numbers : List ℕ) (i : ℕ) (o : Option (List ℕ)) (before after all : List (List ℕ)) → i < length numbers → o ≡ option_and_then (slice_get names) (slice_get numbers i) →
    ((x : List ℕ) → o ≡ Some x → insert_key text_cmp before x ≡ after) → (o ≡ None → before ≡ after) →
    fold (insert_key text_cmp) before (filter_map (slice_get names) (drop i numbers)) ≡ all → fold (insert_key text_cmp) after (filter_map (slice_get names) (drop (i + 1) numbers)) ≡ all
more_names names numbers i o before after all within is some none whole =
    sym (fold-cons_option (insert_key text_cmp) before o (filter_map (slice_get names) (drop (i + 1) numbers)) after some none)
    ∙ ap (λ p. fold (insert_key text_cmp) before (cons_option p (filter_map (slice_get names) (drop (i + 1) numbers)))) is
    ∙ ap (fold (insert_key text_cmp) before) (sym (filter_map-step (slice_get names) numbers i 0 within))
    ∙ whole

pub loop-i-preserved : goal.loop-i-preserved
loop-i-preserved c =
    let within : c.loop-i.i < length (names_of nat_eq c.args.track.now.closed) = omega (arith, c.loop-i-test.true, c.name_count-i-end.ensures) in
    elim c.match-closed_name.branch [
      | in-Some+in_ok-copy+in_ok-insert w ↦
          more_names c.args.names.now (names_of nat_eq c.args.track.now.closed) c.loop-i.i (Some w.in-Some.name.now) c.loop-i.found.keys c.match-closed_name.found.keys _ within w.in-Some.ensures
          (λ (x : List ℕ) (e : Some w.in-Some.name.now ≡ Some x). let same : w.in-Some.name.now ≡ x = cc in
          ap (insert_key text_cmp c.loop-i.found.keys) (sym same ∙ sym w.in_ok-copy.ensures) ∙ sym w.in_ok-insert.ensures.keys ∙ ap keys (sym w.found-is))
          (λ (e : ◌≡◌ {A = Option (List ℕ)} (Some w.in-Some.name.now) None). cc)
          c.loop-i.invariant
      | in_default w ↦
          more_names c.args.names.now (names_of nat_eq c.args.track.now.closed) c.loop-i.i None c.loop-i.found.keys c.match-closed_name.found.keys _ within w.in_default.ensures
          (λ (x : List ℕ) (e : ◌≡◌ {A = Option (List ℕ)} None (Some x)). cc)
          (λ (e : ◌≡◌ {A = Option (List ℕ)} None None). ap keys (sym w.found-is))
          c.loop-i.invariant
    ]
