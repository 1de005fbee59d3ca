-- The elements of a document, against the limit; and the member `traceEvents` as members are put into an object.
use Rattle.std.proofs.{Common.{◌≡◌, ℕ, ◌+◌, ◌<◌, ◌≤◌, List, [], ◌∷◌, ◌++◌, length, Bool, true, false, Some, Ok, Err, map, codes, option_and_then, if◌then◌else◌, append_assoc, refl, sym, ap, ap₂, ◌∙◌, subst, arith, rules, tests}, lemmas.List.{append-nil, length-append, length-map, map-append, map_push}}
use Rattle.serde_json.specs.{Data.{Data, object, Items, no_items, Members, put}, Events.items_len, Find.{as_array, get_member}}
use Rattle.serde_json.proofs.Views.{get_member-put, get_member-put_other}
use Rattle.span_read.specs.{Item, Unit, Document.{elements_of, items_of, doc_of_elements}, Element.item_of_data, Elements.{AreCollected, Adds, AddsItems}, Tokens.items_before, declared.{elements.Elements.Elements, error.ReadError.TheVariants.TooMany, format.Format.Format}}

items_len-items_before : (bs : List Data) (ds : Items) → items_len (items_before bs ds) ≡ length bs + items_len ds
items_len-items_before [] ds = omega arith
items_len-items_before (b ∷ bs) ds = let more = items_len-items_before bs ds in omega arith

items_of-items_before : (unit : Unit) (bs : List Data) → items_of unit (items_before bs no_items) ≡ map (item_of_data unit) bs
items_of-items_before unit [] = refl
items_of-items_before unit (b ∷ bs) = ap (λ is. item_of_data unit b ∷ is) (items_of-items_before unit bs)

-- there are as many elements as items, or more than the limit
as_many_or : (format : Format) (e : Elements) (ds : List Data) → AreCollected format e ds → (b : Bool) → e.too_many ≡ b → length e.items ≤ length ds
as_many_or format e ds are true h = omega (arith, are.within, are.over h)
as_many_or format e ds are false h = omega (arith, ap length (are.all h), length-map ds (item_of_data format.unit))

-- nothing is added by no element
pub Adds-none : (format : Format) (e : Elements) → Adds format e e []
Adds-none format e = λ before are. subst (AreCollected format e) (sym (append-nil before)) are

pub Adds-both : (format : Format) (old mid new : Elements) (ds es : List Data) → Adds format old mid ds → Adds format mid new es → Adds format old new (ds ++ es)
Adds-both format old mid new ds es first second = λ before are. subst (AreCollected format new) (append_assoc before ds es) (second (before ++ ds) (first before are))

module _ (format : Format) (start old new : Elements) (ds : List Data) (d : Data) (added : Adds format start old ds) where
  -- one element more, below the limit and above it
  pub Adds-push : length old.items < format.most_elements → new.items ≡ old.items ++ item_of_data format.unit d ∷ [] → new.too_many ≡ old.too_many → Adds format start new (ds ++ d ∷ [])
  Adds-push few pushed same = λ before are.
      let all = added before are in
      let long = length-append (before ++ ds) (d ∷ []) in
      subst (AreCollected format new) (append_assoc before ds (d ∷ [])) (record {
        within = omega (arith, few, ap length pushed, length-append old.items (item_of_data format.unit d ∷ []));
        all = λ h. map_push (item_of_data format.unit) (before ++ ds) d ∙ ap (λ is. is ++ item_of_data format.unit d ∷ []) (all.all (sym same ∙ h)) ∙ sym pushed;
        over = λ h. omega (arith, long, all.over (sym same ∙ h));
      })

  pub Adds-over : format.most_elements ≤ length old.items → new.items ≡ old.items → new.too_many ≡ true → Adds format start new (ds ++ d ∷ [])
  Adds-over full same more = λ before are.
      let all = added before are in
      let long = length-append (before ++ ds) (d ∷ []) in
      subst (AreCollected format new) (append_assoc before ds (d ∷ [])) (record {
        within = omega (arith, all.within, ap length same);
        all = λ h. absurd (cc);
        over = λ h. omega (arith, long, as_many_or format old (before ++ ds) all old.too_many refl);
      })

-- several elements more
pub Adds-items : (format : Format) (old new : Elements) (is : List Item) → length old.items + length is ≤ format.most_elements → new.items ≡ old.items ++ is → new.too_many ≡ old.too_many → AddsItems format is old new
Adds-items format old new is few made same = λ ds items before are.
    let long = length-append before ds in
    record {
      within = omega (arith, few, ap length made, length-append old.items is);
      all = λ h. map-append (item_of_data format.unit) before ds ∙ ap₂ (λ xs ys. xs ++ ys) (are.all (sym same ∙ h)) items ∙ sym made;
      over = λ h. omega (arith, long, are.over (sym same ∙ h));
    }

pub Adds-too_many : (format : Format) (old new : Elements) (is : List Item) → format.most_elements < length old.items + length is → new.items ≡ old.items → new.too_many ≡ true → AddsItems format is old new
Adds-too_many format old new is many same more = λ ds items before are.
    let long = length-append before ds in
    let wide : length ds ≡ length is = sym (length-map ds (item_of_data format.unit)) ∙ ap length items in
    record {
      within = omega (arith, are.within, ap length same);
      all = λ h. absurd (cc);
      over = λ h. omega (arith, long, wide, many, as_many_or format old before are old.too_many refl);
    }

doc_of_elements-over : (format : Format) (e : Elements) (ds : List Data) → AreCollected format e ds → e.too_many ≡ true → Err TooMany ≡ doc_of_elements format (Some (items_before ds no_items))
doc_of_elements-over format e ds are more =
    let over : format.most_elements < items_len (items_before ds no_items) = omega (arith, items_len-items_before ds no_items, are.over more) in
    search (rules, tests)

doc_of_elements-all : (format : Format) (e : Elements) (ds : List Data) → AreCollected format e ds → e.too_many ≡ false → doc_of_elements format (Some (items_before ds no_items)) ≡ Ok e.items
doc_of_elements-all format e ds are whole =
    let within : items_len (items_before ds no_items) ≤ format.most_elements = omega (arith, items_len-items_before ds no_items, are.within, ap length (are.all whole), length-map ds (item_of_data format.unit)) in
    let kept : doc_of_elements format (Some (items_before ds no_items)) ≡ Ok (items_of format.unit (items_before ds no_items)) = search (rules, tests) in
    kept ∙ ap Ok (items_of-items_before format.unit ds ∙ are.all whole)

collected : (format : Format) (e : Elements) (ds : List Data) → AreCollected format e ds → (b : Bool) → e.too_many ≡ b → (if b then Err TooMany else Ok e.items) ≡ doc_of_elements format (Some (items_before ds no_items))
collected format e ds are true h = doc_of_elements-over format e ds are h
collected format e ds are false h = sym (doc_of_elements-all format e ds are h)

-- what is found of the items, with the limit, where none were collected before
pub doc_of_elements-collected : (format : Format) (start e : Elements) (ds : List Data) → start.items ≡ [] → start.too_many ≡ false → Adds format start e ds
    → (if e.too_many then Err TooMany else Ok e.items) ≡ doc_of_elements format (Some (items_before ds no_items))
doc_of_elements-collected format start e ds none few added =
    let empty : AreCollected format start [] = record { within = omega (arith, ap length none); all = λ h. sym none; over = λ h. absurd (cc) } in
    collected format e ds (added [] empty) e.too_many refl

-- the last member of the name counts
pub elements_of-put : (k : List ℕ) (d : Data) (ms : Members) → k ≡ codes "traceEvents" → elements_of (object (put k d ms)) ≡ as_array d
elements_of-put k d ms is = ap (λ name. option_and_then as_array (get_member name (put k d ms))) (sym is) ∙ ap (option_and_then as_array) (get_member-put k d ms)

pub elements_of-put_other : (k : List ℕ) (d : Data) (ms : Members) → (k ≡ codes "traceEvents" → ⊥) → elements_of (object (put k d ms)) ≡ elements_of (object ms)
elements_of-put_other k d ms other = ap (option_and_then as_array) (get_member-put_other (codes "traceEvents") k d ms (λ is. other (sym is)))
