-- How the places of the fields fill up as members are put into an object.
use Rattle.std.proofs.{Common.{◌≡◌, ℕ, List, [], ◌∷◌, Bool, true, false, Option, Some, None, get_or, true≢false, map, option_map, refl, sym, ap, ap₂, ◌∙◌, if◌then◌else◌}, lemmas.Slice.Eq.bytes_eq-Decides}
use Rattle.serde_json.specs.Data.{Data, Members, put}
use Rattle.serde_json.proofs.Views.{get_member-put, get_member-put_other}
use Rattle.span_read.specs.{same_text, Fields.{field_value, field_at}, Slots.{slots, put_at}, declared.fields.{FieldValue.FieldValue, Fields.Fields}}

-- what the members have in each place
abbrev pub places : List (List ℕ) → Members → List (Option FieldValue)
places ns ms = map (λ n. field_at n ms) ns

put_one : (b : Bool) (name n : List ℕ) (d : Data) (ms : Members) → same_text name n ≡ b → (if b then Some (field_value d) else field_at n ms) ≡ field_at n (put name d ms)
put_one true name n d ms is =
    let same : name ≡ n = (bytes_eq-Decides name n).0 is in
    ap (option_map field_value) (sym (get_member-put name d ms)) ∙ ap (λ m. field_at m (put name d ms)) same
put_one false name n d ms is =
    ap (option_map field_value) (sym (get_member-put_other n name d ms (λ same. true≢false (sym ((bytes_eq-Decides name n).1 (sym same)) ∙ is))))

pub put_at-places : (name : List ℕ) (d : Data) (ms : Members) (ns : List (List ℕ)) → put_at name (field_value d) ns (places ns ms) ≡ places ns (put name d ms)
put_at-places name d ms [] = refl
put_at-places name d ms (n ∷ ns) = ap₂ (λ o os. o ∷ os) (put_one _ name n d ms refl) (put_at-places name d ms ns)

fields_at : (ℕ → Option FieldValue) → Fields
fields_at at = record { ph = at 0; ts = at 1; dur = at 2; pid = at 3; tid = at 4; name = at 5; cat = at 6; id = at 7; id2 = at 8; scope = at 9; s = at 10; args = at 11 }

pub slots_injective : (f g : Fields) → slots f ≡ slots g → f ≡ g
unfolding fields_at
slots_injective f g same = ap (λ os. fields_at (λ n. get_or os n None)) same
