-- What the places of the highest holders say of parents and outer spans.
use Rattle.std.specs.{List.{All}, Option.{IfSome, is_none, option_and_then}}
use Rattle.std.proofs.{Common.{◌≡◌, ℕ, ◌<◌, inl, inr, not, ◌&&◌, List, Option, Some, None, map, length, get_or, slice_get, sym, ap, ◌∙◌, subst, arith}, lemmas.{List.{get_or-map, length-map, get_or_default, same_lists}, Option.{slice_get-get_or, slice_get_within}}}
use Rattle.span_parents.specs.{Bytes, same_text, Span, is_child, Holding.{highest, is_outer, parent_of, spans_at}, Nearest.{ArePlacesOfHighest, IsPlaceOfHighest, nowhere}, declared.nearest.Among.{Among, TheVariants.{All as OfAll, SameName}}}
use Rattle.span_parents.proofs.Highest.{filter-none, highest-filter, list_any-at, list_any-filter, list_any-none}

module _ (among : Among) (spans : List (Span Bytes)) (places : List (Option ℕ)) (are : ArePlacesOfHighest among spans places) where
  -- what follows from each place
  map-places : {B : Type 0} (f : Option ℕ → B) (g : Span Bytes → B) → ((s : Span Bytes) (place : Option ℕ) → IsPlaceOfHighest among spans s place → f place ≡ g s) → map f places ≡ map g spans
  map-places f g follows =
      same_lists (map f places) (map g spans) (length-map places f ∙ are.count ∙ sym (length-map spans g)) (λ k d few.
      let there : k < length places = omega (arith, length-map places f) in
      let within : k < length spans = omega (arith, are.count) in
      let s = get_or spans k nowhere.span in
      get_or-map f places k None d there ∙ follows s (get_or places k None) (are.each k s (slice_get-get_or spans k nowhere.span within)) ∙ sym (get_or-map g spans k nowhere.span d within))

parent-place : (spans : List (Span Bytes)) (s : Span Bytes) (place : Option ℕ) → IsPlaceOfHighest OfAll spans s place → option_and_then (slice_get spans) place ≡ parent_of spans s
parent-place spans s None is = sym (ap highest (filter-none (λ t. is_child s t) spans is))
parent-place spans s (Some p) is =
    is.1 ∙ sym (highest-filter (λ t. is_child s t) is.0 spans p is.1 is.2 (λ q u at holds.
    elim (is.3 q u at holds) [
      | inl same ↦ let there : slice_get spans q ≡ Some is.0 = ap (slice_get spans) same ∙ is.1 in let t = is.0 in inl cc
      | inr above ↦ inr above
    ]))

outer-place : (spans : List (Span Bytes)) (s : Span Bytes) (place : Option ℕ) → IsPlaceOfHighest SameName spans s place → is_none place ≡ is_outer spans s
outer-place spans s None is =
    ap not (sym (list_any-filter (λ t. same_text t.name s.name) (λ t. is_child s t) spans ∙ list_any-none (λ t. same_text t.name s.name && is_child s t) spans is))
outer-place spans s (Some p) is =
    ap not (sym (list_any-filter (λ t. same_text t.name s.name) (λ t. is_child s t) spans ∙ list_any-at (λ t. same_text t.name s.name && is_child s t) is.0 spans p is.1 is.2))

pub spans_at-parents : (spans : List (Span Bytes)) (places : List (Option ℕ)) → ArePlacesOfHighest OfAll spans places → spans_at spans places ≡ map (parent_of spans) spans
spans_at-parents spans places are = map-places OfAll spans places are (λ place. option_and_then (slice_get spans) place) (parent_of spans) (parent-place spans)

pub is_none-outer : (spans : List (Span Bytes)) (places : List (Option ℕ)) → ArePlacesOfHighest SameName spans places → map is_none places ≡ map (is_outer spans) spans
is_none-outer spans places are = map-places SameName spans places are is_none (is_outer spans) (outer-place spans)

within : (among : Among) (spans : List (Span Bytes)) (s : Span Bytes) (place : Option ℕ) → IsPlaceOfHighest among spans s place → IfSome place (λ p. p < length spans)
within among spans s None is = tt
within among spans s (Some p) is = slice_get_within spans p is.0 is.1

pub All-within : (among : Among) (spans : List (Span Bytes)) (places : List (Option ℕ)) → ArePlacesOfHighest among spans places → All (λ place. IfSome place (λ p. p < length spans)) places
All-within among spans places are = λ k d few.
    let here : k < length spans = omega (arith, are.count) in
    let s = get_or spans k nowhere.span in
    subst (λ place. IfSome place (λ p. p < length spans)) (get_or_default places k None d few)
    (within among spans s (get_or places k None) (are.each k s (slice_get-get_or spans k nowhere.span here)))
