-- That the places of the highest holders are those to which links lead.
use Rattle.std.proofs.{Common.{◌≡◌, ◌≢◌, ℕ, ◌+◌, ◌<◌, ◌≤◌, inl, inr, List, Option, Some, None, length, get_or, set, slice_get, sym, ap, ◌∙◌, subst, arith, length-set, get_or-set_other, get_or-set_same}, lemmas.{Bool.cases_eq, Option.slice_get_within}}
use Rattle.span_parents.specs.{Bytes, Span, Nearest.{AreInOrder, ArePlacesOfHighest, IsLink, IsPlaceOfHighest, Placed, in_order_at, place_at, placed}, declared.nearest.Among.Among}
use Rattle.span_parents.proofs.Finding.{IsOne-at, IsPlaceOfHighest-link, place_of}

-- the first n of the ordered spans have the places of their highest holders
pub record HavePlaces (among : Among) (spans : List (Span Bytes)) (ordered : List Placed) (n : ℕ) (places : List (Option ℕ)) : Type 0 where
  pub count : length places ≡ length spans
  pub each : (j : ℕ) → j < n → (s : Span Bytes) → slice_get spans (in_order_at ordered j).place ≡ Some s
      → IsPlaceOfHighest among spans s (get_or places (in_order_at ordered j).place None)

pub HavePlaces-none : (among : Among) (spans : List (Span Bytes)) (ordered : List Placed) (places : List (Option ℕ)) → length places ≡ length spans → HavePlaces among spans ordered 0 places
HavePlaces-none among spans ordered places count = record { count = count; each = λ j few s there. absurd (omega arith) }

module _ (among : Among) (spans : List (Span Bytes)) (ordered : List Placed) (are : AreInOrder among spans ordered) where
  pub place_within : (k : ℕ) → k < length ordered → (in_order_at ordered k).place < length spans
  place_within k within =
      let one = IsOne-at among spans ordered are k within in
      slice_get_within spans (in_order_at ordered k).place one.0 one.1

  module _ (i : ℕ) (places : List (Option ℕ)) (have : HavePlaces among spans ordered i places) where
    own_place : (link : Option ℕ) → i < length ordered → IsLink ordered i link → (s : Span Bytes) → slice_get spans (in_order_at ordered i).place ≡ Some s → IsPlaceOfHighest among spans s (place_at ordered link)
    own_place link within is s there =
        let one = IsOne-at among spans ordered are i within in
        let t = one.0 in
        let same : t ≡ s = let known = one.1 in cc in
        IsPlaceOfHighest-link among spans ordered are i within (in_order_at ordered i).place s (one.2 ∙ ap (λ u. placed among u (in_order_at ordered i).place) same) link is

    pub HavePlaces-more : (link : Option ℕ) → i < length ordered → IsLink ordered i link → HavePlaces among spans ordered (i + 1) (set places (in_order_at ordered i).place (place_at ordered link))
    HavePlaces-more link within is =
        let p = (in_order_at ordered i).place in
        let v = place_at ordered link in
        record {
          count = length-set places p v ∙ have.count;
          each = λ j few s there.
              let q = (in_order_at ordered j).place in
              elim (cases_eq q p) [
                | inl same ↦
                    let here : get_or (set places p v) q None ≡ v = ap (λ k. get_or (set places p v) k None) same ∙ get_or-set_same places p v None (omega (arith, place_within i within, have.count)) in
                    subst (IsPlaceOfHighest among spans s) (sym here) (own_place link within is s (sym (ap (slice_get spans) same) ∙ there))
                | inr differs ↦
                    let before : j ≢ i = λ e. differs (ap (λ k. (in_order_at ordered k).place) e) in
                    subst (IsPlaceOfHighest among spans s) (sym (get_or-set_other places p q v None differs)) (have.each j (omega arith) s there)
              ];
        }

    pub ArePlacesOfHighest-all : length ordered ≤ i → ArePlacesOfHighest among spans places
    ArePlacesOfHighest-all all = record {
      count = have.count;
      each = λ p s there.
          let found = place_of among spans ordered are p s there in
          let here : (in_order_at ordered found.0).place ≡ p = ap (λ (a : Placed). a.place) found.2 in
          subst (λ q. IsPlaceOfHighest among spans s (get_or places q None)) here (have.each found.0 (omega (arith, found.1)) s (ap (slice_get spans) here ∙ there));
    }
