-- The closed spans of a thread in order, and the nearest holder of each.
use Rattle.std.specs.{List.Sorted.{IsPermutation, IsStrictlySortedBy}, Option.{IfSome, option_map}, Ordering.{int_cmp, nat_cmp, ordering_then}, Prelude.{◌≡◌, ℕ, suc, ◌<◌, ◌⊎◌, Bool, true, false, ◌&&◌, pos, int_le, List, [], ◌∷◌, Option, Some, None, length, slice_get, slice_index_or}, declared.cmp.Ordering.Ordering}
use Rattle.span_parents.specs.{Bytes, same_text, text_cmp, Span, is_child, outranks, declared.nearest.Among.{Among, TheVariants.{All, SameName}}}

-- the name by which a span is compared: that of all spans is the same where holders are looked for among all
abbrev pub name_among : Among → Bytes → Bytes
name_among All name = []
name_among SameName name = name

-- t holds s, and is one of the spans among which holders are looked for
abbrev pub is_holder : Among → Span Bytes → Span Bytes → Bool
is_holder among s t = same_text (name_among among t.name) (name_among among s.name) && is_child s t

-- the place is that of the highest holder of s, if it has one
abbrev pub IsPlaceOfHighest : Among → List (Span Bytes) → Span Bytes → Option ℕ → Type 0
IsPlaceOfHighest among spans s None = (q : ℕ) (u : Span Bytes) → slice_get spans q ≡ Some u → is_holder among s u ≡ false
IsPlaceOfHighest among spans s (Some p) =
    (t : Span Bytes) × (slice_get spans p ≡ Some t) × (is_holder among s t ≡ true)
    × ((q : ℕ) (u : Span Bytes) → slice_get spans q ≡ Some u → is_holder among s u ≡ true → (q ≡ p) ⊎ (outranks t u ≡ true))

-- for each span the place of its highest holder
pub record ArePlacesOfHighest (among : Among) (spans : List (Span Bytes)) (places : List (Option ℕ)) : Type 0 where
  pub count : length places ≡ length spans
  pub each : (p : ℕ) (s : Span Bytes) → slice_get spans p ≡ Some s → IsPlaceOfHighest among spans s (slice_index_or places p None)

-- a span as it is compared, and its place
pub record Placed : Type 0 where
  pub span : Span Bytes
  pub place : ℕ

abbrev pub placed : Among → Span Bytes → ℕ → Placed
placed among s place = record { span = record { name = name_among among s.name; start = s.start; until = s.until; at = s.at; args = [] }; place = place }

-- the spans with their places, from this one on
abbrev pub placed_from : Among → ℕ → List (Span Bytes) → List Placed
placed_from among n [] = []
placed_from among n (s ∷ spans) = placed among s n ∷ placed_from among (suc n) spans

-- by name, and then in ascending rank
abbrev pub placed_order : Placed → Placed → Ordering
placed_order a b =
    ordering_then (text_cmp a.span.name b.span.name) (ordering_then (int_cmp a.span.start b.span.start)
    (ordering_then (int_cmp b.span.until a.span.until) (nat_cmp a.span.at b.span.at)))

-- the spans, in order
pub record AreInOrder (among : Among) (spans : List (Span Bytes)) (ordered : List Placed) : Type 0 where
  pub order : IsStrictlySortedBy placed_order ordered
  pub same : IsPermutation (placed_from among 0 spans) ordered

abbrev pub nowhere : Placed
nowhere = record { span = record { name = []; start = pos 0; until = pos 0; at = 0; args = [] }; place = 0 }

abbrev pub in_order_at : List Placed → ℕ → Placed
in_order_at ordered i = slice_index_or ordered i nowhere

-- a has the name of b and ends no sooner
abbrev pub reaches : Placed → Placed → Bool
reaches a b = same_text a.span.name b.span.name && int_le b.span.until a.span.until

-- none reaches the i-th that stands behind the link and before it
abbrev pub ArePassed : List Placed → ℕ → Option ℕ → Type 0
ArePassed ordered i None = (j : ℕ) → j < i → reaches (in_order_at ordered j) (in_order_at ordered i) ≡ false
ArePassed ordered i (Some k) = (k < i) × ((j : ℕ) → k < j → j < i → reaches (in_order_at ordered j) (in_order_at ordered i) ≡ false)

-- the link is the last before the i-th that reaches it
pub record IsLink (ordered : List Placed) (i : ℕ) (link : Option ℕ) : Type 0 where
  pub passed : ArePassed ordered i link
  pub there : IfSome link (λ k. reaches (in_order_at ordered k) (in_order_at ordered i) ≡ true)

-- the links of the first
abbrev pub AreLinks : List Placed → List (Option ℕ) → Type 0
AreLinks ordered links = (i : ℕ) → i < length links → IsLink ordered i (slice_index_or links i None)

-- the place of the span to which a link leads
abbrev pub place_at : List Placed → Option ℕ → Option ℕ
place_at ordered link = option_map (λ k. (in_order_at ordered k).place) link
