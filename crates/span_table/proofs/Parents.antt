-- The parents of spans as columns see them.
use Rattle.std.specs.{List.list_any, Option.{option_and_then, option_map}, Prelude.{filter, not, slice_get, unwrap_or}}
use Rattle.std.proofs.{Common.{◌≡◌, ℕ, Bool, true, false, ◌&&◌, ◌||◌, cond, int_le, List, [], ◌∷◌, map, Option, Some, None, refl, sym, ap, ap₂, ◌∙◌}, lemmas.{Bool.or_parts, Option.slice_get-map, Simd.map-map, List.map-id}}
use Rattle.span_self_time.proofs.Mapped.{filter-map}
use Rattle.span_table.specs.{Bytes, Thread, Span, Timed, timed_in, length_of, is_child, is_outer, named, outranks, same_text, higher, highest, holders, parent_of, spans_of, Collected.{KnowOuter, KnowParents, outer_at, place_at, span_at}, Columns.{Called, Run, Value, is_of_parent, value_at}, Numbers.has_number, Sums.{number_by, only, sums_of_span}, Tables.{called, span_key, sums_of}, declared.{column.Column.{Column, TheVariants.{ParentName, ParentArgument}}, number.Number.{Number, TheVariants.Outer}}}
use Rattle.span_table.proofs.Numbers.{only-same}

pub option_map-map : {A B C : Type 0} (f : B → C) (g : A → B) (o : Option A) → option_map f (option_map g o) ≡ option_map (λ x. f (g x)) o
option_map-map f g None = refl
option_map-map f g (Some x) = refl

module _ {N M : Type 0} (f : Span N → Span M) (starts : (s : Span N) → (f s).start ≡ s.start) (ends : (s : Span N) → (f s).until ≡ s.until) (ranks : (a b : Span N) → outranks (f a) (f b) ≡ outranks a b) where
  is_child-map : (s t : Span N) → is_child (f s) (f t) ≡ is_child s t
  is_child-map s t = λ i. (int_le (starts t i) (starts s i) && int_le (ends s i) (ends t i)) && ranks s t i

  holders-map : (spans : List (Span N)) (s : Span N) → holders (map f spans) (f s) ≡ map f (holders spans s)
  holders-map spans s = filter-map (λ t. is_child (f s) t) f spans ∙ (λ i. map f (filter (λ t. is_child-map s t i) spans))

  higher-map : (t : Span N) (o : Option (Span N)) → higher (f t) (option_map f o) ≡ f (higher t o)
  higher-map t None = refl
  higher-map t (Some other) = ap (λ b. cond b (f t) (f other)) (ranks t other) ∙ by (outranks t other)
    where
      by : (b : Bool) → cond b (f t) (f other) ≡ f (cond b t other)
      by true = refl
      by false = refl

  highest-map : (spans : List (Span N)) → highest (map f spans) ≡ option_map f (highest spans)
  highest-map [] = refl
  highest-map (t ∷ spans) = ap Some (ap (higher (f t)) (highest-map spans) ∙ higher-map t (highest spans))

  pub parent_of-map : (spans : List (Span N)) (s : Span N) → parent_of (map f spans) (f s) ≡ option_map f (parent_of spans s)
  parent_of-map spans s = ap highest (holders-map spans s) ∙ highest-map (holders spans s)

-- a span is outer among spans of the same names that lie and rank alike
pub is_outer-map : (f : Span Bytes → Span Bytes) → ((s : Span Bytes) → (f s).start ≡ s.start) → ((s : Span Bytes) → (f s).until ≡ s.until) → ((a b : Span Bytes) → outranks (f a) (f b) ≡ outranks a b) →
    ((s : Span Bytes) → (f s).name ≡ s.name) → (spans : List (Span Bytes)) (s : Span Bytes) → is_outer (map f spans) (f s) ≡ is_outer spans s
is_outer-map f starts ends ranks names spans s =
    ap not (ap (list_any (λ t. is_child (f s) t)) (filter-map (λ (t : Span Bytes). same_text t.name (f s).name) f spans ∙ (λ i. map f (filter (λ t. same_text (names t i) (names s i)) spans)))
    ∙ each (named same_text s.name spans))
  where
    each : (xs : List (Span Bytes)) → list_any (λ t. is_child (f s) t) (map f xs) ≡ list_any (λ t. is_child s t) xs
    each [] = refl
    each (x ∷ xs) = ap₂ (λ a b. a || b) (is_child-map f starts ends ranks s x) (each xs)

-- the spans of timed ones are these
pub spans_of-timed : (spans xs : List (Span Bytes)) → spans_of (map (timed_in spans) xs) ≡ xs
spans_of-timed spans xs = map-map (λ (t : Timed). t.span) (timed_in spans) xs ∙ map-id xs

-- a column that isn't the parent's has the same value whatever the parent is
value_at-no_parent : (run : Run) (thread : Thread) (span : Called) (p q : Option Called) (column : Column) → is_of_parent column ≡ false → value_at run thread span p column ≡ value_at run thread span q column
value_at-no_parent run thread span p q ParentName h = cc
value_at-no_parent run thread span p q (ParentArgument key) h = cc
value_at-no_parent run thread span p q column h = refl

key-no_parent : (run : Run) (thread : Thread) (span : Called) (p q : Option Called) (columns : List Column) → list_any is_of_parent columns ≡ false → map (value_at run thread span p) columns ≡ map (value_at run thread span q) columns
key-no_parent run thread span p q [] h = refl
key-no_parent run thread span p q (column ∷ columns) h =
    let both = or_parts (is_of_parent column) (list_any is_of_parent columns) h in
    ap₂ (λ (v : Value) l. v ∷ l) (value_at-no_parent run thread span p q column both.0) (key-no_parent run thread span p q columns both.1)

-- where parents are known, so is that of the span at a place
parent-known : (spans : List (Span Bytes)) (places : List (Option ℕ)) (at : ℕ) (s : Span Bytes) → map (span_at spans) places ≡ map (parent_of spans) spans → slice_get spans at ≡ Some s → span_at spans (place_at places at) ≡ parent_of spans s
parent-known spans places at s known here =
    by (slice_get places at) (sym (slice_get-map (span_at spans) places at) ∙ ap (λ l. slice_get l at) known ∙ slice_get-map (parent_of spans) spans at ∙ ap (option_map (parent_of spans)) here)
  where
    by : (o : Option (Option ℕ)) → option_map (span_at spans) o ≡ Some (parent_of spans s) → span_at spans (option_and_then (λ place. place) o) ≡ parent_of spans s
    by None e = cc
    by (Some place) e = cc

-- a key is made of what is known of parents
pub span_key-known : (columns : List Column) (run : Run) (thread : Thread) (spans : List (Span Bytes)) (places : List (Option ℕ)) (at : ℕ) (s : Span Bytes) → KnowParents columns spans places → slice_get spans at ≡ Some s →
    map (value_at run thread (called s) (option_map called (span_at spans (place_at places at)))) columns ≡ span_key columns run thread spans s
span_key-known columns run thread spans places at s known here = by (list_any is_of_parent columns) refl
  where
    by : (b : Bool) → list_any is_of_parent columns ≡ b → map (value_at run thread (called s) (option_map called (span_at spans (place_at places at)))) columns ≡ span_key columns run thread spans s
    by true e = ap (λ p. map (value_at run thread (called s) (option_map called p)) columns) (parent-known spans places at s (known e) here)
    by false e = key-no_parent run thread (called s) (option_map called (span_at spans (place_at places at))) (option_map called (parent_of spans s)) columns e

-- a step has the numbers that are known of the span at a place
pub sums_of-known : (numbers : List Number) (spans : List (Span Bytes)) (outer : List Bool) (at : ℕ) (t : Timed) → KnowOuter (has_number numbers Outer) spans outer → slice_get spans at ≡ Some t.span →
    only numbers (sums_of_span (length_of t.span) t.self_time (outer_at outer at)) ≡ only numbers (sums_of spans t)
sums_of-known numbers spans outer at t known here = only-same numbers (sums_of_span (length_of t.span) t.self_time (outer_at outer at)) (sums_of spans t) same
  where
    same : (n : Number) → has_number numbers n ≡ true → number_by n (sums_of_span (length_of t.span) t.self_time (outer_at outer at)) ≡ number_by n (sums_of spans t)
    same Outer has =
        let found : slice_get outer at ≡ Some (is_outer spans t.span) = ap (λ (l : List Bool). slice_get l at) (known has) ∙ slice_get-map (is_outer spans) spans at ∙ ap (option_map (is_outer spans)) here in
        ap (λ o. cond (unwrap_or o false) (length_of t.span) 0) found
    same n has = refl
