-- Of the positions of spans in the journal only the order counts.
use Rattle.std.specs.{List.sum_by, Ordering.int_eq}
use Rattle.std.proofs.{Common.{◌≡◌, ℕ, ◌<◌, Bool, List, length, map, refl, ap, ◌∙◌, ◌&&◌, ◌||◌, int_lt, arith}, lemmas.{Bool.Decides.nat_tests, List.length-map, Simd.map-map}}
use Rattle.span_self_time.specs.{Positions.{Rises, renumbered_span}, Spans.{Span, outranks, length_of, self_time, busy_time, named, total_of, self_of}}
use Rattle.span_self_time.proofs.{Mapped.{busy_time-map, self_time-map, filter-map, sum_by-map}, Tops.sum_by-same}

pub Rises-from_lt : (f : ℕ → ℕ) → ((p q : ℕ) → p < q → f p < f q) → Rises f
Rises-from_lt f rises p q = grind (arith, nat_tests, rises p q, rises q p)

module _ {N : Type 0} (f : ℕ → ℕ) where
  pub busy_time-renumbered : (spans : List (Span N)) → busy_time (map (renumbered_span f) spans) ≡ busy_time spans
  busy_time-renumbered spans = busy_time-map (renumbered_span f) (λ s. refl) (λ s. refl) spans

  -- the names stay
  pub names-renumbered : (spans : List (Span N)) → map (λ s. s.name) (map (renumbered_span f) spans) ≡ map (λ s. s.name) spans
  names-renumbered spans = map-map (λ (s : Span N). s.name) (renumbered_span f) spans

  module _ (same : N → N → Bool) (name : N) where
    pub named-renumbered : (spans : List (Span N)) → named same name (map (renumbered_span f) spans) ≡ map (renumbered_span f) (named same name spans)
    named-renumbered spans = filter-map (λ s. same s.name name) (renumbered_span f) spans

    pub length-named-renumbered : (spans : List (Span N)) → length (named same name (map (renumbered_span f) spans)) ≡ length (named same name spans)
    length-named-renumbered spans = ap length (named-renumbered spans) ∙ length-map (named same name spans) (renumbered_span f)

    pub total_of-renumbered : (spans : List (Span N)) → total_of same name (map (renumbered_span f) spans) ≡ total_of same name spans
    total_of-renumbered spans = ap (sum_by (λ s. length_of s)) (named-renumbered spans) ∙ sum_by-map (λ s. length_of s) (renumbered_span f) (named same name spans)

    pub self_of-renumbered : Rises f → (spans : List (Span N)) → self_of same name (map (renumbered_span f) spans) ≡ self_of same name spans
    self_of-renumbered rises spans =
        ap (sum_by (λ s. self_time (map (renumbered_span f) spans) s)) (named-renumbered spans)
        ∙ sum_by-map (λ s. self_time (map (renumbered_span f) spans) s) (renumbered_span f) (named same name spans)
        ∙ sum_by-same (λ s. self_time (map (renumbered_span f) spans) (renumbered_span f s)) (λ s. self_time spans s) (λ s. self_time-map (renumbered_span f) (λ s. refl) (λ s. refl) ranks spans s) (named same name spans)
      where
        ranks : (a b : Span N) → outranks (renumbered_span f a) (renumbered_span f b) ≡ outranks a b
        ranks a b = ap (λ later. int_lt b.start a.start || (int_eq a.start b.start && (int_lt a.until b.until || (int_eq a.until b.until && later)))) (rises b.at a.at)
