-- What names there are changes no nesting and no time.
use Rattle.std.specs.{Int.{int_min, int_max}, List.list_any, Prelude.{ℤ, pos, ◌+ℤ◌, option_map}}
use Rattle.std.proofs.Common.{◌≡◌, ℕ, zero, suc, ◌+◌, List, [], ◌∷◌, map, Bool, cond, not, ◌&&◌, ◌||◌, refl, ap, ap₂, ◌∙◌}
use Rattle.span_keyed_tracks.proofs.Matching.Mapped.{opener-map_step, open_of-map_step, closed_of-map_step}
use Rattle.span_track.proofs.Threads.Mapped.{last_time-map_step, latest_time-map_step}
use Rattle.span_ledger.specs.{distance, Span, covers, outranks, is_outranked, is_covered, earliest, latest, count_from, self_time, busy_time, ThreadEvent, span_between, span_sealed, whole_span, opener, open_spans, closed_spans, last_time, latest_time, Numbered.{renamed_begin, renamed_span, renamed}}

list_any-map : {A B : Type 0} (p : B → Bool) (f : A → B) (xs : List A) → list_any p (map f xs) ≡ list_any (λ x. p (f x)) xs
list_any-map p f [] = refl
list_any-map p f (x ∷ xs) = ap (λ b. p (f x) || b) (list_any-map p f xs)

pub count_from-same : (t : ℤ) (n : ℕ) (p q : ℤ → Bool) → ((u : ℤ) → p u ≡ q u) → count_from t n p ≡ count_from t n q
count_from-same t zero p q h = refl
count_from-same t (suc n) p q h = ap₂ (λ b m. cond b 1 0 + m) (h t) (count_from-same (t +ℤ pos 1) n p q h)

module _ {N M : Type 0} (f : N → M) where
  pub opener-renamed : (es : List (ThreadEvent N)) → opener (renamed f es) ≡ option_map (renamed_begin f) (opener es)
  opener-renamed es = opener-map_step (renamed_begin f) (renamed_span f) es

  pub open_spans-renamed : (es : List (ThreadEvent N)) → open_spans (renamed f es) ≡ map (renamed_begin f) (open_spans es)
  open_spans-renamed es = open_of-map_step (renamed_begin f) (renamed_span f) es

  pub closed_spans-renamed : (es : List (ThreadEvent N)) → closed_spans (renamed f es) ≡ map (renamed_span f) (closed_spans es)
  closed_spans-renamed es =
      closed_of-map_step (renamed_begin f) (renamed_span f) (span_between {N = N}) (span_sealed {N = N}) (whole_span {N = N}) (span_between {N = M}) (span_sealed {N = M}) (whole_span {N = M}) (renamed_span f)
      (λ b e. refl) (λ b ts. refl) (λ s. refl) es

  pub last_time-renamed : (es : List (ThreadEvent N)) → last_time (renamed f es) ≡ last_time es
  last_time-renamed es = last_time-map_step (renamed_begin f) (renamed_span f) (λ b. refl) (λ s. refl) es

  pub latest_time-renamed : (es : List (ThreadEvent N)) → latest_time (renamed f es) ≡ latest_time es
  latest_time-renamed es = latest_time-map_step (renamed_begin f) (renamed_span f) (λ b. refl) (λ s. refl) es

  earliest-renamed : (spans : List (Span N)) → earliest (map (renamed_span f) spans) ≡ earliest spans
  earliest-renamed [] = refl
  earliest-renamed (s ∷ spans) = ap (λ t. int_min s.start t) (earliest-renamed spans)

  latest-renamed : (spans : List (Span N)) → latest (map (renamed_span f) spans) ≡ latest spans
  latest-renamed [] = refl
  latest-renamed (s ∷ spans) = ap (λ t. int_max s.until t) (latest-renamed spans)

  is_covered-renamed : (spans : List (Span N)) (u : ℤ) → is_covered (map (renamed_span f) spans) u ≡ is_covered spans u
  is_covered-renamed spans u = list_any-map (λ s. covers s u) (renamed_span f) spans

  pub busy_time-renamed : (spans : List (Span N)) → busy_time (map (renamed_span f) spans) ≡ busy_time spans
  busy_time-renamed spans =
      ap₂ (λ a b. count_from a (distance a b) (λ u. is_covered (map (renamed_span f) spans) u)) (earliest-renamed spans) (latest-renamed spans)
      ∙ count_from-same (earliest spans) (distance (earliest spans) (latest spans)) (λ u. is_covered (map (renamed_span f) spans) u) (λ u. is_covered spans u) (is_covered-renamed spans)

  pub self_time-renamed : (spans : List (Span N)) (s : Span N) → self_time (map (renamed_span f) spans) (renamed_span f s) ≡ self_time spans s
  self_time-renamed spans s =
      count_from-same s.start (distance s.start s.until) (λ u. not (is_outranked (map (renamed_span f) spans) (renamed_span f s) u)) (λ u. not (is_outranked spans s u))
      (λ u. ap not (list_any-map (λ a. covers a u && outranks a (renamed_span f s)) (renamed_span f) spans))
