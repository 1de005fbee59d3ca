-- Positions in the journal change no nesting and no time.
use Rattle.std.specs.Prelude.{option_map}
use Rattle.std.proofs.{Common.{◌≡◌, ℕ, List, map, length, refl, ap, ◌∙◌}, lemmas.List.length-map}
use Rattle.span_keyed_tracks.proofs.Matching.Mapped.{opener-map_step, open_of-map_step, closed_of-map_step}
use Rattle.span_track.specs.{renumbered_span, map_step, Nesting.{ThreadEvent, renumbered_begin, span_between, span_sealed, whole_span, opener, open_spans, depth_of, closed_spans, last_time, latest_time}}
use Rattle.span_track.proofs.Threads.Mapped.{last_time-map_step, latest_time-map_step}

-- the events with the position of each begin and of each whole span in place of another
abbrev pub renumbered : {N : Type 0} → (ℕ → ℕ) → List (ThreadEvent N) → List (ThreadEvent N)
renumbered f es = map (map_step (renumbered_begin f) (renumbered_span f)) es

module _ {N : Type 0} (f : ℕ → ℕ) where
  pub opener-renumbered : (es : List (ThreadEvent N)) → opener (renumbered f es) ≡ option_map (renumbered_begin f) (opener es)
  opener-renumbered es = opener-map_step (renumbered_begin f) (renumbered_span f) es

  pub open_spans-renumbered : (es : List (ThreadEvent N)) → open_spans (renumbered f es) ≡ map (renumbered_begin f) (open_spans es)
  open_spans-renumbered es = open_of-map_step (renumbered_begin f) (renumbered_span f) es

  pub depth_of-renumbered : (es : List (ThreadEvent N)) → depth_of (renumbered f es) ≡ depth_of es
  depth_of-renumbered es = ap length (open_spans-renumbered es) ∙ length-map (open_spans es) (renumbered_begin f)

  pub closed_spans-renumbered : (es : List (ThreadEvent N)) → closed_spans (renumbered f es) ≡ map (renumbered_span f) (closed_spans es)
  closed_spans-renumbered es =
      closed_of-map_step (renumbered_begin f) (renumbered_span f) (span_between {N = N}) (span_sealed {N = N}) (whole_span {N = N}) (span_between {N = N}) (span_sealed {N = N}) (whole_span {N = N}) (renumbered_span f)
      (λ b e. refl) (λ b ts. refl) (λ s. refl) es

  pub last_time-renumbered : (es : List (ThreadEvent N)) → last_time (renumbered f es) ≡ last_time es
  last_time-renumbered es = last_time-map_step (renumbered_begin f) (renumbered_span f) (λ b. refl) (λ s. refl) es

  pub latest_time-renumbered : (es : List (ThreadEvent N)) → latest_time (renumbered f es) ≡ latest_time es
  latest_time-renumbered es = latest_time-map_step (renumbered_begin f) (renumbered_span f) (λ b. refl) (λ s. refl) es
