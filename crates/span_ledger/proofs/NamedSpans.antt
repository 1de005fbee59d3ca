-- The numbered spans of a track with their texts again are the spans of its events.
use Rattle.std.specs.{List.{list_all, cons_option}, Option.{option_map, option_to_list}}
use Rattle.std.proofs.{Common.{◌≡◌, ℕ, ◌+◌, ◌<◌, List, [], ◌∷◌, ◌++◌, map, true, Option, Some, None, refl, sym, ap, ap₂, ◌∙◌, subst, All, length, get_or, take}, lemmas.{List.{map_push, take_more, Elements.{All-cons, All-head, All-nil, All-tail, filter_map-append}}, Simd.map-map}}
use Rattle.span_names.proofs.Numbers.{slice_get-number_in}
use Rattle.span_keyed_tracks.proofs.Matching.Closed.{both_true}
use Rattle.span_ledger.specs.{Bytes, Thread, ClosedSpan, AreClosed, IsInTime, span_of, IsApart, AreSpans, Span, self_time, self_times, ThreadEvent, closed_spans, ThreadSpans, Entry, thread_events, Named.{AreThreadSpans, IsTimely, named_span, named_spans}, Numbered.renamed_span, Tracked.{FollowsJournal, SpansKept, TracksKept, number_for, track_at}}
use Rattle.span_ledger.proofs.{Renaming.self_time-renamed, ThreadTelling.{IsTrackOf, IsTrackOf-journal}, Totals.{is_numbered_span, number_for-is}, TrackRows.{closed-is, known}}

-- each text has its number, and each number its text
pub named_spans-renamed : (names : List Bytes) (spans : List (Span Bytes)) → list_all (is_numbered_span names) spans ≡ true →
    named_spans names (map (renamed_span (number_for names)) spans) ≡ spans
named_spans-renamed names [] numbered = refl
named_spans-renamed names (s ∷ spans) numbered =
    let parts = both_true (is_numbered_span names s) (list_all (is_numbered_span names) spans) numbered in
    let text = slice_get-number_in names s.name (number_for names s.name) (number_for-is names s.name parts.0) in
    ap₂ (λ (o : Option Bytes) (xs : List (Span Bytes)). cons_option (option_map (λ text. renamed_span (λ number. text) (renamed_span (number_for names) s)) o) xs) text (named_spans-renamed names spans parts.1)

module _ {N M : Type 0} (f : N → M) where
  IsApart-renamed : (at : ℕ) (spans : List (Span N)) → IsApart at (map (renamed_span f) spans) → IsApart at spans
  IsApart-renamed at [] apart = tt
  IsApart-renamed at (s ∷ spans) apart = (apart.0, IsApart-renamed at spans apart.1)

  -- positions and times don't look at names
  pub AreSpans-renamed : (spans : List (Span N)) → AreSpans (map (renamed_span f) spans) → AreSpans spans
  AreSpans-renamed [] are = tt
  AreSpans-renamed (s ∷ spans) are = (are.0, IsApart-renamed s.at spans are.1, AreSpans-renamed spans are.2)

IsTimely-renamed : (f : Bytes → ℕ) (spans : List (Span Bytes)) → All IsInTime (map (renamed_span f) spans) → All IsTimely spans
IsTimely-renamed f [] in_time = All-nil IsTimely
IsTimely-renamed f (s ∷ spans) in_time =
    All-cons IsTimely s spans (All-head IsInTime (renamed_span f s) (map (renamed_span f) spans) in_time) (IsTimely-renamed f spans (All-tail IsInTime (renamed_span f s) (map (renamed_span f) spans) in_time))

pub AreThreadSpans-renamed : (f : Bytes → ℕ) (spans : List (Span Bytes)) → AreClosed (map (renamed_span f) spans) → AreThreadSpans spans
AreThreadSpans-renamed f spans closed = record { are = AreSpans-renamed f spans closed.are; in_time = IsTimely-renamed f spans closed.in_time }

-- one more span
pub named_spans-more : (names : List Bytes) (spans : List ClosedSpan) (i : ℕ) (s : ClosedSpan) → i < length spans → s ≡ get_or spans i s →
    named_spans names (map span_of (take (i + 1) spans)) ≡ named_spans names (map span_of (take i spans)) ++ option_to_list (named_span names (span_of s))
named_spans-more names spans i s within read =
    let longer : take (i + 1) spans ≡ take i spans ++ s ∷ [] = take_more spans i s within ∙ ap (λ x. take i spans ++ x ∷ []) (sym read) in
    ap (λ l. named_spans names (map span_of l)) longer ∙ ap (named_spans names) (map_push span_of (take i spans) s)
    ∙ filter_map-append (named_span names) (map span_of (take i spans)) (span_of s ∷ []) ∙ ap (λ l. named_spans names (map span_of (take i spans)) ++ l) (one (named_span names (span_of s)))
  where
    one : (o : Option (Span Bytes)) → cons_option o [] ≡ option_to_list o
    one None = refl
    one (Some x) = refl

module _ (names : List Bytes) (events : List (ThreadEvent Bytes)) (track : ThreadSpans ℕ) (is : IsTrackOf names events track) where
  pub named_spans-track : named_spans names track.closed ≡ closed_spans events
  named_spans-track = ap (named_spans names) (closed-is names events track is) ∙ named_spans-renamed names (closed_spans events) (known names events track is)

  -- names don't count
  pub self_times-track : map (self_time track.closed) track.closed ≡ self_times (closed_spans events)
  self_times-track =
      let spans = closed_spans events in
      let number = renamed_span (number_for names) in
      ap (λ (l : List (Span ℕ)). map (self_time l) l) (closed-is names events track is) ∙ map-map (self_time (map number spans)) number spans
      ∙ (λ i. map (λ s. self_time-renamed (number_for names) spans s i) spans)

  pub AreThreadSpans-track : AreClosed track.closed → AreThreadSpans (closed_spans events)
  AreThreadSpans-track closed = AreThreadSpans-renamed (number_for names) (closed_spans events) (subst (λ (spans : List (Span ℕ)). AreClosed spans) (closed-is names events track is) closed)

-- what is kept for a thread of a journal
pub IsTrackOf-kept : (journal : List Entry) (tracks : TracksKept) → FollowsJournal journal tracks → (kept : SpansKept) → kept ≡ tracks.phases.spans → (thread : Thread) (track : ThreadSpans ℕ) → track_at kept.threads thread ≡ track →
    IsTrackOf kept.names (thread_events thread journal) track
IsTrackOf-kept journal tracks follows kept same thread track is =
    subst (IsTrackOf kept.names (thread_events thread journal)) is
    (subst (λ (k : SpansKept). IsTrackOf k.names (thread_events thread journal) (track_at k.threads thread)) (sym same) (IsTrackOf-journal journal tracks follows thread))
