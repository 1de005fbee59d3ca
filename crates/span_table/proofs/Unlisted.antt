-- A thread that is not listed has no closed spans: a journal tells it of seals alone.
use Rattle.std.specs.{List.{AllByRecursion, cons_option}, Ordering.is_eq, Prelude.{filter, filter_map, if◌then◌else◌}}
use Rattle.std.proofs.Common.{◌≡◌, ℕ, Bool, true, false, ◌||◌, cond, List, [], ◌∷◌, ◌++◌, Some, None, map, reverse, sym, ap, ap₂, refl, subst, ◌∙◌}
use Rattle.span_event.proofs.Orders.{thread_cmp-same, thread_cmp-total}
use Rattle.span_keyed_tracks.proofs.{Keyed.{has_key, neither}, Uses.is_eq-turned}
use Rattle.span_journal.proofs.Sorted.{AllByRecursion-append}
use Rattle.span_table.specs.{Phase, SpanBegin, SpanEnd, Complete, Thread, thread_cmp, Bytes, thread_of, is_instant, steps_at, opens, closes, closes_all, other, closed_after, open_of, names_thread, Entry, Accepted, Act, a_seal, accepted, an_event, thread_keys, SpanEvent, is_of_span, listed_by, lists_thread, span_event, span_events, thread_events, to_thread_at, told_at, told_by, ThreadEvent, closed_spans, span_between, span_sealed, whole_span, Laws.thread_key}
use Rattle.span_table.proofs.Alike.{has_key-ascending}

-- the event is a seal
abbrev IsSeal : ThreadEvent Bytes → Type 0
IsSeal (opens b) = ⊥
IsSeal (closes e) = ⊥
IsSeal (closes_all ts) = Unit {0}
IsSeal (other s) = ⊥

abbrev AreSeals : List (ThreadEvent Bytes) → Type 0
AreSeals es = AllByRecursion IsSeal es

open_of-seals : (es : List (ThreadEvent Bytes)) → AreSeals es → open_of es ≡ []
open_of-seals [] seals = refl
open_of-seals (opens b ∷ es) seals = elim seals.0 [ ]
open_of-seals (closes e ∷ es) seals = elim seals.0 [ ]
open_of-seals (closes_all ts ∷ es) seals = open_of-seals es seals.1
open_of-seals (other s ∷ es) seals = elim seals.0 [ ]

-- seals alone close nothing
closed_after-seals : (earlier later : List (ThreadEvent Bytes)) → AreSeals earlier → AreSeals later → closed_after span_between span_sealed whole_span earlier later ≡ []
closed_after-seals earlier [] before after = refl
closed_after-seals earlier (opens b ∷ later) before after = elim after.0 [ ]
closed_after-seals earlier (closes e ∷ later) before after = elim after.0 [ ]
closed_after-seals earlier (closes_all ts ∷ later) before after =
    ap₂ (λ a b. a ++ b) (ap (λ bs. map (λ b. span_sealed b ts) (reverse bs)) (open_of-seals earlier before))
    (closed_after-seals (earlier ++ closes_all ts ∷ []) later (AllByRecursion-append IsSeal earlier (closes_all ts ∷ []) before (tt, tt)) after.1)
closed_after-seals earlier (other s ∷ later) before after = elim after.0 [ ]

module _ (thread : Thread) where
  -- no event lists the thread
  abbrev is_listed : List Thread → Bool
  is_listed listed = has_key thread_cmp thread listed

  one_more : (at : ℕ) (act : Act) (rest : List SpanEvent) (listed : List Thread) → is_listed (cons_option (listed_by act) listed) ≡ false → (is_listed listed ≡ false → AreSeals (steps_at thread_cmp thread rest)) →
      AreSeals (steps_at thread_cmp thread (cons_option (to_thread_at (told_by at act)) rest))
  one_more at (a_seal t ts) rest listed none seals = by (is_eq (thread_cmp t thread)) (seals none)
    where
      by : (b : Bool) → AreSeals (steps_at thread_cmp thread rest) →
          AreSeals (map (λ (e : SpanEvent). e.step) (cond b (record { key = t; step = closes_all ts } ∷ filter (λ (e : SpanEvent). is_eq (thread_cmp e.key thread)) rest) (filter (λ (e : SpanEvent). is_eq (thread_cmp e.key thread)) rest)))
      by true h = (tt, h)
      by false h = h
  one_more at (an_event event) rest listed none seals = phase event.phase refl
    where
      left : (b : Bool) → is_listed (cons_option (if b then Some (thread_of event) else None) listed) ≡ false → is_listed listed ≡ false
      left true h = (neither (is_eq (thread_cmp thread (thread_of event))) (is_listed listed) h).1
      left false h = h

      others : AreSeals (steps_at thread_cmp thread rest)
      others = seals (left (lists_thread event) none)

      -- an event of a span lists its thread
      apart : (p : Phase) → event.phase ≡ p → is_of_span p ≡ true → AreSeals (steps_at thread_cmp thread (span_event at event p ∷ rest))
      apart p e spans =
          let lists : lists_thread event ≡ true = ap (λ (q : Phase). is_of_span q || names_thread event || is_instant event.phase) e ∙ ap (λ b. b || names_thread event || is_instant event.phase) spans in
          let listed_first = sym (ap (λ b. is_listed (cons_option (if b then Some (thread_of event) else None) listed)) lists) ∙ none in
          let differs = is_eq-turned thread_cmp-total (thread_of event) thread ∙ (neither (is_eq (thread_cmp thread (thread_of event))) (is_listed listed) listed_first).0 in
          subst (λ b. AreSeals (map (λ (x : SpanEvent). x.step) (cond b (span_event at event p ∷ filter (λ (x : SpanEvent). is_eq (thread_cmp x.key thread)) rest) (filter (λ (x : SpanEvent). is_eq (thread_cmp x.key thread)) rest)))) (sym differs) others

      phase : (p : Phase) → event.phase ≡ p → AreSeals (steps_at thread_cmp thread (cons_option (to_thread_at (told_at at event p)) rest))
      phase SpanBegin e = apart SpanBegin e refl
      phase SpanEnd e = apart SpanEnd e refl
      phase Complete e = apart Complete e refl
      phase p e = others

  only_seals : (acts : List Accepted) → is_listed (filter_map (λ (a : Accepted). listed_by a.act) acts) ≡ false → AreSeals (steps_at thread_cmp thread (span_events acts))
  only_seals [] none = tt
  only_seals (a ∷ acts) none = one_more a.at a.act (span_events acts) (filter_map (λ (b : Accepted). listed_by b.act) acts) none (only_seals acts)

  -- a thread that is not listed has no closed spans
  pub closed_spans-unlisted : (journal : List Entry) → has_key thread_cmp thread (thread_keys (accepted journal)) ≡ false → closed_spans (thread_events thread journal) ≡ []
  closed_spans-unlisted journal none =
      closed_after-seals [] (thread_events thread journal) tt
      (only_seals (accepted journal) (sym (has_key-ascending thread_cmp-total thread_cmp-same thread_key thread (filter_map (λ (a : Accepted). listed_by a.act) (accepted journal))) ∙ none))
