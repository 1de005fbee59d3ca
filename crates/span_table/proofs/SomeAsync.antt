-- In a legal journal each asynchronous key has a closed span, one that is open, or a point.
use Rattle.std.specs.{Ordering.is_eq, Prelude.option_to_list}
use Rattle.std.proofs.{Common.{◌≡◌, ℕ, ◌+◌, ◌<◌, ℤ, Bool, true, false, cond, List, [], ◌∷◌, ◌++◌, All, length, map, Option, Some, None, refl, sym, ap, subst, ◌∙◌, arith, append-nil, length-append, true≢false}, lemmas.List.Elements.{All-append, All-cons, All-map, All-nil, All-weaker}}
use Rattle.span_keyed_tracks.specs.{Async.{AsyncEvent, AsyncSpans, AsyncStep, async_cmp, async_matched, async_row, async_spans}, Keyed.{entry_of, keys_in, steps_at}, Matching.{closes, closes_all, open_of, opener, opens, other}, declared.{async_track.AsyncRow.AsyncRow}}
use Rattle.span_keyed_tracks.proofs.{Async.{async_spans-closes, async_spans-opens, async_spans-other}, Keyed.{same_from_is_eq, steps_at-other, steps_at-own}, Matching.Open.opener-open_of, Orders.{async_cmp-same, async_cmp-total}, SameKeys.All-ascending}
use Rattle.span_journal.specs.{Bytes, Good, Bad, Other, any_name, distance, Answers.{act_answer, answer_to, answered, async_answer, async_step_answer, told_answer}, Journal.{Act, a_seal, accepted, accepted_by, an_event, next_accepted, placed}, Kind.is_accepting, Legal.{IsLegal, calls_of, journal_after, next_entry}, Rows.async_rows, Told.{Told, async_events, suits_end, to_async, to_async_at, to_counter, to_flow, to_meta, to_thread, told}, declared.entry.{Answer.TheVariants.AsyncClosed, Entry.Entry, Op.{Op, TheVariants.{Ask, One, Seal}}}}
use Rattle.span_journal.proofs.LegalJournals.{legal-sequential}
use Rattle.span_journal.proofs.Later.{accepted-append, filter_map-push}

-- how many spans, closed and open, and points there are
abbrev pub count_of : AsyncSpans → ℕ
count_of spans = spans.closed + (length spans.opened + spans.points)

-- an accepted step comes to something
some-taken : (steps : List AsyncStep) (step : AsyncStep) → is_accepting (async_step_answer steps step) ≡ true → 0 < count_of (async_spans (steps ++ step ∷ []))
some-taken steps (opens ts) takes = omega (arith, ap count_of (async_spans-opens steps ts), length-append (open_of steps) (ts ∷ []))
some-taken steps (closes_all never) takes = absurd never
some-taken steps (other point) takes = omega (arith, ap count_of (async_spans-other steps))
some-taken steps (closes ts) takes = by (opener steps) refl
  where
    by : (begin : Option ℤ) → opener steps ≡ begin → 0 < count_of (async_spans (steps ++ closes ts ∷ []))
    by None found =
        let refused : is_accepting (async_step_answer steps (closes ts)) ≡ false = ap (λ (begin : Option ℤ). is_accepting (answered (λ b. AsyncClosed (distance b ts)) (async_matched begin ts))) found in
        absurd (true≢false (sym takes ∙ refused))
    by (Some begin) found = omega (arith, ap count_of (async_spans-closes steps begin ts (sym (opener-open_of steps) ∙ found)))

-- each key of these events comes to something
abbrev ComeToSome : List AsyncEvent → Type 0
ComeToSome es = All (λ (e : AsyncEvent). 0 < count_of (async_spans (steps_at async_cmp e.key es))) es

-- so do those of one more, which is accepted
ComeToSome-append : (es : List AsyncEvent) (e : AsyncEvent) → ComeToSome es → is_accepting (async_answer es e) ≡ true → ComeToSome (es ++ e ∷ [])
ComeToSome-append es e some takes =
    All-append (Some_at (es ++ e ∷ [])) es (e ∷ []) (All-weaker (Some_at es) (Some_at (es ++ e ∷ [])) (λ x before. by x (is_eq (async_cmp e.key x.key)) refl before) es some)
    (All-cons (Some_at (es ++ e ∷ [])) e [] own (All-nil (Some_at (es ++ e ∷ []))))
  where
    Some_at : List AsyncEvent → AsyncEvent → Type 0
    Some_at events x = 0 < count_of (async_spans (steps_at async_cmp x.key events))

    own : Some_at (es ++ e ∷ []) e
    own = subst (λ steps. 0 < count_of (async_spans steps)) (sym (steps_at-own async_cmp-total async_cmp-same es e)) (some-taken (steps_at async_cmp e.key es) e.step takes)

    by : (x : AsyncEvent) (b : Bool) → is_eq (async_cmp e.key x.key) ≡ b → Some_at es x → Some_at (es ++ e ∷ []) x
    by x true same before = subst (λ key. 0 < count_of (async_spans (steps_at async_cmp key (es ++ e ∷ [])))) (same_from_is_eq async_cmp-total async_cmp-same e.key x.key same) own
    by x false apart before = subst (λ steps. 0 < count_of (async_spans steps)) (sym (steps_at-other async_cmp-total async_cmp-same x.key es e apart)) before

-- the events that a journal tells
abbrev told_of : List Entry → List AsyncEvent
told_of journal = async_events (accepted journal)

-- one more accepted act
ComeToSome-act : (is_suited : Bytes → Bool) (journal : List Entry) (act : Act) → ComeToSome (told_of journal) → is_accepting (act_answer is_suited journal act) ≡ true
    → ComeToSome (async_events (accepted journal ++ next_accepted journal act ∷ []))
ComeToSome-act is_suited journal act some takes =
    subst ComeToSome (sym (filter_map-push (λ a. to_async_at (told a)) (accepted journal) (next_accepted journal act))) (by (told (next_accepted journal act)) takes)
  where
    by : (t : Told) → is_accepting (told_answer is_suited (accepted journal) t) ≡ true → ComeToSome (told_of journal ++ option_to_list (to_async_at t))
    by (to_async e) takes = ComeToSome-append (told_of journal) e some takes
    by (to_thread e) takes = subst ComeToSome (sym (append-nil (told_of journal))) some
    by (to_flow e) takes = subst ComeToSome (sym (append-nil (told_of journal))) some
    by (to_counter e) takes = subst ComeToSome (sym (append-nil (told_of journal))) some
    by (to_meta e) takes = subst ComeToSome (sym (append-nil (told_of journal))) some

module _ (strict : Bool) where
  -- one more entry, with the answer that the journal gives it
  ComeToSome-next : (journal : List Entry) (caller : ℕ) (op : Op) → ComeToSome (told_of journal) → ComeToSome (told_of (journal ++ next_entry strict journal caller op ∷ []))
  unfolding answer_to
  ComeToSome-next journal caller op some = subst (λ events. ComeToSome (async_events events)) (sym (accepted-append journal (next_entry strict journal caller op))) (by op)
    where
      none : ComeToSome (async_events (accepted journal ++ []))
      none = subst (λ events. ComeToSome (async_events events)) (sym (append-nil (accepted journal))) some

      taken : (is_suited : Bytes → Bool) (act : Act) (b : Bool) → is_accepting (act_answer is_suited journal act) ≡ b → ComeToSome (async_events (accepted journal ++ placed (length journal) (cond b (Some act) None)))
      taken is_suited act true takes = ComeToSome-act is_suited journal act some takes
      taken is_suited act false refuses = none

      by : (op : Op) → ComeToSome (async_events (accepted journal ++ placed (length journal) (accepted_by (answer_to strict journal op) op)))
      by (One (Good event)) = taken (suits_end strict event) (an_event event) (is_accepting (act_answer (suits_end strict event) journal (an_event event))) refl
      by (One (Bad fault)) = none
      by (One Other) = none
      by (Ask query) = none
      by (Seal pid tid ts) =
          let act = a_seal (record { pid = pid; tid = tid }) ts in
          taken any_name act (is_accepting (act_answer any_name journal act)) refl

  ComeToSome-after : (journal : List Entry) (calls : List (ℕ × Op)) → ComeToSome (told_of journal) → ComeToSome (told_of (journal_after strict journal calls))
  ComeToSome-after journal [] some = some
  ComeToSome-after journal (call ∷ calls) some =
      ComeToSome-after (journal ++ next_entry strict journal call.0 call.1 ∷ []) calls (ComeToSome-next journal call.0 call.1 some)

-- each asynchronous key of a legal journal has a span or a point
pub async_rows-some : (strict : Bool) (journal : List Entry) → IsLegal strict journal → All (λ (row : AsyncRow). 0 < row.totals.closed + (row.totals.unclosed + row.totals.points)) (async_rows journal)
async_rows-some strict journal legal =
    let es = told_of journal in
    let some : ComeToSome es = subst (λ j. ComeToSome (told_of j)) (sym (legal-sequential strict journal legal)) (ComeToSome-after strict [] (calls_of journal) (All-nil (λ (e : AsyncEvent). 0 < count_of (async_spans (steps_at async_cmp e.key []))))) in
    let keys = All-ascending async_cmp (λ key. 0 < count_of (async_spans (steps_at async_cmp key es))) (map (λ (e : AsyncEvent). e.key) es)
    (All-map (λ key. 0 < count_of (async_spans (steps_at async_cmp key es))) (λ (e : AsyncEvent). e.key) es some) in
    All-map (λ (row : AsyncRow). 0 < row.totals.closed + (row.totals.unclosed + row.totals.points)) async_row (map (entry_of (λ key. async_spans (steps_at async_cmp key es))) (keys_in async_cmp es))
    (All-map (λ entry. 0 < count_of entry.1) (entry_of (λ key. async_spans (steps_at async_cmp key es))) (keys_in async_cmp es) keys)
