-- The answer to an act follows from the earlier acts on its topics.
use Rattle.std.specs.{Cmp.{tied_itself, int_eq_equiv}, Ordering.is_eq, Prelude.{Err, Ok, length, option_map}}
use Rattle.std.proofs.{Common.{◌≡◌, ℕ, ◌+◌, ℤ, Bool, true, false, cond, List, Option, Some, None, refl, sym, ap, ap₂, subst, ◌∙◌}, lemmas.Option.same_Some}
use Rattle.span_keyed_tracks.proofs.Orders.{async_cmp-total, flow_cmp-total}
use Rattle.span_track.specs.Nesting.{opener}
use Rattle.span_track.proofs.Threads.Renumbering.{renumbered, opener-renumbered, depth_of-renumbered, last_time-renumbered}
use Rattle.span_journal.specs.{merged, Bytes, thread_of, distance, Phase, SpanBegin, SpanEnd, Complete, AsyncBegin, AsyncPoint, AsyncEnd, FlowStart, FlowStep, FlowEnd, Counter, Meta, Instant, TimeGoesBack, NameDiffers, Good, Bad, Other, Thread, async_cmp, chain_of, flow_cmp, summary, opens, closes, closes_all, other as whole, Begin, ThreadEvent, depth_of, last_time, renumbered_begin, sealed, any_name, closing, goes_back, opening, Answers.{answered, thread_step_answer, async_step_answer, flow_point_answer, told_answer, act_answer, answer_to}, Journal.{Act, an_event, a_seal, accepted}, Told.{async_event, async_key, async_step, flow_event, flow_key, flow_point, span_step, suits_end, thread_events, to_async, to_flow, told_at}, Topics.{of_process, of_async, of_flow, concerns, has_async_key, has_flow_key, AreAlikeFor, AnswersFollowFromActs}, declared.entry.{Answer.{Answer, TheVariants.{Opened, Closed, Sealed}}, Entry.Entry, Op.TheVariants.{One, Ask, Seal}}}
use Rattle.span_journal.proofs.Topics.{Taken.{async_steps-alike, flow_steps-alike}, Threads.thread_events-alike}

-- positions change no answer
module _ {N : Type 0} (f : ℕ → ℕ) where
  closing-renumbered : (is_suited : N → Bool) (answer moved : Begin N → Answer) → ((b : Begin N) → moved (renumbered_begin f b) ≡ answer b) → (o : Option (Begin N)) (last : Option ℤ) (ts : ℤ) →
      answered moved (closing is_suited (option_map (renumbered_begin f) o) last ts) ≡ answered answer (closing is_suited o last ts)
  closing-renumbered is_suited answer moved same None last ts = refl
  closing-renumbered is_suited answer moved same (Some b) last ts = by (goes_back ts last) (is_suited b.name)
    where
      by : (back suited : Bool) → answered moved (cond back (Err TimeGoesBack) (cond suited (Ok (renumbered_begin f b)) (Err NameDiffers)))
          ≡ answered answer (cond back (Err TimeGoesBack) (cond suited (Ok b) (Err NameDiffers)))
      by true suited = refl
      by false true = same b
      by false false = refl

  thread_step_answer-renumbered : (is_suited : N → Bool) (es : List (ThreadEvent N)) (e : ThreadEvent N) → thread_step_answer is_suited (renumbered f es) e ≡ thread_step_answer is_suited es e
  thread_step_answer-renumbered is_suited es (opens b) =
      ap₂ (λ n last. answered (λ begun. Opened (n + 1)) (opening last b.ts)) (depth_of-renumbered f es) (last_time-renumbered f es)
  thread_step_answer-renumbered is_suited es (closes e) =
      ap₂ (λ o last. answered (λ (b : Begin N). Closed b.ts (distance b.ts e.ts) (merged b.args e.args)) (closing is_suited o last e.ts)) (opener-renumbered f es) (last_time-renumbered f es)
      ∙ closing-renumbered is_suited (λ b. Closed b.ts (distance b.ts e.ts) (merged b.args e.args)) (λ b. Closed b.ts (distance b.ts e.ts) (merged b.args e.args)) (λ b. refl) (opener es) (last_time es) e.ts
  thread_step_answer-renumbered is_suited es (closes_all ts) =
      ap₂ (λ o last. answered (λ (b : Begin N). Sealed (depth_of (renumbered f es))) (closing any_name o last ts)) (opener-renumbered f es) (last_time-renumbered f es)
      ∙ closing-renumbered any_name (λ b. Sealed (depth_of es)) (λ b. Sealed (depth_of (renumbered f es))) (λ b. ap Sealed (depth_of-renumbered f es)) (opener es) (last_time es) ts
  thread_step_answer-renumbered is_suited es (whole s) = refl

module _ (is_suited : Bytes → Bool) (journal other : List Entry) where
  thread_step_answer-alike : (thread : Thread) (act : Act) → concerns (of_process thread.pid) act ≡ true → AreAlikeFor act journal other → (e : ThreadEvent Bytes) →
      thread_step_answer is_suited (thread_events thread journal) e ≡ thread_step_answer is_suited (thread_events thread other) e
  thread_step_answer-alike thread act own alike e =
      thread_events-alike thread (λ es. thread_step_answer is_suited es e) (λ f rises es. thread_step_answer-renumbered f is_suited es e) journal other (alike (of_process thread.pid) own)

  -- the answer to an act, by what the act is
  act_answer-alike : (act : Act) → AreAlikeFor act journal other → act_answer is_suited journal act ≡ act_answer is_suited other act
  act_answer-alike (a_seal thread ts) alike = thread_step_answer-alike thread (a_seal thread ts) (int_eq_equiv.refl thread.pid) alike (sealed ts)
  act_answer-alike (an_event event) alike = by event.phase refl
    where
      by_thread : (at : ℕ) (phase : Phase) → thread_step_answer is_suited (thread_events (thread_of event) journal) (span_step event.name at event phase) ≡ thread_step_answer is_suited (thread_events (thread_of event) other) (span_step event.name at event phase)
      by_thread at phase = thread_step_answer-alike (thread_of event) (an_event event) (int_eq_equiv.refl event.pid) alike (span_step event.name at event phase)

      by_async : (phase : Phase) → has_async_key (async_key event) event event.phase ≡ is_eq (async_cmp (async_key event) (async_key event)) →
          told_answer is_suited (accepted journal) (to_async (async_event event phase)) ≡ told_answer is_suited (accepted other) (to_async (async_event event phase))
      by_async phase own =
          ap (λ steps. async_step_answer steps (async_step phase event.ts)) (async_steps-alike journal other (async_key event) (alike (of_async (async_key event)) (own ∙ ap is_eq (tied_itself async_cmp-total (async_key event)))))

      by_flow : (phase : Phase) → has_flow_key (flow_key event) event event.phase ≡ is_eq (flow_cmp (flow_key event) (flow_key event)) →
          told_answer is_suited (accepted journal) (to_flow (flow_event event phase)) ≡ told_answer is_suited (accepted other) (to_flow (flow_event event phase))
      by_flow phase own =
          ap (λ points. flow_point_answer (summary (chain_of points)) (flow_point phase event.ts)) (flow_steps-alike journal other (flow_key event) (alike (of_flow (flow_key event)) (own ∙ ap is_eq (tied_itself flow_cmp-total (flow_key event)))))

      by : (phase : Phase) → event.phase ≡ phase → told_answer is_suited (accepted journal) (told_at (length journal) event phase) ≡ told_answer is_suited (accepted other) (told_at (length other) event phase)
      by SpanBegin is = by_thread (length journal) SpanBegin
      by SpanEnd is = by_thread (length journal) SpanEnd
      by Complete is = refl
      by AsyncBegin is = by_async AsyncBegin (ap (has_async_key (async_key event) event) is)
      by AsyncPoint is = refl
      by AsyncEnd is = by_async AsyncEnd (ap (has_async_key (async_key event) event) is)
      by FlowStart is = by_flow FlowStart (ap (has_flow_key (flow_key event) event) is)
      by FlowStep is = by_flow FlowStep (ap (has_flow_key (flow_key event) event) is)
      by FlowEnd is = by_flow FlowEnd (ap (has_flow_key (flow_key event) event) is)
      by Counter is = refl
      by Meta is = refl
      by Instant is = refl

-- what a journal answers to an act follows from the acts on its topics
pub answers-follow : AnswersFollowFromActs
unfolding answer_to
answers-follow strict (One (Good event)) act journal other is alike =
    act_answer-alike (suits_end strict event) journal other (an_event event) (subst (λ a. AreAlikeFor a journal other) (sym (same_Some (an_event event) act is)) alike)
answers-follow strict (One (Bad fault)) act journal other is alike = refl
answers-follow strict (One Other) act journal other is alike = refl
answers-follow strict (Ask query) act journal other is alike = absurd cc
answers-follow strict (Seal pid tid ts) act journal other is alike =
    let seal = a_seal (record { pid = pid; tid = tid }) ts in
    act_answer-alike any_name journal other seal (subst (λ a. AreAlikeFor a journal other) (sym (same_Some seal act is)) alike)
