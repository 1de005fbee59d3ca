-- Journals that are alike stay so once their seals are told.
use Rattle.std.specs.{List.{AllByRecursion, cons_option}, Option.option_map, Prelude.{ℤ, filter, filter_map}}
use Rattle.std.proofs.{Common.{◌≡◌, ◌==◌, List, [], ◌∷◌, ◌++◌, Bool, true, false, cond, Option, Some, None, refl, sym, ap, ap₂, subst, ◌∙◌}, lemmas.List.{map_push, Elements.{filter-append, filter_map-append}}}
use Rattle.span_ledger.proofs.Counting.{count_row-push}
use Rattle.span_collect.specs.{latest_time, Answer, Entry, Op, Seal, ThreadRow, answer_to, Act, a_seal, act_in, next_entry, thread_of_row, counted, thread_rows, thread_events, AnswersFollowFromActs, AreAlike, RowsFollowFromActs, Topic, acts_on, concerns, Seals.{seal_for, seals_of, with_seals}}
use Rattle.span_collect.proofs.InTurn.Exchanges.{act_of, acts_among, acts_on-exchanges, exchange_of, exchanges}

-- the operation is an act
abbrev IsAct : Op → Type 0
IsAct op = (act : Act) × (act_in op ≡ Some act)

acts_among-append : (topic : Topic) (xs ys : List (Op × Answer)) → acts_among topic (xs ++ ys) ≡ acts_among topic xs ++ acts_among topic ys
acts_among-append topic xs ys = ap (filter (concerns topic)) (filter_map-append act_of xs ys) ∙ filter-append (concerns topic) (filter_map act_of xs) (filter_map act_of ys)

-- the acts once there is one more entry
acts_on-push : (topic : Topic) (journal : List Entry) (entry : Entry) → acts_on topic (journal ++ entry ∷ []) ≡ acts_on topic journal ++ acts_among topic (exchange_of entry ∷ [])
acts_on-push topic journal entry =
    acts_on-exchanges topic (journal ++ entry ∷ [])
    ∙ ap (acts_among topic) (map_push exchange_of journal entry)
    ∙ acts_among-append topic (exchanges journal) (exchange_of entry ∷ [])
    ∙ ap (λ l. l ++ acts_among topic (exchange_of entry ∷ [])) (sym (acts_on-exchanges topic journal))

module _ (answers-follow : AnswersFollowFromActs) (rows-follow : RowsFollowFromActs) (strict : Bool) where
  -- both are told an act
  AreAlike-push : (journal other : List Entry) → AreAlike journal other → (op : Op) → IsAct op →
      AreAlike (journal ++ next_entry strict journal 0 op ∷ []) (other ++ next_entry strict other 0 op ∷ [])
  AreAlike-push journal other alike op (act, is) =
      let answer : answer_to strict journal op ≡ answer_to strict other op = answers-follow strict op act journal other is (λ topic about. alike.acts topic) in
      record {
        counts = count_row-push journal (next_entry strict journal 0 op) ∙ ap₂ counted alike.counts answer ∙ sym (count_row-push other (next_entry strict other 0 op));
        acts = λ topic.
            acts_on-push topic journal (next_entry strict journal 0 op)
            ∙ ap₂ (λ (acts : List Act) (a : Answer). acts ++ acts_among topic ((op, a) ∷ [])) (alike.acts topic) answer
            ∙ sym (acts_on-push topic other (next_entry strict other 0 op));
      }

  AreAlike-told : (ops : List Op) (journal other : List Entry) → AreAlike journal other → AllByRecursion IsAct ops → AreAlike (with_seals strict journal ops) (with_seals strict other ops)
  AreAlike-told [] journal other alike acts = alike
  AreAlike-told (op ∷ ops) journal other alike acts =
      AreAlike-told ops (journal ++ next_entry strict journal 0 op ∷ []) (other ++ next_entry strict other 0 op ∷ []) (AreAlike-push journal other alike op acts.0) acts.1

  -- seals are acts
  seals-acts : (journal : List Entry) (rows : List ThreadRow) → AllByRecursion IsAct (filter_map (seal_for journal) rows)
  seals-acts journal [] = tt
  seals-acts journal (row ∷ rows) = by (row.unclosed == 0) (latest_time (thread_events (thread_of_row row) journal)) (seals-acts journal rows)
    where
      by : (none : Bool) (latest : Option ℤ) → AllByRecursion IsAct (filter_map (seal_for journal) rows) →
          AllByRecursion IsAct (cons_option (cond none None (option_map (λ ts. Seal row.pid row.tid ts) latest)) (filter_map (seal_for journal) rows))
      by true latest rest = rest
      by false None rest = rest
      by false (Some ts) rest = ((a_seal (record { pid = row.pid; tid = row.tid }) ts, refl), rest)

  filter_map-same : {A B : Type 0} (f g : A → Option B) → ((a : A) → f a ≡ g a) → (xs : List A) → filter_map f xs ≡ filter_map g xs
  filter_map-same f g same [] = refl
  filter_map-same f g same (x ∷ xs) = ap₂ cons_option (same x) (filter_map-same f g same xs)

  -- journals that are alike have the same seals
  seals_of-alike : (journal other : List Entry) → AreAlike journal other → seals_of journal ≡ seals_of other
  seals_of-alike journal other alike =
      let rows = rows-follow journal other alike in
      filter_map-same (seal_for journal) (seal_for other)
      (λ row. ap (λ (latest : Option ℤ). cond (row.unclosed == 0) None (option_map (λ ts. Seal row.pid row.tid ts) latest)) (rows.latest (thread_of_row row))) (thread_rows journal)
      ∙ ap (filter_map (seal_for other)) rows.threads

  -- so they are alike with their seals
  pub AreAlike-sealed : (journal other : List Entry) → AreAlike journal other → AreAlike (with_seals strict journal (seals_of journal)) (with_seals strict other (seals_of other))
  AreAlike-sealed journal other alike =
      subst (λ seals. AreAlike (with_seals strict journal (seals_of journal)) (with_seals strict other seals)) (seals_of-alike journal other alike)
      (AreAlike-told (seals_of journal) journal other alike (seals-acts journal (thread_rows journal)))
