-- What a collection of separate files accounts for is what they give one after another.
use Rattle.std.specs.{List.{AllZip, list_any, range_with_len}, Option.is_some, Prelude.if◌then◌else◌}
use Rattle.std.proofs.{Common.{◌≡◌, ◌≢◌, inl, inr, ℕ, ◌<◌, List, [], ◌∷◌, ◌++◌, length, take, map, Bool, true, false, cond, ◌||◌, Contains, Option, Some, None, Ok, Err, refl, sym, ap, ap₂, subst, ◌∙◌, arith}, Math.Seq.take-length}
use Rattle.span_journal.proofs.Topics.{Answers.answers-follow, Rows.rows-follow}
use Rattle.span_share.proofs.CallersLists.{calls-append_other}
use Rattle.span_collect.specs.{Format, doc, Answer, Entry, Op, Query, Cause, next_entry, AreAlike, CountRow, head_lines, calls, caller_of, Account.{Account, Document, EachEndsAs, IsRead, IsRefused, StopsAsking, callers_named, operations, telling}, FaultLines.end_lines, InTurn.{AnswersAsInTurn, AreSeparate, answers_of, ends_from, items_in, journal_in_turn, told_in_turn}, Refusals.{Text.{file_lines, refusals_of}, Warnings.{file_warnings, warnings_of}}, Run.{is_cut, is_refused, status_of, unread_of}, Seals.{SealedAccount, SealsAfter, StopsSealing, seals_of, with_seals}, declared.{files.{FileEnd.{FileEnd, TheVariants.{Read, Refused, Stopped, NotStarted}}, Input.Input}, queries.Asked.Asked, sealing.Sealing.Sealing, settings.Settings.Settings}}
use Rattle.span_collect.proofs.InTurn.{Alike.{Contains-place, acts_on-told, exchanges-alone}, Counts.{AllZip-files, count_row-told}, Exchanges.exchanges, FileLines.{end_lines-same, file_lines-same, file_warnings-same, of_each_end-same, unread_of-same}, OneByOne.told_in_turn-tells, Sealed.AreAlike-sealed, Shared.TellsFiles}

read-tells : (journal : List Entry) (document : Document) (c count : ℕ) → IsRead journal document c count → operations journal c ≡ telling (items_in document)
read-tells journal (Ok items) c count is = is.1
read-tells journal (Err error) c count is = absurd is

refused-tells : (journal : List Entry) (document : Document) (c code : ℕ) → IsRefused journal document c code → operations journal c ≡ telling (items_in document)
refused-tells journal (Ok items) c code is = absurd is
refused-tells journal (Err error) c code is = is.1

-- where no file was cut the callers of the ends told all items
ends-tell : (format : Format) (journal : List Entry) (limit : ℕ) (files : List Input) (ends : List FileEnd) → EachEndsAs format journal limit files ends → list_any is_cut ends ≡ false →
    AllZip (λ file c. operations journal c ≡ telling (items_in (doc format file.bytes.items))) files (callers_named ends)
ends-tell format journal limit [] [] each none = tt
ends-tell format journal limit [] (end ∷ ends) each none = absurd each
ends-tell format journal limit (f ∷ fs) [] each none = absurd each
ends-tell format journal limit (f ∷ fs) (Read c count ∷ ends) each none = (read-tells journal (doc format f.bytes.items) c count each.0, ends-tell format journal limit fs ends each.1 none)
ends-tell format journal limit (f ∷ fs) (Refused c code ∷ ends) each none = (refused-tells journal (doc format f.bytes.items) c code each.0, ends-tell format journal limit fs ends each.1 none)
ends-tell format journal limit (f ∷ fs) (Stopped c done cause ∷ ends) each none = absurd cc
ends-tell format journal limit (f ∷ fs) (NotStarted ∷ ends) each none = absurd cc

Account-tells : (files : List Input) (asks : List Query) (settings : Settings) (ends : List FileEnd) (asked : Asked) (journal : List Entry) → Account files asks settings ends asked journal → list_any is_cut ends ≡ false →
    TellsFiles settings.format settings.strict files (take asked.done asks) (callers_named ends) journal
Account-tells files asks settings ends asked journal account none = record {
  legal = account.legal;
  told = ends-tell settings.format journal settings.limit files ends account.each_file_once_in_order none;
  asked = account.each_query_once_in_order.recorded;
  distinct = account.distinct_callers;
  only = account.nothing_else;
}

-- seals are nobody's but caller 0's
calls-with_seals : (c : ℕ) → 0 ≢ c → (strict : Bool) (journal : List Entry) (ops : List Op) → calls caller_of c (with_seals strict journal ops) ≡ calls caller_of c journal
calls-with_seals c other strict journal [] = refl
calls-with_seals c other strict journal (op ∷ ops) =
    calls-with_seals c other strict (journal ++ next_entry strict journal 0 op ∷ []) ops ∙ calls-append_other caller_of c journal (next_entry strict journal 0 op) other

calls-sealed : (c : ℕ) → 0 ≢ c → (seal strict : Bool) (limit : ℕ) (told journal : List Entry) (sealing : Sealing) → SealsAfter seal strict limit told journal sealing → calls caller_of c journal ≡ calls caller_of c told
calls-sealed c other true strict limit told journal sealing (inl adds) = ap (calls caller_of c) adds.added ∙ calls-with_seals c other strict told (take sealing.done (seals_of told))
calls-sealed c other true strict limit told journal sealing (inr none) = ap (calls caller_of c) none.same
calls-sealed c other false strict limit told journal sealing same = ap (calls caller_of c) same.0

answers_of-exchanges : (journal : List Entry) (c : ℕ) → answers_of journal c ≡ map (λ (x : Op × Answer). x.1) (exchanges (calls caller_of c journal))
answers_of-exchanges journal c = by (calls caller_of c journal)
  where
    by : (es : List Entry) → map (λ e. e.answer) es ≡ map (λ (x : Op × Answer). x.1) (exchanges es)
    by [] = refl
    by (e ∷ es) = ap (λ l. e.answer ∷ l) (by es)

map-zip : {A : Type 0} (f g : ℕ → A) (cs ds : List ℕ) → AllZip (λ c d. f c ≡ g d) cs ds → map f cs ≡ map g ds
map-zip f g [] [] zip = refl
map-zip f g [] (d ∷ ds) zip = absurd zip
map-zip f g (c ∷ cs) [] zip = absurd zip
map-zip f g (c ∷ cs) (d ∷ ds) zip = ap₂ (λ x xs. x ∷ xs) zip.0 (map-zip f g cs ds zip.1)

module _ (files : List Input) (asks : List Query) (settings : Settings) (ends : List FileEnd) (asked : Asked) (sealing : Sealing) (journal : List Entry) (sealed : SealedAccount files asks settings ends asked sealing journal) where
  abbrev in_turn : List Entry
  in_turn = told_in_turn settings.format settings.strict files asks

  -- in the journal in turn the seals are nobody's but caller 0's
  calls-in_turn : (c : ℕ) → 0 ≢ c → calls caller_of c (journal_in_turn settings files asks) ≡ calls caller_of c in_turn
  calls-in_turn c other = by settings.seal
    where
      by : (seal : Bool) → calls caller_of c (cond seal (with_seals settings.strict in_turn (seals_of in_turn)) in_turn) ≡ calls caller_of c in_turn
      by true = calls-with_seals c other settings.strict in_turn (seals_of in_turn)
      by false = refl

  -- the answers of the files' callers are those in turn
  pub SealedAccount-answers : AnswersAsInTurn files asks settings ends journal
  SealedAccount-answers separate none =
      let tells = Account-tells files asks settings ends asked sealed.told sealed.account none in
      let tells' = told_in_turn-tells settings.format settings.strict files asks in
      let callers = range_with_len 1 (length files) in
      map-zip (answers_of journal) (answers_of (journal_in_turn settings files asks)) (callers_named ends) callers
      (AllZip-files _ _ (λ c d. answers_of journal c ≡ answers_of (journal_in_turn settings files asks) d) files (callers_named ends) callers tells.told tells'.told
      (λ place file c d at under under'.
      let other : 0 ≢ c = (λ same. tells.distinct.0 (subst (λ n. Contains (callers_named ends) n) (sym same) (Contains-place (callers_named ends) place c under))) in
      let other' : 0 ≢ d = (λ same. tells'.distinct.0 (subst (λ n. Contains callers n) (sym same) (Contains-place callers place d under'))) in
      answers_of-exchanges journal c
      ∙ ap (map (λ (x : Op × Answer). x.1))
      (ap exchanges (calls-sealed c other settings.seal settings.strict settings.limit sealed.told journal sealing sealed.seals)
      ∙ exchanges-alone settings.format answers-follow settings.strict files (take asked.done asks) separate (callers_named ends) sealed.told tells place file c at under
      ∙ sym (exchanges-alone settings.format answers-follow settings.strict files asks separate callers in_turn tells' place file d at under')
      ∙ ap exchanges (sym (calls-in_turn d other')))
      ∙ sym (answers_of-exchanges (journal_in_turn settings files asks) d)))

  -- a status below 2 has no file cut, and all was asked and sealed
  status-all : (cut asked_not sealed_not : Bool) (rest : ℕ) → (if cut || asked_not || sealed_not then 2 else rest) < 2 → (cut ≡ false) × (asked_not ≡ false) × (sealed_not ≡ false)
  status-all true b c rest below = absurd (omega (arith, below))
  status-all false true c rest below = absurd (omega (arith, below))
  status-all false false true rest below = absurd (omega (arith, below))
  status-all false false false rest below = (refl, refl, refl)

  none_of : (o : Option Cause) → is_some o ≡ false → o ≡ None
  none_of None is = refl
  none_of (Some cause) is = cc

  module _ (separate : AreSeparate settings.format files) (below : status_of ends asked sealing < 2) where
    all : (list_any is_cut ends ≡ false) × (is_some asked.cause ≡ false) × (is_some sealing.cause ≡ false)
    all = status-all (list_any is_cut ends) (is_some asked.cause) (is_some sealing.cause) (if list_any is_refused ends then 1 else 0) below

    all_asked : take asked.done asks ≡ asks
    all_asked =
        let done : asked.done ≡ length asks = subst (λ cause. StopsAsking sealed.told settings.limit asks asked.done cause) (none_of asked.cause all.1) sealed.account.each_query_once_in_order.stop in
        ap (λ n. take n asks) done ∙ take-length asks

    AreAlike-told : AreAlike sealed.told in_turn
    AreAlike-told =
        let tells : TellsFiles settings.format settings.strict files asks (callers_named ends) sealed.told =
        subst (λ qs. TellsFiles settings.format settings.strict files qs (callers_named ends) sealed.told) all_asked (Account-tells files asks settings ends asked sealed.told sealed.account all.0) in
        let tells' = told_in_turn-tells settings.format settings.strict files asks in
        let callers = range_with_len 1 (length files) in
        record {
          counts = count_row-told settings.format answers-follow settings.strict files asks separate (callers_named ends) callers sealed.told in_turn tells tells';
          acts = acts_on-told settings.format answers-follow settings.strict files asks separate (callers_named ends) callers sealed.told in_turn tells tells';
        }

    -- the journal is like that of the files in turn
    pub AreAlike-in_turn : AreAlike journal (journal_in_turn settings files asks)
    AreAlike-in_turn = by settings.seal sealed.seals
      where
        by : (seal : Bool) → SealsAfter seal settings.strict settings.limit sealed.told journal sealing → AreAlike journal (cond seal (with_seals settings.strict in_turn (seals_of in_turn)) in_turn)
        by true (inl adds) =
            let seals = seals_of sealed.told in
            let done : sealing.done ≡ length seals = subst (λ cause. StopsSealing journal settings.limit (length seals) (record { done = sealing.done; cause = cause })) (none_of sealing.cause all.2) adds.stop in
            let whole : with_seals settings.strict sealed.told seals ≡ journal = sym (adds.added ∙ ap (λ n. with_seals settings.strict sealed.told (take n seals)) done ∙ ap (with_seals settings.strict sealed.told) (take-length seals)) in
            subst (λ j. AreAlike j (with_seals settings.strict in_turn (seals_of in_turn))) whole (AreAlike-sealed answers-follow rows-follow settings.strict sealed.told in_turn AreAlike-told)
        by true (inr none) = absurd (let memory = sym none.memory ∙ none_of sealing.cause all.2 in cc)
        by false same = subst (λ j. AreAlike j in_turn) (sym same.0) AreAlike-told

    -- so its text of refusals is that in turn
    pub refusals_of-in_turn : refusals_of settings.format.unit files ends journal ≡ refusals_of settings.format.unit files (ends_from settings.format 1 files) (journal_in_turn settings files asks)
    refusals_of-in_turn =
        ap₂ (λ (counts : CountRow) (lines : List ℕ). head_lines settings.format.unit counts ++ lines) AreAlike-in_turn.counts
        (of_each_end-same file_lines settings.format journal (journal_in_turn settings files asks) sealed.told settings.limit (file_lines-same journal (journal_in_turn settings files asks))
        1 files ends sealed.account.each_file_once_in_order all.0 (SealedAccount-answers separate all.0))

    -- and so are its warnings
    pub warnings_of-in_turn : warnings_of files ends journal ≡ warnings_of files (ends_from settings.format 1 files) (journal_in_turn settings files asks)
    warnings_of-in_turn =
        of_each_end-same file_warnings settings.format journal (journal_in_turn settings files asks) sealed.told settings.limit (file_warnings-same journal (journal_in_turn settings files asks))
        1 files ends sealed.account.each_file_once_in_order all.0 (SealedAccount-answers separate all.0)

    -- and as many files are refused as a whole
    pub unread_of-in_turn : unread_of ends ≡ unread_of (ends_from settings.format 1 files)
    unread_of-in_turn = unread_of-same settings.format sealed.told settings.limit 1 files ends sealed.account.each_file_once_in_order all.0

    -- and their fault lines are those in turn
    pub end_lines-in_turn : end_lines files ends ≡ end_lines files (ends_from settings.format 1 files)
    end_lines-in_turn = end_lines-same settings.format sealed.told settings.limit 1 files ends sealed.account.each_file_once_in_order all.0
