-- Two journals that were told the same separate files and the same queries have as many entries of each kind.
use Rattle.std.specs.{List.{AllByRecursion, AllZip, count_by}, Prelude.{filter, slice_get, sum_by}}
use Rattle.std.proofs.{Common.{◌≡◌, ℕ, suc, ◌+◌, inl, inr, List, [], ◌∷◌, length, take, Bool, true, false, cond, eqb, eqb-true, map, All, Contains, Some, refl, sym, ap, ap₂, subst, ◌∙◌}, lemmas.List.{Elements.All-filter, Sums.{length-filter, sum_by-cons}}}
use Rattle.span_journal.specs.declared.{kind.Kind.TheVariants.Refused as refused_kind, reply.Reply.Reply as ReplyTo}
use Rattle.span_ledger.proofs.Taking.{answer_to-query}
use Rattle.span_collect.specs.{Format, Answer, Reply, Entry, Op, Kind, Accepted as accepted_kind, Skipped as skipped_kind, Replied as replied_kind, Sealed as sealed_kind, Query, answer_to, is_of, same_kind, reply_to, count_of, count_row, AnswersFollowFromActs, AreDistinct, calls, caller_of, InTurn.AreSeparate, declared.files.Input.Input}
use Rattle.span_collect.proofs.{Counting.{total, total-length}, InTurn.{Alike.{Contains-place, exchanges-alone}, Exchanges.{exchange_of, exchanges}, Shared.{AllByRecursion-places, IsOfFiles, TellsFiles, entry_is}}}

-- it is all one which of two tests comes first
filter-swap : {A : Type 0} (p q : A → Bool) (xs : List A) → filter p (filter q xs) ≡ filter q (filter p xs)
filter-swap p q [] = refl
filter-swap p q (x ∷ xs) = by (p x) (q x) refl refl (filter-swap p q xs)
  where
    by : (a b : Bool) → p x ≡ a → q x ≡ b → filter p (filter q xs) ≡ filter q (filter p xs) → filter p (cond b (x ∷ filter q xs) (filter q xs)) ≡ filter q (cond a (x ∷ filter p xs) (filter p xs))
    by true true passes passes' rest =
        ap (λ t. cond t (x ∷ filter p (filter q xs)) (filter p (filter q xs))) passes ∙ ap (λ l. x ∷ l) rest
        ∙ sym (ap (λ t. cond t (x ∷ filter q (filter p xs)) (filter q (filter p xs))) passes')
    by true false passes passes' rest = rest ∙ sym (ap (λ t. cond t (x ∷ filter q (filter p xs)) (filter q (filter p xs))) passes')
    by false true passes passes' rest = ap (λ t. cond t (x ∷ filter p (filter q xs)) (filter p (filter q xs))) passes ∙ rest
    by false false passes passes' rest = rest

-- the callers' entries that pass a test, together
total-filter : (p : Entry → Bool) (cs : List ℕ) (journal : List Entry) → AreDistinct cs → All (λ e. Contains cs e.caller) journal → count_by p journal ≡ total cs (filter p journal)
total-filter p cs journal distinct only =
    sym (length-filter p journal) ∙ sym (total-length cs (filter p journal) distinct (All-filter p (λ e. Contains cs e.caller) journal only))

-- as many of a caller's pass as of another's
abbrev AreAsMany : (Entry → Bool) → List Entry → List Entry → ℕ → ℕ → Type 0
AreAsMany p journal other c d = count_by p (calls caller_of c journal) ≡ count_by p (calls caller_of d other)

length-calls-filter : (p : Entry → Bool) (c : ℕ) (journal : List Entry) → length (calls caller_of c (filter p journal)) ≡ count_by p (calls caller_of c journal)
length-calls-filter p c journal = ap length (filter-swap (λ e. eqb (caller_of e) c) p journal) ∙ length-filter p (calls caller_of c journal)

total-zip : (p : Entry → Bool) (cs ds : List ℕ) (journal other : List Entry) → AllZip (AreAsMany p journal other) cs ds → total cs (filter p journal) ≡ total ds (filter p other)
total-zip p [] [] journal other zip = refl
total-zip p [] (d ∷ ds) journal other zip = absurd zip
total-zip p (c ∷ cs) [] journal other zip = absurd zip
total-zip p (c ∷ cs) (d ∷ ds) journal other zip =
    ap₂ (λ (m n : ℕ). m + n) (length-calls-filter p c journal ∙ zip.0 ∙ sym (length-calls-filter p d other)) (total-zip p cs ds journal other zip.1)

-- what goes with the same files goes together
pub AllZip-files : (R S : Input → ℕ → Type 0) (Q : ℕ → ℕ → Type 0) (files : List Input) (cs ds : List ℕ) → AllZip R files cs → AllZip S files ds →
    ((place : ℕ) (file : Input) (c d : ℕ) → slice_get files place ≡ Some file → slice_get cs place ≡ Some c → slice_get ds place ≡ Some d → Q c d) → AllZip Q cs ds
AllZip-files R S Q [] [] [] zip zip' each = tt
AllZip-files R S Q [] (c ∷ cs) ds zip zip' each = absurd zip
AllZip-files R S Q [] [] (d ∷ ds) zip zip' each = absurd zip'
AllZip-files R S Q (f ∷ fs) [] ds zip zip' each = absurd zip
AllZip-files R S Q (f ∷ fs) (c ∷ cs) [] zip zip' each = absurd zip'
AllZip-files R S Q (f ∷ fs) (c ∷ cs) (d ∷ ds) zip zip' each = (each 0 f c d refl refl refl, AllZip-files R S Q fs cs ds zip.1 zip'.1 (λ place. each (suc place)))

-- a count of answers follows from the exchanges
count_by-exchanges : (kind : Kind) (xs : List Entry) → count_by (λ e. is_of kind e.answer) xs ≡ sum_by (λ (x : Op × Answer). cond (is_of kind x.1) 1 0) (exchanges xs)
count_by-exchanges kind [] = refl
count_by-exchanges kind (x ∷ xs) =
    let one : Entry → ℕ = λ e. cond (is_of kind e.answer) 1 0 in
    let each : Op × Answer → ℕ = λ o. cond (is_of kind o.1) 1 0 in
    sum_by-cons one x xs ∙ ap (λ (n : ℕ). one x + n) (count_by-exchanges kind xs) ∙ sym (sum_by-cons each (exchange_of x) (exchanges xs))

abbrev IsReplied : Entry → Type 0
IsReplied e = (reply : ReplyTo) × (e.answer ≡ Reply reply)

-- replies are counted by their operations
count_by-replied : (kind : Kind) (xs : List Entry) → AllByRecursion IsReplied xs → count_by (λ e. is_of kind e.answer) xs ≡ sum_by (λ (op : Op). cond (same_kind kind replied_kind) 1 0) (map (λ e. e.op) xs)
count_by-replied kind [] replied = refl
count_by-replied kind (x ∷ xs) replied =
    let one : Entry → ℕ = λ e. cond (is_of kind e.answer) 1 0 in
    let each : Op → ℕ = λ op. cond (same_kind kind replied_kind) 1 0 in
    sum_by-cons one x xs
    ∙ ap₂ (λ (m n : ℕ). m + n) (ap (λ (a : Answer). cond (is_of kind a) 1 0) replied.0.1) (count_by-replied kind xs replied.1)
    ∙ sym (sum_by-cons each x.op (map (λ (e : Entry). e.op) xs))

module _ (format : Format) (answers-follow : AnswersFollowFromActs) (strict : Bool) (files : List Input) (asks : List Query) (separate : AreSeparate format files) where
  module _ (cs : List ℕ) (journal : List Entry) (tells_files : TellsFiles format strict files asks cs journal) where
    replied_at : (p : ℕ) (e : Entry) → slice_get journal p ≡ Some e → e.caller ≡ 0 → IsReplied e
    replied_at p e at own = by (entry_is format strict files asks cs journal tells_files p e at)
      where
        by : IsOfFiles format files cs e → IsReplied e
        by (inl query) = (reply_to (take p journal) query.1, tells_files.legal p e at ∙ ap (answer_to strict (take p journal)) query.2 ∙ answer_to-query strict (take p journal) query.1)
        by (inr of_file) = absurd (tells_files.distinct.0 (subst (Contains cs) own (Contains-place cs of_file.place e.caller of_file.under)))

    -- whatever caller 0 asked was replied to
    replied-calls : (es : List Entry) → AllByRecursion (λ e. e.caller ≡ 0 → IsReplied e) es → AllByRecursion IsReplied (calls caller_of 0 es)
    replied-calls [] all = tt
    replied-calls (e ∷ es) all = by (eqb e.caller 0) refl (replied-calls es all.1)
      where
        by : (b : Bool) → eqb e.caller 0 ≡ b → AllByRecursion IsReplied (calls caller_of 0 es) → AllByRecursion IsReplied (cond b (e ∷ calls caller_of 0 es) (calls caller_of 0 es))
        by true is rest = (all.0 (eqb-true e.caller 0 is), rest)
        by false is rest = rest

    count_by-queries : (kind : Kind) → count_by (λ e. is_of kind e.answer) (calls caller_of 0 journal) ≡ sum_by (λ (op : Op). cond (same_kind kind replied_kind) 1 0) (map (λ e. e.op) (calls caller_of 0 journal))
    count_by-queries kind = count_by-replied kind (calls caller_of 0 journal) (replied-calls journal (AllByRecursion-places (λ e. e.caller ≡ 0 → IsReplied e) journal replied_at))

  module _ (cs ds : List ℕ) (journal other : List Entry) (tells : TellsFiles format strict files asks cs journal) (tells' : TellsFiles format strict files asks ds other) where
    count_of-told : (kind : Kind) → count_of kind journal ≡ count_of kind other
    count_of-told kind =
        let test : Entry → Bool = λ e. is_of kind e.answer in
        let each : Op → ℕ = λ op. cond (same_kind kind replied_kind) 1 0 in
        let queries : AreAsMany test journal other 0 0 = count_by-queries cs journal tells kind ∙ ap (sum_by each) (tells.asked ∙ sym tells'.asked) ∙ sym (count_by-queries ds other tells' kind) in
        let items = AllZip-files _ _ (AreAsMany test journal other) files cs ds tells.told tells'.told
        (λ place file c d at under under'. count_by-exchanges kind (calls caller_of c journal)
        ∙ ap (sum_by (λ (x : Op × Answer). cond (is_of kind x.1) 1 0)) (exchanges-alone format answers-follow strict files asks separate cs journal tells place file c at under ∙ sym (exchanges-alone format answers-follow strict files asks separate ds other tells' place file d at under'))
        ∙ sym (count_by-exchanges kind (calls caller_of d other))) in
        total-filter test (0 ∷ cs) journal tells.distinct tells.only
        ∙ total-zip test (0 ∷ cs) (0 ∷ ds) journal other (queries, items)
        ∙ sym (total-filter test (0 ∷ ds) other tells'.distinct tells'.only)

    -- so the counts are the same
    pub count_row-told : count_row journal ≡ count_row other
    count_row-told = rw (count_of-told accepted_kind, count_of-told refused_kind, count_of-told skipped_kind, count_of-told replied_kind, count_of-told sealed_kind) refl
