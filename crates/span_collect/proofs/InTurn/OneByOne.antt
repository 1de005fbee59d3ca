-- The journal of files that are told one after another tells each of them, the first under caller 1.
use Rattle.std.specs.{List.{AllByRecursion, AllZip, range_with_len}, Prelude.filter}
use Rattle.std.proofs.{Common.{◌≡◌, ◌≢◌, ℕ, zero, suc, ◌+◌, ◌<◌, ◌≤◌, List, [], ◌∷◌, ◌++◌, length, Bool, true, false, cond, eqb, eq-eqb, ne_eqb, map, All, Contains, refl, sym, ap, ap₂, subst, ◌∙◌, append-nil, append_assoc, arith}, lemmas.List.{map-append, Elements.{All-cons, All-nil, filter-append}}}
use Rattle.span_journal.proofs.LegalJournals.{sequential-legal}
use Rattle.span_share.proofs.CallersLists.{Contains-here, Contains-later}
use Rattle.span_collect.specs.{Format, doc, Entry, Op, Query, calls_of, AreDistinct, calls, caller_of, Account.{asking, operations, telling}, InTurn.{calls_from, calls_in_turn, items_in, told_in_turn}, declared.files.Input.Input}
use Rattle.span_collect.proofs.InTurn.Shared.{TellsFiles}

-- the operations of a caller among calls
abbrev ops_of : ℕ → List (ℕ × Op) → List Op
ops_of c xs = map (λ x. x.1) (filter (λ x. eqb x.0 c) xs)

operations-calls_of : (c : ℕ) (journal : List Entry) → operations journal c ≡ ops_of c (calls_of journal)
operations-calls_of c [] = refl
operations-calls_of c (e ∷ es) = by (eqb e.caller c) (operations-calls_of c es)
  where
    by : (b : Bool) → operations es c ≡ ops_of c (calls_of es) → map (λ (x : Entry). x.op) (cond b (e ∷ calls caller_of c es) (calls caller_of c es)) ≡ map (λ (x : ℕ × Op). x.1) (cond b ((e.caller, e.op) ∷ filter (λ x. eqb x.0 c) (calls_of es)) (filter (λ x. eqb x.0 c) (calls_of es)))
    by true rest = ap (λ ops. e.op ∷ ops) rest
    by false rest = rest

ops_of-append : (c : ℕ) (xs ys : List (ℕ × Op)) → ops_of c (xs ++ ys) ≡ ops_of c xs ++ ops_of c ys
ops_of-append c xs ys = ap (map (λ (x : ℕ × Op). x.1)) (filter-append (λ (x : ℕ × Op). eqb x.0 c) xs ys) ∙ map-append (λ (x : ℕ × Op). x.1) (filter (λ x. eqb x.0 c) xs) (filter (λ x. eqb x.0 c) ys)

ops_of-none : (c : ℕ) (xs : List (ℕ × Op)) → AllByRecursion (λ x. x.0 ≢ c) xs → ops_of c xs ≡ []
ops_of-none c [] other = refl
ops_of-none c (x ∷ xs) other =
    ap (λ b. map (λ (y : ℕ × Op). y.1) (cond b (x ∷ filter (λ y. eqb y.0 c) xs) (filter (λ y. eqb y.0 c) xs))) (ne_eqb x.0 c other.0) ∙ ops_of-none c xs other.1

ops_of-own : (c : ℕ) (ops : List Op) → ops_of c (map (λ op. (c, op)) ops) ≡ ops
ops_of-own c [] = refl
ops_of-own c (op ∷ ops) =
    let later = filter (λ (y : ℕ × Op). eqb y.0 c) (map (λ (o : Op). (c, o)) ops) in
    ap (λ b. map (λ (y : ℕ × Op). y.1) (cond b ((c, op) ∷ later) later)) (eq-eqb c c refl) ∙ ap (λ l. op ∷ l) (ops_of-own c ops)

-- what holds of all calls of two lists
AllByRecursion-append : (P : ℕ × Op → Type 0) (xs ys : List (ℕ × Op)) → AllByRecursion P xs → AllByRecursion P ys → AllByRecursion P (xs ++ ys)
AllByRecursion-append P [] ys first second = second
AllByRecursion-append P (x ∷ xs) ys first second = (first.0, AllByRecursion-append P xs ys first.1 second)

AllByRecursion-implied : (P Q : ℕ × Op → Type 0) → ((x : ℕ × Op) → P x → Q x) → (xs : List (ℕ × Op)) → AllByRecursion P xs → AllByRecursion Q xs
AllByRecursion-implied P Q implies [] all = tt
AllByRecursion-implied P Q implies (x ∷ xs) all = (implies x all.0, AllByRecursion-implied P Q implies xs all.1)

-- calls under one caller
AllByRecursion-one : (P : ℕ → Type 0) (c : ℕ) → P c → (ops : List Op) → AllByRecursion (λ (x : ℕ × Op). P x.0) (map (λ op. (c, op)) ops)
AllByRecursion-one P c is [] = tt
AllByRecursion-one P c is (op ∷ ops) = (is, AllByRecursion-one P c is ops)

-- the calls that tell files have the callers that are counted
callers_from : (format : Format) (P : ℕ → Type 0) (n : ℕ) (files : List Input) → ((c : ℕ) → Contains (range_with_len n (length files)) c → P c) → AllByRecursion (λ (x : ℕ × Op). P x.0) (calls_from format n files)
callers_from format P n [] each = tt
callers_from format P n (f ∷ fs) each =
    AllByRecursion-append (λ x. P x.0) (map (λ op. (n, op)) (telling (items_in (doc format f.bytes.items)))) (calls_from format (n + 1) fs)
    (AllByRecursion-one P n (each n (Contains-here n (range_with_len (n + 1) (length fs)))) (telling (items_in (doc format f.bytes.items))))
    (callers_from format P (n + 1) fs (λ c has. each c (Contains-later n (range_with_len (n + 1) (length fs)) c has)))

range-from : (n k c : ℕ) → Contains (range_with_len n k) c → n ≤ c
range-from n zero c has = absurd (omega (arith, has.1))
range-from n (suc k) c (zero, lt, is) = let same : n ≡ c = is in omega (arith, same)
range-from n (suc k) c (suc i, lt, is) = let later = range-from (n + 1) k c (i, omega (arith, lt), is) in omega (arith, later)

range-distinct : (n k : ℕ) → AreDistinct (range_with_len n k)
range-distinct n zero = tt
range-distinct n (suc k) = ((λ has. let from = range-from (n + 1) k n has in omega (arith, from)), range-distinct (n + 1) k)

module _ (format : Format) (n : ℕ) (before : List (ℕ × Op)) (f : Input) (fs : List Input) (after : List (ℕ × Op)) where
  abbrev items : List Op
  items = telling (items_in (doc format f.bytes.items))

  abbrev own : List (ℕ × Op)
  own = map (λ op. (n, op)) items

  abbrev later : List (ℕ × Op)
  later = calls_from format (n + 1) fs

  -- a caller's items, behind calls of lesser callers and before those of others
  ops_of-first : AllByRecursion (λ x. x.0 < n) before → AllByRecursion (λ x. x.0 < n) after → ops_of n (before ++ ((own ++ later) ++ after)) ≡ items
  ops_of-first lesser lesser' =
      ops_of-append n before ((own ++ later) ++ after)
      ∙ ap₂ (λ (x y : List Op). x ++ y) (ops_of-none n before (AllByRecursion-implied (λ x. x.0 < n) (λ x. x.0 ≢ n) other before lesser))
      (ops_of-append n (own ++ later) after
      ∙ ap₂ (λ (x y : List Op). x ++ y)
      (ops_of-append n own later
      ∙ ap₂ (λ (x y : List Op). x ++ y) (ops_of-own n items) (ops_of-none n later (callers_from format (λ c. c ≢ n) (n + 1) fs (λ c has same. let from = range-from (n + 1) (length fs) c has in omega (arith, from, same))))
      ∙ append-nil items)
      (ops_of-none n after (AllByRecursion-implied (λ x. x.0 < n) (λ x. x.0 ≢ n) other after lesser'))
      ∙ append-nil items)
    where
      other : (x : ℕ × Op) → x.0 < n → x.0 ≢ n
      other x lt same = omega (arith, lt, same)

  regrouped : (before ++ own) ++ (later ++ after) ≡ before ++ ((own ++ later) ++ after)
  regrouped = append_assoc before own (later ++ after) ∙ ap (λ l. before ++ l) (sym (append_assoc own later after))

-- behind calls of lesser callers, each file's items are told under its number
told-from : (format : Format) (n : ℕ) (before : List (ℕ × Op)) (files : List Input) (after : List (ℕ × Op)) → AllByRecursion (λ x. x.0 < n) before → AllByRecursion (λ x. x.0 < n) after →
    AllZip (λ file c. ops_of c (before ++ (calls_from format n files ++ after)) ≡ telling (items_in (doc format file.bytes.items))) files (range_with_len n (length files))
told-from format n before [] after lesser lesser' = tt
told-from format n before (f ∷ fs) after lesser lesser' = (
  ops_of-first format n before f fs after lesser lesser',
  subst (λ xs. AllZip (λ file c. ops_of c xs ≡ telling (items_in (doc format file.bytes.items))) fs (range_with_len (n + 1) (length fs))) (regrouped format n before f fs after)
      (told-from format (n + 1) (before ++ own format n before f fs after) fs after
      (AllByRecursion-append (λ x. x.0 < n + 1) before (own format n before f fs after) (AllByRecursion-implied (λ x. x.0 < n) (λ x. x.0 < n + 1) less before lesser) (AllByRecursion-one (λ c. c < n + 1) n (omega arith) (items format n before f fs after)))
      (AllByRecursion-implied (λ x. x.0 < n) (λ x. x.0 < n + 1) less after lesser')),
)
  where
    less : (x : ℕ × Op) → x.0 < n → x.0 < n + 1
    less x lt = omega (arith, lt)

-- what holds of the callers of calls holds of those of entries
All-callers : (P : ℕ → Type 0) (journal : List Entry) → AllByRecursion (λ x. P x.0) (calls_of journal) → All (λ e. P e.caller) journal
All-callers P [] all = All-nil (λ e. P e.caller)
All-callers P (e ∷ es) all = All-cons (λ (x : Entry). P x.caller) e es all.0 (All-callers P es all.1)

AllZip-turned : (R S : Input → ℕ → Type 0) → ((file : Input) (c : ℕ) → R file c → S file c) → (files : List Input) (cs : List ℕ) → AllZip R files cs → AllZip S files cs
AllZip-turned R S turns [] [] zip = tt
AllZip-turned R S turns [] (c ∷ cs) zip = zip
AllZip-turned R S turns (f ∷ fs) [] zip = zip
AllZip-turned R S turns (f ∷ fs) (c ∷ cs) zip = (turns f c zip.0, AllZip-turned R S turns fs cs zip.1)

module _ (format : Format) (strict : Bool) (files : List Input) (asks : List Query) where
  abbrev journal : List Entry
  journal = told_in_turn format strict files asks

  abbrev callers : List ℕ
  callers = range_with_len 1 (length files)

  abbrev queries : List (ℕ × Op)
  queries = map (λ op. (0, op)) (asking asks)

  calls_of-in_turn : calls_of journal ≡ calls_in_turn format files asks
  calls_of-in_turn = (sequential-legal strict (calls_in_turn format files asks)).1

  -- the files are told under 1, 2 and so on, and the queries asked
  pub told_in_turn-tells : TellsFiles format strict files asks callers journal
  told_in_turn-tells = record {
    legal = (sequential-legal strict (calls_in_turn format files asks)).0;
    told = AllZip-turned (λ file c. ops_of c (calls_in_turn format files asks) ≡ telling (items_in (doc format file.bytes.items))) (λ file c. operations journal c ≡ telling (items_in (doc format file.bytes.items)))
        (λ file c is. operations-calls_of c journal ∙ ap (ops_of c) calls_of-in_turn ∙ is) files callers
        (told-from format 1 [] files queries tt (AllByRecursion-one (λ c. c < 1) 0 (omega arith) (asking asks)));
    asked = operations-calls_of 0 journal ∙ ap (ops_of 0) calls_of-in_turn ∙ ops_of-append 0 (calls_from format 1 files) queries
        ∙ ap₂ (λ (x y : List Op). x ++ y) (ops_of-none 0 (calls_from format 1 files) (callers_from format (λ c. c ≢ 0) 1 files (λ c has same. let from = range-from 1 (length files) c has in omega (arith, from, same)))) (ops_of-own 0 (asking asks));
    distinct = ((λ has. let from = range-from 1 (length files) 0 has in omega (arith, from)), range-distinct 1 (length files));
    only = All-callers (Contains (0 ∷ callers)) journal (subst (AllByRecursion (λ (x : ℕ × Op). Contains (0 ∷ callers) x.0)) (sym calls_of-in_turn)
        (AllByRecursion-append (λ x. Contains (0 ∷ callers) x.0) (calls_from format 1 files) queries
        (callers_from format (Contains (0 ∷ callers)) 1 files (λ c has. Contains-later 0 callers c has)) (AllByRecursion-one (Contains (0 ∷ callers)) 0 (Contains-here 0 callers) (asking asks))));
  }
