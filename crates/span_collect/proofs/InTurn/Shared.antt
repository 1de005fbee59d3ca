-- A journal that files were told to, each under a caller of its own, and queries under 0: what its entries are, and that those of
-- separate files are silent on each other's topics.
use Rattle.std.specs.{List.{AllByRecursion, AllZip, cons_option}, Prelude.{filter_map, slice_get}}
use Rattle.std.proofs.{Common.{◌≡◌, ◌≢◌, ℕ, zero, suc, ◌⊎◌, inl, inr, List, [], ◌∷◌, Bool, true, false, cond, eqb, eq-eqb, map, All, Contains, Option, Some, None, refl, sym, ap, subst, ◌∙◌, arith}, lemmas.List.Elements.{All-head, All-tail}}
use Rattle.span_collect.specs.{Event, Item, Good, Bad, Other, Format, doc, Entry, Op, One, Ask, Query, Act, an_event, act_in, is_accepting, IsLegal, Topic, concerns, AreDistinct, calls, caller_of, Account.{asking, operations, telling}, InTurn.{AreSeparate, events_in, good_event, items_in}, declared.files.Input.Input}
use Rattle.span_collect.proofs.InTurn.Exchanges.{IsSilentOn, act_of, exchange_of}

-- the callers of the files have told their items, caller 0 has asked the queries, and nobody else has an entry
pub record TellsFiles (format : Format) (strict : Bool) (files : List Input) (asks : List Query) (cs : List ℕ) (journal : List Entry) : Type 0 where
  pub legal : IsLegal strict journal
  pub told : AllZip (λ file c. operations journal c ≡ telling (items_in (doc format file.bytes.items))) files cs
  pub asked : operations journal 0 ≡ asking asks
  pub distinct : AreDistinct (0 ∷ cs)
  pub only : All (λ e. Contains (0 ∷ cs) e.caller) journal

-- the entry asks a query, under 0
abbrev pub IsQuery : Entry → Type 0
IsQuery e = (e.caller ≡ 0) × (query : Query) × (e.op ≡ Ask query)

-- the entry tells an item of the file at this place, under the file's caller
pub record TellsItem (format : Format) (files : List Input) (cs : List ℕ) (e : Entry) : Type 0 where
  pub place : ℕ
  pub file : Input
  pub item : Item
  pub at : slice_get files place ≡ Some file
  pub under : slice_get cs place ≡ Some e.caller
  pub tells : e.op ≡ One item
  pub good : (event : Event) → item ≡ Good event → Contains (events_in (doc format file.bytes.items)) event

-- what an entry of such a journal is
abbrev pub IsOfFiles : Format → List Input → List ℕ → Entry → Type 0
IsOfFiles format files cs e = IsQuery e ⊎ TellsItem format files cs e

Contains-first : {A : Type 0} (x : A) (xs : List A) → Contains (x ∷ xs) x
Contains-first x xs = (0, omega arith, refl)

Contains-rest : {A : Type 0} (x y : A) (xs : List A) → Contains xs y → Contains (x ∷ xs) y
Contains-rest x y xs h = (suc h.0, omega (arith, h.1), h.2)

-- what holds of each element by its place
pub AllByRecursion-places : {A : Type 0} (P : A → Type 0) (xs : List A) → ((p : ℕ) (x : A) → slice_get xs p ≡ Some x → P x) → AllByRecursion P xs
AllByRecursion-places P [] all = tt
AllByRecursion-places P (x ∷ xs) all = (all 0 x refl, AllByRecursion-places P xs (λ p. all (suc p)))

All-place : {A : Type 0} (P : A → Type 0) (xs : List A) (p : ℕ) (x : A) → All P xs → slice_get xs p ≡ Some x → P x
All-place P [] p x all at = absurd cc
All-place P (y ∷ xs) zero x all at = let same : y ≡ x = cc in subst P same (All-head P y xs all)
All-place P (y ∷ xs) (suc p) x all at = All-place P xs p x (All-tail P y xs all) at

-- two lists that go together have as many places
pub AllZip-place : {A B : Type 0} (R : A → B → Type 0) (xs : List A) (ys : List B) (p : ℕ) (x : A) → AllZip R xs ys → slice_get xs p ≡ Some x → (y : B) × (slice_get ys p ≡ Some y) × R x y
AllZip-place R [] [] p x zip at = absurd cc
AllZip-place R [] (y ∷ ys) p x zip at = absurd zip
AllZip-place R (a ∷ xs) [] p x zip at = absurd zip
AllZip-place R (a ∷ xs) (b ∷ ys) zero x zip at = let same : a ≡ x = cc in (b, refl, subst (λ z. R z b) same zip.0)
AllZip-place R (a ∷ xs) (b ∷ ys) (suc p) x zip at = AllZip-place R xs ys p x zip.1 at

-- the place of a caller among those of the files
file_of : (R : Input → ℕ → Type 0) (files : List Input) (cs : List ℕ) (c : ℕ) → AllZip R files cs → Contains cs c →
    (place : ℕ) × (file : Input) × (slice_get files place ≡ Some file) × (slice_get cs place ≡ Some c) × R file c
file_of R [] [] c zip (k, lt, is) = absurd (omega (arith, lt))
file_of R [] (d ∷ ds) c zip has = absurd zip
file_of R (f ∷ fs) [] c zip has = absurd zip
file_of R (f ∷ fs) (d ∷ ds) c zip (zero, lt, is) = let same : d ≡ c = is in (0, f, refl, ap Some same, subst (R f) same zip.0)
file_of R (f ∷ fs) (d ∷ ds) c zip (suc k, lt, is) = let found = file_of R fs ds c zip.1 (k, omega (arith, lt), is) in (suc found.0, found.1, found.2, found.3, found.4)

-- an entry's operation is one of its caller's
operation_of : (c : ℕ) (journal : List Entry) (p : ℕ) (e : Entry) → slice_get journal p ≡ Some e → e.caller ≡ c → (k : ℕ) × (slice_get (operations journal c) k ≡ Some e.op)
operation_of c [] p e at own = absurd cc
operation_of c (x ∷ xs) zero e at own =
    let same : x ≡ e = cc in
    let yes : eqb x.caller c ≡ true = eq-eqb x.caller c (ap (λ (z : Entry). z.caller) same ∙ own) in
    (0, ap (λ b. slice_get (map (λ (z : Entry). z.op) (cond b (x ∷ calls caller_of c xs) (calls caller_of c xs))) 0) yes ∙ ap (λ (z : Entry). Some z.op) same)
operation_of c (x ∷ xs) (suc p) e at own = let found = operation_of c xs p e at own in by (eqb x.caller c) found.0 found.1
  where
    by : (b : Bool) (k : ℕ) → slice_get (operations xs c) k ≡ Some e.op → (n : ℕ) × (slice_get (map (λ (z : Entry). z.op) (cond b (x ∷ calls caller_of c xs) (calls caller_of c xs))) n ≡ Some e.op)
    by true k is = (suc k, is)
    by false k is = (k, is)

query_of : (asks : List Query) (k : ℕ) (op : Op) → slice_get (asking asks) k ≡ Some op → (query : Query) × (op ≡ Ask query)
query_of [] k op at = absurd cc
query_of (query ∷ asks) zero op at = (query, let same : op ≡ Ask query = cc in same)
query_of (query ∷ asks) (suc k) op at = query_of asks k op at

item_of : (items : List Item) (k : ℕ) (op : Op) → slice_get (telling items) k ≡ Some op → (item : Item) × (op ≡ One item) × (slice_get items k ≡ Some item)
item_of [] k op at = absurd cc
item_of (item ∷ items) zero op at = (item, (let same : op ≡ One item = cc in same), refl)
item_of (item ∷ items) (suc k) op at = item_of items k op at

good_at : (items : List Item) (k : ℕ) (event : Event) → slice_get items k ≡ Some (Good event) → Contains (filter_map good_event items) event
good_at [] k event at = absurd cc
good_at (item ∷ items) zero event at =
    let same : item ≡ Good event = cc in
    subst (λ i. Contains (filter_map good_event (i ∷ items)) event) (sym same) (Contains-first event (filter_map good_event items))
good_at (item ∷ items) (suc k) event at = by (good_event item) (good_at items k event at)
  where
    by : (o : Option Event) → Contains (filter_map good_event items) event → Contains (cons_option o (filter_map good_event items)) event
    by None has = has
    by (Some first) has = Contains-rest first event (filter_map good_event items) has

module _ (format : Format) (strict : Bool) (files : List Input) (asks : List Query) (cs : List ℕ) (journal : List Entry) (tells_files : TellsFiles format strict files asks cs journal) where
  -- a query or an item, by its caller
  pub entry_is : (p : ℕ) (e : Entry) → slice_get journal p ≡ Some e → IsOfFiles format files cs e
  entry_is p e at = by (All-place (λ (x : Entry). Contains (0 ∷ cs) x.caller) journal p e tells_files.only at)
    where
      by : Contains (0 ∷ cs) e.caller → IsOfFiles format files cs e
      by (zero, lt, is) =
          let own : e.caller ≡ 0 = sym is in
          let found = operation_of 0 journal p e at own in
          let asked = query_of asks found.0 e.op (sym (ap (λ l. slice_get l found.0) tells_files.asked) ∙ found.1) in
          inl (own, asked.0, asked.1)
      by (suc k, lt, is) =
          let own = file_of (λ file c. operations journal c ≡ telling (items_in (doc format file.bytes.items))) files cs e.caller tells_files.told (k, omega (arith, lt), is) in
          let found = operation_of e.caller journal p e at refl in
          let told = item_of (items_in (doc format own.1.bytes.items)) found.0 e.op (sym (ap (λ l. slice_get l found.0) own.4) ∙ found.1) in
          inr (record {
            place = own.0;
            file = own.1;
            item = told.0;
            at = own.2;
            under = own.3;
            tells = told.1;
            good = λ event is_good. good_at (items_in (doc format own.1.bytes.items)) found.0 event (told.2 ∙ ap Some is_good);
          })

  -- each entry is one of these
  pub IsOfFiles-all : AllByRecursion (IsOfFiles format files cs) journal
  IsOfFiles-all = AllByRecursion-places (IsOfFiles format files cs) journal entry_is

-- an act that an entry was accepted as is that of its operation
act_in-accepted : (e : Entry) (act : Act) → act_of (exchange_of e) ≡ Some act → act_in e.op ≡ Some act
act_in-accepted e act accepted = by (is_accepting e.answer) accepted
  where
    by : (b : Bool) → cond b (act_in e.op) None ≡ Some act → act_in e.op ≡ Some act
    by true is = is
    by false is = absurd cc

-- an item that is an act is a good event
good_of : (item : Item) (op : Op) (act : Act) → op ≡ One item → act_in op ≡ Some act → (event : Event) × (item ≡ Good event) × (act ≡ an_event event)
good_of (Good event) op act is acts = (event, refl, let same : Some act ≡ Some (an_event event) = sym acts ∙ ap act_in is in let equal : act ≡ an_event event = cc in equal)
good_of (Bad fault) op act is acts = absurd (let none : None ≡ Some act = sym (ap act_in is) ∙ acts in cc)
good_of Other op act is acts = absurd (let none : None ≡ Some act = sym (ap act_in is) ∙ acts in cc)

-- a query is no act
query_silent : (topic : Topic) (e : Entry) → IsQuery e → IsSilentOn topic e
query_silent topic e (own, query, is) act accepted = absurd (let none : None ≡ Some act = sym (ap act_in is) ∙ act_in-accepted e act accepted in cc)

module _ (format : Format) (files : List Input) (cs : List ℕ) where
  -- where a topic concerns no good event of the entry's file, the entry is silent on it
  pub silent_item : (topic : Topic) (e : Entry) → (of_file : TellsItem format files cs e) → ((event : Event) → Contains (events_in (doc format of_file.file.bytes.items)) event → concerns topic (an_event event) ≡ false) → IsSilentOn topic e
  silent_item topic e of_file none act accepted =
      let own = good_of of_file.item e.op act of_file.tells (act_in-accepted e act accepted) in
      ap (concerns topic) own.2 ∙ none own.0 (of_file.good own.0 own.1)

  pub silent_entry : (topic : Topic) (e : Entry) → IsOfFiles format files cs e →
      ((of_file : TellsItem format files cs e) (event : Event) → Contains (events_in (doc format of_file.file.bytes.items)) event → concerns topic (an_event event) ≡ false) → IsSilentOn topic e
  silent_entry topic e (inl query) none = query_silent topic e query
  silent_entry topic e (inr of_file) none = silent_item topic e of_file (none of_file)

  module _ (separate : AreSeparate format files) where
    -- on a topic of a file's good event all entries of other callers are silent
    pub silent_others : (topic : Topic) (place : ℕ) (file : Input) (c : ℕ) → slice_get files place ≡ Some file → slice_get cs place ≡ Some c →
        (event : Event) → Contains (events_in (doc format file.bytes.items)) event → concerns topic (an_event event) ≡ true → (e : Entry) → IsOfFiles format files cs e → e.caller ≢ c → IsSilentOn topic e
    silent_others topic place file c at under event has about e of_files other =
        silent_entry topic e of_files (λ of_file event' has'. separate place of_file.place file of_file.file (λ same. other (elsewhere of_file same)) at of_file.at topic event event' has has' about)
      where
        elsewhere : (of_file : TellsItem format files cs e) → place ≡ of_file.place → e.caller ≡ c
        elsewhere of_file same = let both : Some e.caller ≡ Some c = sym of_file.under ∙ ap (slice_get cs) (sym same) ∙ under in let equal : e.caller ≡ c = cc in equal

    -- so it is of two entries of a journal
    pub IsOfFiles-apart : (x y : Entry) → IsOfFiles format files cs x → IsOfFiles format files cs y → (c : ℕ) → x.caller ≡ c → y.caller ≢ c → (act : Act) → act_in x.op ≡ Some act → (topic : Topic) → concerns topic act ≡ true → IsSilentOn topic y
    IsOfFiles-apart x y (inl query) of_y c own other act acts topic about = absurd (let none : None ≡ Some act = sym (ap act_in query.2) ∙ acts in cc)
    IsOfFiles-apart x y (inr of_x) of_y c own other act acts topic about =
        let good = good_of of_x.item x.op act of_x.tells acts in
        silent_others topic of_x.place of_x.file c of_x.at (of_x.under ∙ ap Some own) good.0 (of_x.good good.0 good.1) (sym (ap (concerns topic) good.2) ∙ about) y of_y other
