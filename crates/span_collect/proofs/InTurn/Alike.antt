-- Two journals that were told the same separate files and the same queries are alike.
use Rattle.std.specs.{List.AllZip, Prelude.slice_get}
use Rattle.std.proofs.Common.{◌≡◌, ◌≢◌, ℕ, zero, suc, ◌⊎◌, inl, inr, List, [], ◌∷◌, Bool, true, false, Contains, Some, refl, sym, ap, subst, ◌∙◌, arith}
use Rattle.span_collect.specs.{Event, Item, Format, doc, Entry, One, Query, an_event, Topic, AnswersFollowFromActs, acts_on, concerns, calls, caller_of, Account.{operations, telling}, InTurn.{AreSeparate, events_in, items_in}, declared.files.Input.Input}
use Rattle.span_collect.proofs.InTurn.{Alone.{AllByRecursion-weaker, alone, exchanges-calls}, Exchanges.{IsSilentOn, acts_among, acts_among-calls, acts_among-none, acts_on-exchanges, exchanges}, Shared.{AllZip-place, IsOfFiles, IsOfFiles-all, IsOfFiles-apart, TellsFiles, silent_entry, silent_others}}

zip_at : {A B : Type 0} (R : A → B → Type 0) (xs : List A) (ys : List B) (p : ℕ) (x : A) (y : B) → AllZip R xs ys → slice_get xs p ≡ Some x → slice_get ys p ≡ Some y → R x y
zip_at R xs ys p x y zip at under =
    let found = AllZip-place R xs ys p x zip at in
    let same : found.0 ≡ y = let both : Some found.0 ≡ Some y = sym found.1 ∙ under in cc in
    subst (R x) same found.2

pub Contains-place : (cs : List ℕ) (p c : ℕ) → slice_get cs p ≡ Some c → Contains cs c
Contains-place [] p c at = absurd cc
Contains-place (d ∷ cs) zero c at = (0, omega arith, let same : d ≡ c = cc in same)
Contains-place (d ∷ cs) (suc p) c at = let found = Contains-place cs p c at in (suc found.0, omega (arith, found.1), found.2)

module _ (format : Format) (answers-follow : AnswersFollowFromActs) (strict : Bool) (files : List Input) (asks : List Query) (separate : AreSeparate format files) where
  module _ (cs : List ℕ) (journal : List Entry) (tells_files : TellsFiles format strict files asks cs journal) where
    -- the caller of a file tells items
    tells_item : (c : ℕ) → c ≢ 0 → (e : Entry) → IsOfFiles format files cs e → e.caller ≡ c → (item : Item) × (e.op ≡ One item)
    tells_item c other e (inl query) own = absurd (other (sym own ∙ query.0))
    tells_item c other e (inr of_file) own = (of_file.item, of_file.tells)

    -- the entries of a file's caller have the answers of its items alone
    pub exchanges-alone : (place : ℕ) (file : Input) (c : ℕ) → slice_get files place ≡ Some file → slice_get cs place ≡ Some c →
        exchanges (calls caller_of c journal) ≡ exchanges (alone strict (telling (items_in (doc format file.bytes.items))))
    exchanges-alone place file c at under =
        exchanges-calls answers-follow strict c (IsOfFiles format files cs)
        (tells_item c (λ zero_is. tells_files.distinct.0 (subst (Contains cs) zero_is (Contains-place cs place c under))))
        (λ x y of_x of_y own other. IsOfFiles-apart format files cs separate x y of_x of_y c own other) journal tells_files.legal (IsOfFiles-all format strict files asks cs journal tells_files)
        ∙ ap (λ ops. exchanges (alone strict ops)) (zip_at (λ f c. operations journal c ≡ telling (items_in (doc format f.bytes.items))) files cs place file c tells_files.told at under)

    -- a journal's acts on a topic of a file's good event are those of its items alone
    acts-owned : (topic : Topic) (place : ℕ) (file : Input) → slice_get files place ≡ Some file → (event : Event) → Contains (events_in (doc format file.bytes.items)) event → concerns topic (an_event event) ≡ true →
        acts_on topic journal ≡ acts_among topic (exchanges (alone strict (telling (items_in (doc format file.bytes.items)))))
    acts-owned topic place file at event has about =
        let found = AllZip-place (λ f c. operations journal c ≡ telling (items_in (doc format f.bytes.items))) files cs place file tells_files.told at in
        let c = found.0 in
        acts_on-exchanges topic journal
        ∙ acts_among-calls topic c journal (AllByRecursion-weaker (IsOfFiles format files cs) (λ e. e.caller ≢ c → IsSilentOn topic e)
        (λ e of_files. silent_others format files cs separate topic place file c at found.1 event has about e of_files) journal (IsOfFiles-all format strict files asks cs journal tells_files))
        ∙ ap (acts_among topic) (exchanges-alone place file c at found.1)

    -- on a topic of none of them there are none
    acts-none : (topic : Topic) → ((place : ℕ) (file : Input) → slice_get files place ≡ Some file → (event : Event) → Contains (events_in (doc format file.bytes.items)) event → concerns topic (an_event event) ≡ false) →
        acts_on topic journal ≡ []
    acts-none topic none =
        acts_on-exchanges topic journal
        ∙ acts_among-none topic journal (AllByRecursion-weaker (IsOfFiles format files cs) (IsSilentOn topic)
        (λ e of_files. silent_entry format files cs topic e of_files (λ of_file event has. none of_file.place of_file.file of_file.at event has)) journal (IsOfFiles-all format strict files asks cs journal tells_files))

  -- a good event of these that the topic concerns, if there is one
  among_events : (topic : Topic) (events : List Event) → ((event : Event) × Contains events event × (concerns topic (an_event event) ≡ true)) ⊎ ((event : Event) → Contains events event → concerns topic (an_event event) ≡ false)
  among_events topic [] = inr (λ event has. absurd (omega (arith, has.1)))
  among_events topic (e ∷ events) = by (concerns topic (an_event e)) refl (among_events topic events)
    where
      by : (b : Bool) → concerns topic (an_event e) ≡ b → ((event : Event) × Contains events event × (concerns topic (an_event event) ≡ true)) ⊎ ((event : Event) → Contains events event → concerns topic (an_event event) ≡ false) →
          ((event : Event) × Contains (e ∷ events) event × (concerns topic (an_event event) ≡ true)) ⊎ ((event : Event) → Contains (e ∷ events) event → concerns topic (an_event event) ≡ false)
      by true about rest = inl (e, (0, omega arith, refl), about)
      by false about (inl found) = inl (found.0, (suc found.1.0, omega (arith, found.1.1), found.1.2), found.2)
      by false about (inr none) = inr none_of
        where
          none_of : (event : Event) → Contains (e ∷ events) event → concerns topic (an_event event) ≡ false
          none_of event (zero, lt, is) = ap (λ x. concerns topic (an_event x)) (sym is) ∙ about
          none_of event (suc k, lt, is) = none event (k, omega (arith, lt), is)

  abbrev HasOwner : Topic → List Input → Type 0
  HasOwner topic fs = (place : ℕ) × (file : Input) × (slice_get fs place ≡ Some file) × (event : Event) × Contains (events_in (doc format file.bytes.items)) event × (concerns topic (an_event event) ≡ true)

  abbrev HasNoOwner : Topic → List Input → Type 0
  HasNoOwner topic fs = (place : ℕ) (file : Input) → slice_get fs place ≡ Some file → (event : Event) → Contains (events_in (doc format file.bytes.items)) event → concerns topic (an_event event) ≡ false

  -- the file of a topic, if there is one
  owner_of : (topic : Topic) (fs : List Input) → HasOwner topic fs ⊎ HasNoOwner topic fs
  owner_of topic [] = inr (λ place file at event has. absurd cc)
  owner_of topic (f ∷ fs) = by (among_events topic (events_in (doc format f.bytes.items))) (owner_of topic fs)
    where
      by : ((event : Event) × Contains (events_in (doc format f.bytes.items)) event × (concerns topic (an_event event) ≡ true)) ⊎ ((event : Event) → Contains (events_in (doc format f.bytes.items)) event → concerns topic (an_event event) ≡ false) →
          HasOwner topic fs ⊎ HasNoOwner topic fs → HasOwner topic (f ∷ fs) ⊎ HasNoOwner topic (f ∷ fs)
      by (inl found) rest = inl (0, f, refl, found.0, found.1, found.2)
      by (inr none) (inl found) = inl (suc found.0, found.1, found.2, found.3, found.4, found.5)
      by (inr none) (inr none_later) = inr none_of
        where
          none_of : HasNoOwner topic (f ∷ fs)
          none_of zero file at event has = let same : f ≡ file = cc in none event (subst (λ x. Contains (events_in (doc format x.bytes.items)) event) (sym same) has)
          none_of (suc p) file at event has = none_later p file at event has

  -- on each topic the acts of both are the same
  pub acts_on-told : (cs ds : List ℕ) (journal other : List Entry) → TellsFiles format strict files asks cs journal → TellsFiles format strict files asks ds other → (topic : Topic) → acts_on topic journal ≡ acts_on topic other
  acts_on-told cs ds journal other tells tells' topic = by (owner_of topic files)
    where
      by : HasOwner topic files ⊎ HasNoOwner topic files → acts_on topic journal ≡ acts_on topic other
      by (inl (place, file, at, event, has, about)) = acts-owned cs journal tells topic place file at event has about ∙ sym (acts-owned ds other tells' topic place file at event has about)
      by (inr none) = acts-none cs journal tells topic none ∙ sym (acts-none ds other tells' topic none)
