-- A caller's entries are answered as if it told alone, where no other caller's concern what its own do.
use Rattle.std.specs.List.{AllByRecursion}
use Rattle.std.proofs.{Common.{◌≡◌, ◌≢◌, ℕ, List, [], ◌∷◌, ◌++◌, Bool, true, false, eqb, eqb-true, eq-eqb, map, Some, refl, sym, ap, ap₂, subst, ◌∙◌, append-nil, append_assoc}, lemmas.List.map_push}
use Rattle.span_journal.proofs.LegalJournals.{IsLegalAfter, first_later}
use Rattle.span_ledger.proofs.Taking.{answer_to-bad, answer_to-other}
use Rattle.span_share.proofs.CallersLists.{calls-append_other, calls-append_own}
use Rattle.span_collect.specs.{Item, Good, Bad, Other, Answer, Entry, Op, One, answer_to, Act, an_event, act_in, IsLegal, next_entry, sequential, Topic, AnswersFollowFromActs, acts_on, concerns, calls, caller_of}
use Rattle.span_collect.proofs.{InTurn.Exchanges.{IsSilentOn, acts_among, acts_among-calls, acts_on-exchanges, exchange_of, exchanges}, SealEntries.journal_after-push}

-- the journal of these operations alone
abbrev pub alone : Bool → List Op → List Entry
alone strict ops = sequential strict (map (λ op. (0, op)) ops)

alone-push : (strict : Bool) (ops : List Op) (op : Op) → alone strict (ops ++ op ∷ []) ≡ alone strict ops ++ next_entry strict (alone strict ops) 0 op ∷ []
alone-push strict ops op = ap (sequential strict) (map_push (λ (o : Op). (0, o)) ops op) ∙ journal_after-push strict [] (map (λ (o : Op). (0, o)) ops) 0 op

-- what a function gives each entry of a list, of which one more is the last
AllByRecursion-push : (P : Entry → Type 0) (xs : List Entry) (x : Entry) → AllByRecursion P xs → P x → AllByRecursion P (xs ++ x ∷ [])
AllByRecursion-push P [] x all last = (last, tt)
AllByRecursion-push P (y ∷ xs) x all last = (all.0, AllByRecursion-push P xs x all.1 last)

pub AllByRecursion-weaker : (P Q : Entry → Type 0) → ((e : Entry) → P e → Q e) → (xs : List Entry) → AllByRecursion P xs → AllByRecursion Q xs
AllByRecursion-weaker P Q weaker [] all = tt
AllByRecursion-weaker P Q weaker (x ∷ xs) all = (weaker x all.0, AllByRecursion-weaker P Q weaker xs all.1)

-- `M` holds of every entry of a journal; an entry of the caller tells an item, and on the topics of its event all others are silent
module _ (answers-follow : AnswersFollowFromActs) (strict : Bool) (c : ℕ) (M : Entry → Type 0)
    (tells : (e : Entry) → M e → e.caller ≡ c → (item : Item) × (e.op ≡ One item))
    (apart : (x y : Entry) → M x → M y → x.caller ≡ c → y.caller ≢ c → (act : Act) → act_in x.op ≡ Some act → (topic : Topic) → concerns topic act ≡ true → IsSilentOn topic y) where
  -- these entries of the caller have the answers of their operations alone
  abbrev AreAsAlone : List Entry → Type 0
  AreAsAlone own = exchanges own ≡ exchanges (alone strict (map (λ e. e.op) own))

  module _ (earlier : List Entry) (of_earlier : AllByRecursion M earlier) (as_alone : AreAsAlone (calls caller_of c earlier)) (x : Entry) (of_x : M x) (own : x.caller ≡ c) where
    abbrev own_entries : List Entry
    own_entries = calls caller_of c earlier

    abbrev ops : List Op
    ops = map (λ e. e.op) own_entries

    same_acts : (act : Act) → act_in x.op ≡ Some act → (topic : Topic) → concerns topic act ≡ true → acts_on topic earlier ≡ acts_on topic (alone strict ops)
    same_acts act is topic about =
        acts_on-exchanges topic earlier
        ∙ acts_among-calls topic c earlier (AllByRecursion-weaker M (λ e. e.caller ≢ c → IsSilentOn topic e) (λ y of_y other. apart x y of_x of_y own other act is topic about) earlier of_earlier)
        ∙ ap (acts_among topic) as_alone
        ∙ sym (acts_on-exchanges topic (alone strict ops))

    same_answer : answer_to strict earlier x.op ≡ answer_to strict (alone strict ops) x.op
    same_answer = let told = tells x of_x own in by told.0 told.1
      where
        by : (item : Item) → x.op ≡ One item → answer_to strict earlier x.op ≡ answer_to strict (alone strict ops) x.op
        by (Good event) is = let act : act_in x.op ≡ Some (an_event event) = ap act_in is in answers-follow strict x.op (an_event event) earlier (alone strict ops) act (same_acts (an_event event) act)
        by (Bad fault) is =
            ap (answer_to strict earlier) is ∙ answer_to-bad strict earlier fault ∙ sym (answer_to-bad strict (alone strict ops) fault) ∙ sym (ap (answer_to strict (alone strict ops)) is)
        by Other is =
            ap (answer_to strict earlier) is ∙ answer_to-other strict earlier ∙ sym (answer_to-other strict (alone strict ops)) ∙ sym (ap (answer_to strict (alone strict ops)) is)

    AreAsAlone-own : x.answer ≡ answer_to strict earlier x.op → AreAsAlone (own_entries ++ x ∷ [])
    AreAsAlone-own right =
        map_push exchange_of own_entries x
        ∙ ap₂ (λ (xs : List (Op × Answer)) (answer : Answer). xs ++ (x.op, answer) ∷ []) as_alone (right ∙ same_answer)
        ∙ sym (ap (λ l. exchanges (alone strict l)) (map_push (λ (e : Entry). e.op) own_entries x) ∙ ap exchanges (alone-push strict ops x.op) ∙ map_push exchange_of (alone strict ops) (next_entry strict (alone strict ops) 0 x.op))

  AreAsAlone-push : (earlier : List Entry) (x : Entry) → AllByRecursion M earlier → M x → x.answer ≡ answer_to strict earlier x.op → AreAsAlone (calls caller_of c earlier) → AreAsAlone (calls caller_of c (earlier ++ x ∷ []))
  AreAsAlone-push earlier x of_earlier of_x right as_alone = by (eqb x.caller c) refl
    where
      by : (b : Bool) → eqb x.caller c ≡ b → AreAsAlone (calls caller_of c (earlier ++ x ∷ []))
      by true is = let own : x.caller ≡ c = eqb-true x.caller c is in
          subst AreAsAlone (sym (calls-append_own caller_of c earlier x own)) (AreAsAlone-own earlier of_earlier as_alone x of_x own right)
      by false is = subst AreAsAlone (sym (calls-append_other caller_of c earlier x (λ same. let own : eqb x.caller c ≡ true = eq-eqb x.caller c same in absurd cc))) as_alone

  AreAsAlone-after : (later earlier : List Entry) → AllByRecursion M earlier → AllByRecursion M later → IsLegalAfter strict earlier later → AreAsAlone (calls caller_of c earlier) → AreAsAlone (calls caller_of c (earlier ++ later))
  AreAsAlone-after [] earlier of_earlier of_later legal as_alone = subst (λ l. AreAsAlone (calls caller_of c l)) (sym (append-nil earlier)) as_alone
  AreAsAlone-after (x ∷ later) earlier of_earlier of_later legal as_alone =
      subst (λ l. AreAsAlone (calls caller_of c l)) (append_assoc earlier (x ∷ []) later)
      (AreAsAlone-after later (earlier ++ x ∷ []) (AllByRecursion-push M earlier x of_earlier of_later.0) of_later.1 (first_later strict earlier x later legal)
      (AreAsAlone-push earlier x of_earlier of_later.0 (legal 0 x refl ∙ ap (λ es. answer_to strict es x.op) (append-nil earlier)) as_alone))

  -- the caller's entries of a legal journal have the answers of its operations alone
  pub exchanges-calls : (journal : List Entry) → IsLegal strict journal → AllByRecursion M journal → exchanges (calls caller_of c journal) ≡ exchanges (alone strict (map (λ e. e.op) (calls caller_of c journal)))
  exchanges-calls journal legal all = AreAsAlone-after journal [] tt all legal refl
