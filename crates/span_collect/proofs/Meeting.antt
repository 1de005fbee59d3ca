-- What the main seat has met, and the account of the journal that it closes.
use Rattle.std.proofs.{Common.{◌≡◌, ℕ, ◌≤◌, List, [], ◌∷◌, ◌++◌, length, map, take, Option, Some, None, Ok, Err, Contains, refl, sym, subst, ap, ap₂, ◌∙◌, append-nil, length-append, arith, inl, inr}, lemmas.{List.Elements.filter_map-append, Slice.Zip.all_zipped_more}}
use Rattle.span_share.proofs.CallersLists.{Contains-here, Contains-later}
use Rattle.span_collect.specs.{Format, doc, Entry, Query, Cause, Memory, Full, Busy, BeginsWith, ShareId, Seated, IsSeatOf, Gathers, Account.{Document, IsCause, EndsAs, EachEndsAs, IsAsked, StopsAsking, asking, caller_named, callers_named, operations}, Work.{HasRecorded, IsWorked, HasMet}, declared.{files.{FileEnd.{FileEnd, TheVariants.{Read, Refused, Stopped, NotStarted}}, Input.Input}, queries.Asked.Asked}}

pub BeginsWith-length : (new old : List Entry) → BeginsWith new old → length old ≤ length new
BeginsWith-length new old begins = omega (arith, ap length begins.1, length-append old begins.0)

cause-later : (limit : ℕ) (old new : List Entry) (cause : Cause) → length old ≤ length new → IsCause old limit cause → IsCause new limit cause
cause-later limit old new Memory grows is = tt
cause-later limit old new Full grows is = omega (arith, grows, is)
cause-later limit old new (Busy front) grows is = is

-- how a file ended stays so in a longer journal that has the same operations of its caller
pub EndsAs-later : (limit : ℕ) (old new : List Entry) (document : Document) (end : FileEnd) → length old ≤ length new → ((caller : ℕ) → caller_named end ≡ Some caller → operations new caller ≡ operations old caller) →
    EndsAs old limit document end → EndsAs new limit document end
EndsAs-later limit old new (Ok items) (Read caller count) grows same ended = (ended.0, same caller refl ∙ ended.1)
EndsAs-later limit old new (Err error) (Read caller count) grows same ended = ended
EndsAs-later limit old new (Ok items) (Refused caller code) grows same ended = ended
EndsAs-later limit old new (Err error) (Refused caller code) grows same ended = (ended.0, same caller refl ∙ ended.1)
EndsAs-later limit old new (Ok items) (Stopped caller done cause) grows same (inl first, is) = (inl (first.0, same caller refl ∙ first.1), cause-later limit old new cause grows is)
EndsAs-later limit old new (Err error) (Stopped caller done cause) grows same (inl first, is) = absurd first
EndsAs-later limit old new document (Stopped caller done cause) grows same (inr unread, is) = (inr (unread.0, unread.1, same caller refl ∙ unread.2), cause-later limit old new cause grows is)
EndsAs-later limit old new document NotStarted grows same ended = tt

-- what holds of the callers that ends name holds of the first one's and of the others'
first-named : (P : ℕ → Type 0) (end : FileEnd) (ends : List FileEnd) → ((caller : ℕ) → Contains (callers_named (end ∷ ends)) caller → P caller) → (caller : ℕ) → caller_named end ≡ Some caller → P caller
first-named P (Read own items) ends all caller at = let same : own ≡ caller = cc in subst P same (all own (Contains-here own (callers_named ends)))
first-named P (Refused own code) ends all caller at = let same : own ≡ caller = cc in subst P same (all own (Contains-here own (callers_named ends)))
first-named P (Stopped own done cause) ends all caller at = let same : own ≡ caller = cc in subst P same (all own (Contains-here own (callers_named ends)))
first-named P NotStarted ends all caller at = absurd cc

later-named : (P : ℕ → Type 0) (end : FileEnd) (ends : List FileEnd) → ((caller : ℕ) → Contains (callers_named (end ∷ ends)) caller → P caller) → (caller : ℕ) → Contains (callers_named ends) caller → P caller
later-named P (Read own items) ends all caller at = all caller (Contains-later own (callers_named ends) caller at)
later-named P (Refused own code) ends all caller at = all caller (Contains-later own (callers_named ends) caller at)
later-named P (Stopped own done cause) ends all caller at = all caller (Contains-later own (callers_named ends) caller at)
later-named P NotStarted ends all caller at = all caller at

pub EachEndsAs-later : (format : Format) (limit : ℕ) (old new : List Entry) (files : List Input) (ends : List FileEnd) → length old ≤ length new → ((caller : ℕ) → Contains (callers_named ends) caller → operations new caller ≡ operations old caller) →
    EachEndsAs format old limit files ends → EachEndsAs format new limit files ends
EachEndsAs-later format limit old new [] [] grows same ended = tt
EachEndsAs-later format limit old new [] (end ∷ ends) grows same ended = ended
EachEndsAs-later format limit old new (file ∷ files) [] grows same ended = ended
EachEndsAs-later format limit old new (file ∷ files) (end ∷ ends) grows same ended = (
  EndsAs-later limit old new (doc format file.bytes.items) end grows (first-named (λ c. operations new c ≡ operations old c) end ends same) ended.0,
  EachEndsAs-later format limit old new files ends grows (later-named (λ c. operations new c ≡ operations old c) end ends same) ended.1,
)

-- the queries that were asked stay so in a longer journal that has the same operations of caller 0
pub IsAsked-later : (limit : ℕ) (old new : List Entry) (asks : List Query) (asked : Asked) → length old ≤ length new → operations new 0 ≡ operations old 0 → IsAsked old limit asks asked → IsAsked new limit asks asked
IsAsked-later limit old new asks asked grows same is = record {
  recorded = same ∙ is.recorded;
  stop = stop asked.cause is.stop;
}
  where
    stop : (cause : Option Cause) → StopsAsking old limit asks asked.done cause → StopsAsking new limit asks asked.done cause
    stop None is = is
    stop (Some cause) is = (is.0, cause-later limit old new cause grows is.1)

callers_named-end : (end : FileEnd) (caller : ℕ) → caller_named end ≡ Some caller → callers_named (end ∷ []) ≡ caller ∷ []
callers_named-end (Read own items) caller at = let same : own ≡ caller = cc in ap (λ k. k ∷ []) same
callers_named-end (Refused own code) caller at = let same : own ≡ caller = cc in ap (λ k. k ∷ []) same
callers_named-end (Stopped own done cause) caller at = let same : own ≡ caller = cc in ap (λ k. k ∷ []) same
callers_named-end NotStarted caller at = absurd cc

-- what a seat that owns 0 has asked, before it meets anybody
pub HasMet-asked : (format : Format) (share : ShareId) (asks : List Query) (done : ℕ) (cause : Option Cause) (asked : Asked) (seat : Seated) → HasRecorded share (asking (take done asks)) seat → seat.number ≡ 0 → asked ≡ record { done = done; cause = cause } →
    StopsAsking seat.seen share.terms.limit asks done cause → HasMet format share [] asks [] asked seat
HasMet-asked format share asks done cause asked seat has first is stop = subst (λ a. HasMet format share [] asks [] a seat) (sym is) (record {
  sound = has.sound;
  owned = has.alone ∙ ap (λ n. n ∷ []) first;
  ended = tt;
  queries = record { recorded = ap (operations seat.seen) (sym first) ∙ has.recorded; stop = stop };
})

module _ (format : Format) (share : ShareId) (files : List Input) (asks : List Query) (ends : List FileEnd) (asked : Asked) (main : Seated) (met : HasMet format share files asks ends asked main) (file : Input) where
  -- one worker more is met
  pub HasMet-joined : (end : FileEnd) (worker after : Seated) → IsWorked share (doc format file.bytes.items) end worker → IsSeatOf share after → Gathers main worker after → HasMet format share (files ++ file ∷ []) asks (ends ++ end ∷ []) asked after
  HasMet-joined end worker after worked seat gathers = record {
    sound = seat;
    owned = gathers.owned
        ∙ ap₂ (λ (a b : List ℕ). a ++ b) met.owned worked.alone
        ∙ ap (λ l. 0 ∷ (callers_named ends ++ l)) (sym (callers_named-end end worker.number worked.named))
        ∙ ap (λ l. 0 ∷ l) (sym (filter_map-append caller_named ends (end ∷ [])));
    ended = all_zipped_more (λ (f : Input) (e : FileEnd). EndsAs after.seen share.terms.limit (doc format f.bytes.items) e) files ends file end
        (EachEndsAs-later format share.terms.limit main.seen after.seen files ends grows (λ c at. kept c (Contains-later 0 (callers_named ends) c at)) met.ended)
        (EndsAs-later share.terms.limit worker.seen after.seen (doc format file.bytes.items) end (BeginsWith-length after.seen worker.seen gathers.seen_other.begins) of_worker worked.ended);
    queries = IsAsked-later share.terms.limit main.seen after.seen asks asked grows (kept 0 (Contains-here 0 (callers_named ends))) met.queries;
  }
    where
      grows : length main.seen ≤ length after.seen
      grows = BeginsWith-length after.seen main.seen gathers.seen.begins

      kept : (c : ℕ) → Contains (0 ∷ callers_named ends) c → operations after.seen c ≡ operations main.seen c
      kept c at = ap (map (λ (e : Entry). e.op)) (gathers.seen.lists c (subst (λ l. Contains l c) (sym met.owned) at))

      of_worker : (c : ℕ) → caller_named end ≡ Some c → operations after.seen c ≡ operations worker.seen c
      of_worker c at =
          let same : Some worker.number ≡ Some c = sym worked.named ∙ at in
          let own : worker.number ≡ c = cc in
          ap (map (λ (e : Entry). e.op)) (gathers.seen_other.lists c (subst (λ l. Contains l c) (sym worked.alone) (subst (λ n. Contains (worker.number ∷ []) n) own (Contains-here worker.number []))))

  -- one file was not started
  pub HasMet-not_started : HasMet format share (files ++ file ∷ []) asks (ends ++ NotStarted ∷ []) asked main
  HasMet-not_started = record {
    sound = met.sound;
    owned = met.owned ∙ ap (λ l. 0 ∷ l) (sym (filter_map-append caller_named ends (NotStarted ∷ []) ∙ append-nil (callers_named ends)));
    ended = all_zipped_more (λ (f : Input) (e : FileEnd). EndsAs main.seen share.terms.limit (doc format f.bytes.items) e) files ends file NotStarted met.ended tt;
    queries = met.queries;
  }
