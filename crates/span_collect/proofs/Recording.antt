-- What one seat has recorded, and how its file ended.
use Rattle.std.specs.{Prelude.{Result, IfOk, IfSome}, Result.result_ok}
use Rattle.std.proofs.{Common.{◌≡◌, ℕ, ◌+◌, ◌<◌, ◌≤◌, ◌⊎◌, List, [], ◌∷◌, ◌++◌, length, map, take, get_or, eqb, Bool, Some, Ok, Err, sym, ap, ap₂, ◌∙◌, append-nil, length-append, arith, inl, inr}, Math.Seq.take-append_seam, lemmas.List.{map-append, length-map, take_more, length-take-le, Sums.{length-filter, count_by-le-length}}}
use Rattle.span_collect.specs.{Item, Entry, Op, One, Ask, Query, Cause, Memory, Full, Busy, Receipt, ShareError, entry, ShareId, Seated, IsSeatOf, IsCauseAt, Keeps, Records, Enrols, mine, Account.{IsCause, operations, telling, asking}, Work.{HasRecorded, IsNewSeat, IsWorked}, declared.files.FileEnd.TheVariants.{Read, Stopped}}

-- a seat that was enrolled has recorded nothing
pub HasRecorded-enrolled : (share : ShareId) (old new : Seated) → IsSeatOf share new → Enrols old new → IsNewSeat share new
HasRecorded-enrolled share old new seat enrols = record {
  sound = seat;
  alone = enrols.owned;
  recorded = ap (map (λ (e : Entry). e.op)) enrols.empty;
}

-- the same of a seat that enrolling may give
pub enrolled : (share : ShareId) (old : Seated) (result : Result Seated ShareError) → IfOk result (IsSeatOf share) → IfOk result (Enrols old) → IfSome (result_ok result) (IsNewSeat share)
enrolled share old (Ok new) seat enrols = HasRecorded-enrolled share old new seat enrols
enrolled share old (Err error) seat enrols = tt

-- one operation more is recorded
pub HasRecorded-next : (share : ShareId) (ops : List Op) (op : Op) (receipt : Receipt) (old new : Seated) → HasRecorded share ops old → IsSeatOf share new → Records old new op receipt → HasRecorded share (ops ++ op ∷ []) new
HasRecorded-next share ops op receipt old new has seat records = record {
  sound = seat;
  alone = records.owned ∙ has.alone ∙ ap (λ n. n ∷ []) (sym records.number);
  recorded = ap (operations new.seen) records.number
      ∙ ap (map (λ (e : Entry). e.op)) records.list
      ∙ map-append (λ (e : Entry). e.op) (mine old old.number) (entry old.number op receipt.answer ∷ [])
      ∙ ap (λ (os : List Op). os ++ op ∷ []) has.recorded;
}

-- a look, or a refusal, records nothing
pub HasRecorded-keeps : (share : ShareId) (ops : List Op) (old new : Seated) → HasRecorded share ops old → IsSeatOf share new → Keeps old new → HasRecorded share ops new
HasRecorded-keeps share ops old new has seat keeps = record {
  sound = seat;
  alone = keeps.owned ∙ has.alone ∙ ap (λ n. n ∷ []) (sym keeps.number);
  recorded = ap (operations new.seen) keeps.number
      ∙ ap (map (λ (e : Entry). e.op)) (keeps.lists old.number has.sound.own)
      ∙ has.recorded;
}

-- why an operation was not taken
pub IsCause-at : (limit : ℕ) (seen : List Entry) (cause : Cause) → (cause ≡ Full) ⊎ (cause ≡ Memory) → IsCauseAt limit (length seen) cause → IsCause seen limit cause
IsCause-at limit seen Memory either at = tt
IsCause-at limit seen Full either at = omega (arith, at)
IsCause-at limit seen (Busy front) (inl same) at = absurd cc
IsCause-at limit seen (Busy front) (inr same) at = absurd cc

-- those that were told are the first
told-first : {A : Type 0} (told rest items : List A) (done : ℕ) → told ++ rest ≡ items → done ≡ length told → told ≡ take done items
told-first told rest items done all counted = sym (take-append_seam told rest) ∙ ap₂ (λ n xs. take n xs) (sym counted) all

module _ (share : ShareId) (caller : ℕ) (seat : Seated) (named : caller ≡ seat.number) where
  -- all items were told
  pub IsWorked-read : (items told : List Item) (done : ℕ) → HasRecorded share (telling told) seat → told ++ [] ≡ items → done ≡ length told → IsWorked share (Ok items) (Read caller done) seat
  IsWorked-read items told done has all counted = record {
    sound = has.sound;
    alone = has.alone;
    named = ap (λ n. Some n) named;
    ended = (counted ∙ ap length same, ap (operations seat.seen) named ∙ has.recorded ∙ ap telling same);
  }
    where
      same : told ≡ items
      same = sym (append-nil told) ∙ all

  -- the first items were told, and the next one was not taken
  pub IsWorked-stopped : (items told rest : List Item) (next : Item) (done : ℕ) (cause : Cause) → HasRecorded share (telling told) seat → told ++ next ∷ rest ≡ items → done ≡ length told →
      (cause ≡ Full) ⊎ (cause ≡ Memory) → IsCauseAt share.terms.limit (length seat.seen) cause → IsWorked share (Ok items) (Stopped caller done cause) seat
  IsWorked-stopped items told rest next done cause has all counted either at = record {
    sound = has.sound;
    alone = has.alone;
    named = ap (λ n. Some n) named;
    ended = (
      inl (
        omega (arith, counted, ap length all, length-append told (next ∷ rest)),
        ap (operations seat.seen) named ∙ has.recorded ∙ ap telling (told-first told (next ∷ rest) items done all counted),
      ),
      IsCause-at share.terms.limit seat.seen cause either at,
    );
  }

-- one query more was asked
pub asking-next : (asks : List Query) (i : ℕ) (query found : Query) → i < length asks → query ≡ found → found ≡ get_or asks i found → asking (take i asks) ++ Ask query ∷ [] ≡ asking (take (i + 1) asks)
asking-next asks i query found within same at =
    ap (λ (q : Query). asking (take i asks) ++ Ask q ∷ []) (same ∙ at)
    ∙ sym (ap asking (take_more asks i found within) ∙ map-append (λ (q : Query). Ask q) (take i asks) (get_or asks i found ∷ []))

-- as many entries as queries were seen
pub asked-le : (share : ShareId) (asks : List Query) (i : ℕ) (seat : Seated) → HasRecorded share (asking (take i asks)) seat → i ≤ length asks → i ≤ length seat.seen
asked-le share asks i seat has within =
    let own : Entry → Bool = λ e. eqb e.caller seat.number in
    omega (
      arith,
      length-take-le i asks within,
      length-map (take i asks) (λ (q : Query). Ask q),
      ap length has.recorded,
      length-map (mine seat seat.number) (λ (e : Entry). e.op),
      length-filter own seat.seen,
      count_by-le-length own seat.seen,
    )

-- one item more was told
pub telling-next : (told : List Item) (next : Item) → telling told ++ One next ∷ [] ≡ telling (told ++ next ∷ [])
telling-next told next = sym (map-append (λ (i : Item). One i) told (next ∷ []))
