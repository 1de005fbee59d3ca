-- What the seats of workers and the main seat stand for.
use Rattle.std.specs.{Global.Vec, Prelude.{◌≡◌, ◌^◌, ◌<◌, ◌≤◌, List, [], ◌∷◌, length, All, Option, Some, IfSome, vec_capacity}}
use Rattle.span_collect.specs.{Format, Op, Query, ShareId, Seated, IsSeatOf, Account.{Document, EndsAs, EachEndsAs, IsAsked, caller_named, callers_named, operations}, declared.{files.{FileEnd.FileEnd, Input.Input}, queries.Asked.Asked, workers.Worker.{Worker, TheVariants.{Thread, Here}}}}

-- a seat that owns one number, under which just these operations are recorded
pub record HasRecorded (share : ShareId) (ops : List Op) (seat : Seated) : Type 0 where
  pub sound : IsSeatOf share seat
  pub alone : seat.owned ≡ seat.number ∷ []
  pub recorded : operations seat.seen seat.number ≡ ops

abbrev pub IsNewSeat : ShareId → Seated → Type 0
IsNewSeat share seat = HasRecorded share [] seat

-- What is needed to start the workers of at most 64 files: the main seat and, for each file, perhaps a seat have recorded nothing; no
-- file has an end yet, and there is room for that of each.
pub record IsReadyToWork (share : ShareId) (files : List Input) (seats : List (Option Seated)) (main : Seated) (ends : Vec FileEnd) : Type 0 where
  pub small : share.terms.limit < 2 ^ 32
  pub fresh : IsNewSeat share main
  pub first : main.number ≡ 0
  pub count : length seats ≡ length files
  pub each_fresh : All (λ seat. IfSome seat (IsNewSeat share)) seats
  pub few : length files ≤ 64
  pub none : ends.items ≡ []
  pub room : length files ≤ vec_capacity ends

-- the seat of a worker whose file gave this document and ended like this
pub record IsWorked (share : ShareId) (document : Document) (end : FileEnd) (seat : Seated) : Type 0 where
  pub sound : IsSeatOf share seat
  pub alone : seat.owned ≡ seat.number ∷ []
  pub named : caller_named end ≡ Some seat.number
  pub ended : EndsAs seat.seen share.terms.limit document end

-- the worker of a file: a thread that promises to have worked on it, or a new seat
abbrev pub IsWorkerOf : Format → ShareId → Input → Worker → Type 0
IsWorkerOf format share file (Thread handle) = IfSome handle (λ handle. (handle.promise.format ≡ format) × (handle.promise.share.value ≡ share) × (handle.promise.file.value ≡ file))
IsWorkerOf format share file (Here seat) = IfSome seat (IsNewSeat share)

-- a seat that has asked the queries and has met the workers of these files, whose numbers it owns in the files' order
pub record HasMet (format : Format) (share : ShareId) (files : List Input) (asks : List Query) (ends : List FileEnd) (asked : Asked) (seat : Seated) : Type 0 where
  pub sound : IsSeatOf share seat
  pub owned : seat.owned ≡ 0 ∷ callers_named ends
  pub ended : EachEndsAs format seat.seen share.terms.limit files ends
  pub queries : IsAsked seat.seen share.terms.limit asks asked
