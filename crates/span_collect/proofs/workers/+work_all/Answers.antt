use Rattle.std.proofs.{Common.{◌≡◌, List, [], ◌∷◌, length, refl, arith}, lemmas.Slice.Zip.AllZip-long}
use Rattle.span_collect.specs.declared.files.Input.{Input}
use Rattle.span_collect.proofs.{Meeting.{HasMet-joined, HasMet-not_started}, workers.+work_all.Goals.{in-Some-finish, in-None}}
use Rattle.span_collect.proofs.workers.+work_all.Goals as goal

-- the other files have an end each, and there is room for one more
pub push_reserved-requires : goal.push_reserved-requires
push_reserved-requires g t c =
    let ends = c.work_all-asked.new.ends in
    let met = c.work_all-asked.ensures.met in
    omega (arith, AllZip-long _ _ ends.items met.ended, ends.ok.0, c.work_all-asked.ensures.room, c.requires.room, c.in-Some.ensures.cases.1)

-- the worker is met, or there was none
pub returns-clause-met : goal.returns-clause-met
returns-clause-met g t c =
    let share = c.args.share.now in
    let others = c.in-Some.others.now in
    let asks = c.args.asks.now in
    let ends = c.work_all-asked.new.ends.items in
    let asked = c.work_all-asked.result in
    let main = c.work_all-asked.new.main in
    let met = c.work_all-asked.ensures.met in
    let file = c.in-Some.file.now in
    let split = c.in-Some.ensures.cases.0 in
    elim c.match-finish.branch [
      | in-Some-finish w ↦
          rw (w.main-is, c.push_reserved.ensures.items, w.end-is, split) (HasMet-joined c.args.workplace.now.reading.format share others asks ends asked main met file w.in-Some-finish.end w.in-Some-finish.seat w.meet.new.seat w.in-Some-finish.ensures w.meet.ensures.seat w.meet.ensures.gathered)
      | in-None w ↦
          rw (w.main-is, c.push_reserved.ensures.items, w.end-is, split) (HasMet-not_started c.args.workplace.now.reading.format share others asks ends asked main met file)
    ]

no_files : (files : List Input) → length files ≡ 0 → files ≡ []
no_files [] none = refl
no_files (file ∷ files) none = absurd (omega arith)

-- the main seat has met nobody yet, and asks
pub returns-in_default-clause-met : goal.returns-in_default-clause-met
returns-in_default-clause-met g t c =
    rw (no_files c.args.files.now c.in_default.ensures.cases, c.requires.none) (c.ask_all.ensures c.args.workplace.now.reading.format)
