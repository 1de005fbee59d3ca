use Rattle.std.proofs.Common.{◌+◌, take, Some, None, refl, ap, sym, subst, ◌∙◌, arith}
use Rattle.span_collect.specs.{Ask, Memory, Account.asking, Work.HasRecorded}
use Rattle.span_collect.proofs.{Meeting.{BeginsWith-length, HasMet-asked}, Recording.{HasRecorded-next, HasRecorded-keeps, IsCause-at, asked-le, asking-next}}
use Rattle.span_collect.proofs.queries.ask_all.Goals as goal

pub loop-query-init : goal.loop-query-init
loop-query-init g c = record { recorded = c.requires.new; first = c.requires.first; done = refl }

-- no memory for a copy
pub returns-in_default : goal.returns-in_default
returns-in_default g c =
    let invariant = c.loop-query.invariant in
    let asks = c.args.asks.now in
    λ format. HasMet-asked format c.args.share.now asks c.loop-query.done (Some Memory) _ c.loop-query.seat
    (subst (λ k. HasRecorded c.args.share.now (asking (take k asks)) c.loop-query.seat) (sym invariant.done) invariant.recorded) invariant.first refl
    (omega (arith, invariant.done, c.loop-query-test.true), tt)

pub ask-requires : goal.ask-requires
ask-requires g c = c.loop-query.invariant.recorded.sound

-- this query was not taken
pub returns-in-Err : goal.returns-in-Err
returns-in-Err g c =
    let invariant = c.loop-query.invariant in
    let asks = c.args.asks.now in
    let told = c.in-Err.ensures.told in
    let kept = HasRecorded-keeps c.args.share.now (asking (take c.loop-query.query-index asks)) c.loop-query.seat c.ask.new.seat invariant.recorded told.seat told.kept in
    λ format. HasMet-asked format c.args.share.now asks c.loop-query.done (Some c.in-Err.back.cause) _ c.ask.new.seat
    (subst (λ k. HasRecorded c.args.share.now (asking (take k asks)) c.ask.new.seat) (sym invariant.done) kept) (told.kept.number ∙ invariant.first) refl
    (omega (arith, invariant.done, c.loop-query-test.true), IsCause-at c.args.share.now.terms.limit c.ask.new.seat.seen c.in-Err.back.cause c.in-Err.ensures.cause told.cause)

-- the queries so far stand before this one, whose place is below the limit
pub overflow_add-done : goal.overflow_add-done
overflow_add-done g c =
    let invariant = c.loop-query.invariant in
    let told = c.in_default-ask.ensures.told in
    omega (
      arith,
      invariant.done,
      asked-le c.args.share.now c.args.asks.now c.loop-query.query-index c.loop-query.seat invariant.recorded (omega (arith, c.loop-query-test.true)),
      BeginsWith-length told.recorded.earlier c.loop-query.seat.seen told.recorded.begins,
      told.recorded.place,
      told.within,
      c.requires.small,
    )

-- the query was asked
pub loop-query-preserved : goal.loop-query-preserved
loop-query-preserved g c =
    let invariant = c.loop-query.invariant in
    let asks = c.args.asks.now in
    let index = c.loop-query.query-index in
    let told = c.in_default-ask.ensures.told in
    let next = HasRecorded-next c.args.share.now (asking (take index asks)) (Ask c.in-Ok.query) c.in_default-ask.field-0 c.loop-query.seat c.ask.new.seat invariant.recorded told.seat told.recorded in
    record {
      recorded = subst (λ ops. HasRecorded c.args.share.now ops c.ask.new.seat) (asking-next asks index c.in-Ok.query c.query-item.result c.loop-query-test.true c.in-Ok.ensures c.query-item.is) next;
      first = told.recorded.number ∙ invariant.first;
      done = ap (λ n. n + 1) invariant.done;
    }

-- all queries were asked
pub returns : goal.returns
returns g c =
    let invariant = c.loop-query.invariant in
    let asks = c.args.asks.now in
    λ format. HasMet-asked format c.args.share.now asks c.loop-query.done None _ c.loop-query.seat
    (subst (λ k. HasRecorded c.args.share.now (asking (take k asks)) c.loop-query.seat) (sym invariant.done) invariant.recorded) invariant.first refl
    (omega (arith, invariant.done, c.loop-query-test.false, c.loop-query.auto.query-index-end))
