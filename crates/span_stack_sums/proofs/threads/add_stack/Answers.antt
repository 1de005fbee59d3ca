use Rattle.std.proofs.Common.{[], ◌∷◌, Bor, map, refl, subst, arith}
use Rattle.span_stack_sums.specs.{TableKey, folded_if, Kept.TakesSums, Stacks.{keyed_stack, ticks_alone}}
use Rattle.span_stack_sums.proofs.Taking.{Exceeds-full, TakesSums-timed, TakesSums-untimed}
use Rattle.span_stack_sums.proofs.threads.add_stack.Goals as goal

pub returns-then-time-eq0-clause-rows : goal.returns-then-time-eq0-clause-rows
returns-then-time-eq0-clause-rows c =
    let owner = c.args.owner.now in
    TakesSums-untimed owner.process owner.thread (map (λ (label : Bor _). label.now) c.args.stack.now) c.args.time c.args.rows.now c.args.rows.now (omega (arith, c.if-time-eq0.true)) refl

-- its ticks are added under its key
pub returns-clause-rows : goal.returns-clause-rows
returns-clause-rows c =
    let owner = c.args.owner.now in
    let stack = map (λ (label : Bor _). label.now) c.args.stack.now in
    TakesSums-timed owner.process owner.thread stack c.args.time c.args.rows.now c.put.new.self (omega (arith, c.if-time-eq0.false))
    (subst (λ (key : TableKey). TakesSums c.args.rows.now c.put.new.self (record { key = key; step = ticks_alone c.args.time } ∷ [])) c.in_ok-key_of.ensures c.in_ok-put.ensures)

pub returns-then-are_full-clause-full : goal.returns-then-are_full-clause-full
returns-then-are_full-clause-full c = λ large.
    let owner = c.args.owner.now in
    let stack = map (λ (label : Bor _). label.now) c.args.stack.now in
    Exceeds-full c.args.rows.now c.put.new.self (map (keyed_stack owner.process owner.thread) (folded_if stack c.args.time))
    (TakesSums-timed owner.process owner.thread stack c.args.time c.args.rows.now c.put.new.self (omega (arith, c.if-time-eq0.false))
    (subst (λ (key : TableKey). TakesSums c.args.rows.now c.put.new.self (record { key = key; step = ticks_alone c.args.time } ∷ [])) c.in_ok-key_of.ensures c.in_ok-put.ensures))
    (c.are_full.ensures c.if-are_full.true)
