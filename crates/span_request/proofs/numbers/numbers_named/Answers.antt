use Rattle.std.proofs.Common.{Bor, ◌≡◌, ◌∙◌, [], None, Some, sym}
use Rattle.span_request.specs.{Bytes}
use Rattle.span_request.proofs.NumberNames.{AreCalled-at, AreCalled-next}
use Rattle.span_request.proofs.numbers.numbers_named.Goals as goal

pub returns-in_default : goal.returns-in_default
returns-in_default c = λ numbers are.
    let none : Bor Bytes = record { ref_ptr = (0, 0); now = [] } in
    let at = AreCalled-at c.args.names.now numbers c.loop-name.name-index none c.loop-name-test.true are in
    let bad : None ≡ Some at.0 = c.in_default.ensures ∙ at.1 in
    absurd cc

pub loop-name-preserved : goal.loop-name-preserved
loop-name-preserved c =
    let none : Bor Bytes = record { ref_ptr = (0, 0); now = [] } in
    AreCalled-next c.args.names.now c.loop-name.name-index none c.loop-name.numbers.items c.push.new.self.items c.in-Some.number
    c.loop-name-test.true c.loop-name.invariant (sym c.in-Some.ensures) c.in_ok-push.ensures.items
