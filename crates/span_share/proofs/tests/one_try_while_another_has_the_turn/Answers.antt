use Rattle.std.proofs.Common.{◌∙◌, arith}
use Rattle.span_share.specs.{Entries.caller_of, Seats.{IsLegalOn, IsBook}}
use Rattle.span_share.proofs.{Telling.{HasTurn-takes, at_table}, Turning.returns}
use Rattle.span_share.proofs.tests.one_try_while_another_has_the_turn.Goals as goal

pub fetch_sub-requires : goal.fetch_sub-requires
fetch_sub-requires g c =
    let turn = HasTurn-takes _ _ c.first.invariant c.take_turn.ensures.taken in (
      c.take_turn.ensures.same.0 ∙ at_table _ c.first.inside.token.me.0 _ _ _ _ c.first.view_is c.requires.0.of_share c.share.view_is,
      omega (arith, c.share.invariant.0),
      returns caller_of IsLegalOn IsBook _ _ _ c.take_turn.new.token.me turn.slot turn.holds turn.turn turn.live turn.book,
    )
