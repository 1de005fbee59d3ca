use Rattle.std.proofs.{Common.{◌≡◌, ◌-◌, length, append_assoc, arith}, lemmas.Grind.common_steps}
use Rattle.span_table_text.proofs.lines.put_right.Goals as goal

pub returns : goal.returns
returns c =
    let blanks : c.loop.counter - length c.args.text.now ≡ c.args.width - length c.args.text.now = omega (arith, c.loop.invariant.within) in
    grind (arith, common_steps, append_assoc)
