use Rattle.std.proofs.Common.{rules, sym}
use Rattle.span_keyed_tracks.proofs.KeyChange.{ChangesAt-found, ChangesAt-first}
use Rattle.span_keyed_tracks.proofs.key_change.change_at.Goals as goal

pub returns-in-Some : goal.returns-in-Some
returns-in-Some g c =
    ChangesAt-found g.met.K.Ord.total c.args.none _ c.args.kept.now.entries _ c.args.key.now c.change.new.arg2 c.in-Some.value.now c.change.result
    c.in-Some.ensures.ordered (sym c.in-Some.ensures.value) (c.get_mut.follows.holds c.change.new.arg2).0 (search rules) c.requires.stays

pub returns-in_err-answer : goal.returns-in_err-answer
returns-in_err-answer g c =
    ChangesAt-first g.met.K.Ord.total c.args.none _ c.args.kept.now.entries _ c.args.key.now c.change-2.new.arg2 c.change-2.result _
    c.in_default.ensures.ordered (sym c.in_default.ensures.value) (search rules) (search rules) (search rules) (search rules) (search rules)

pub returns-in_default-copied : goal.returns-in_default-copied
returns-in_default-copied g c =
    ChangesAt-first g.met.K.Ord.total c.args.none _ c.args.kept.now.entries _ c.args.key.now c.change-2.new.arg2 c.change-2.result _
    c.in_default.ensures.ordered (sym c.in_default.ensures.value) (search rules) (search rules) (search rules) (search rules) (search rules)

pub returns-in-Ok-insert : goal.returns-in-Ok-insert
returns-in-Ok-insert g c =
    ChangesAt-first g.met.K.Ord.total c.args.none _ c.args.kept.now.entries _ c.args.key.now c.change-2.new.arg2 c.change-2.result _
    c.in_default.ensures.ordered (sym c.in_default.ensures.value) (search rules) (search rules) (search rules) (search rules) (search rules)

pub returns : goal.returns
returns g c =
    ChangesAt-first g.met.K.Ord.total c.args.none _ c.args.kept.now.entries _ c.args.key.now c.change-2.new.arg2 c.change-2.result _
    c.in_default.ensures.ordered (sym c.in_default.ensures.value) (search rules) (search rules) (search rules) (search rules) (search rules)
