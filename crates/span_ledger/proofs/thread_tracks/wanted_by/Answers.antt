use Rattle.std.proofs.Common.{rules, ◌≡◌, true, false, length, ◌==◌, sym, ◌∙◌}
use Rattle.span_ledger.proofs.WantedNames.{HasWanted-number}
use Rattle.span_ledger.proofs.thread_tracks.wanted_by.Goals as goal

pub returns-in-Some : goal.returns-in-Some
returns-in-Some c =
    let event = c.args.event.now in
    let strict : c.args.strict ≡ true = search rules in
    let named : (length event.name == 0) ≡ false = search rules in
    HasWanted-number event.phase c.args.names.now c.args.strict event c.in-Some.number strict named (sym c.find.ensures ∙ c.in-Some.is)
