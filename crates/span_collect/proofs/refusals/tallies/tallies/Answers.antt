use Rattle.std.proofs.{Common.{◌≤◌, ◌<◌, ◌++◌, ◌∷◌, [], length, take, sym, ap, ◌∙◌, arith}, lemmas.{List.{length-take-le, take_all, take_more}, Option.get_or_from_slice_get}}
use Rattle.span_collect.specs.Refusals.Tallies.{tallies_of}
use Rattle.span_collect.proofs.{RefusalLemmas.Tallying.slice_get-within, refusals.tallies.tallies.Goals.{in-Some+in_ok-add, in_default}}
use Rattle.span_collect.proofs.refusals.tallies.tallies.Goals as goal

pub add-requires : goal.add-requires
add-requires c =
    let journal = c.args.ledger.now.journal in
    let position = c.loop-position.position in
    let few : position ≤ length journal = omega (arith, c.loop-position-test.true, c.len-position-end.ensures.length) in
    (take position journal, c.loop-position.invariant, omega (arith, length-take-le position journal few, c.loop-position-test.true, c.len-position-end.type_inv))

-- the next entry was added; there is one
pub loop-position-preserved : goal.loop-position-preserved
loop-position-preserved c =
    let journal = c.args.ledger.now.journal in
    let position = c.loop-position.position in
    let within : position < length journal = omega (arith, c.loop-position-test.true, c.len-position-end.ensures.length) in
    elim c.match-entry.branch [
      | in-Some+in_ok-add w ↦ ap (λ m. m.entries) w.tallies-is ∙ w.in_ok-add.ensures (take position journal) c.loop-position.invariant
          ∙ ap tallies_of (sym (take_more journal position w.in-Some.entry.now within ∙ ap (λ entry. take position journal ++ entry ∷ []) (get_or_from_slice_get journal position w.in-Some.entry.now w.in-Some.entry.now (sym w.in-Some.ensures))))
      | in_default w ↦ absurd (slice_get-within journal position within w.in_default.ensures)
    ]

pub returns : goal.returns
returns c =
    let journal = c.args.ledger.now.journal in
    c.loop-position.invariant ∙ ap tallies_of (take_all c.loop-position.position journal (omega (arith, c.loop-position-test.false, c.len-position-end.ensures.length)))
