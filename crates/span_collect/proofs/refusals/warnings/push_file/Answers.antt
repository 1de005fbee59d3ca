use Rattle.std.proofs.Common.{◌≡◌, ◌++◌, Some, sym, ap, ◌∙◌, append-nil}
use Rattle.span_keyed_tracks.proofs.Results.{on_ok-map}
use Rattle.span_collect.specs.{Account.caller_named, Refusals.{counts_in, refused_by, Tallies.Tallied, Warnings.{caller_warnings, warning_in}}}
use Rattle.span_collect.proofs.RefusalLemmas.Tallying.{answers_of-absent, tally_of-answers}
use Rattle.span_collect.proofs.refusals.warnings.push_file.Goals as goal

pub returns-in-Some-get : goal.returns-in-Some-get
returns-in-Some-get c =
    let before = c.args.warnings.now.items in
    let name = c.args.name.now in
    let named : Some c.in-Some.caller ≡ caller_named c.args.end = sym c.in-Some.is ∙ c.caller.ensures in
    on_ok-map c.push_tally.result _ _
    (λ pushed journal stands. pushed
    ∙ ap (λ (tally : Tallied). before ++ warning_in name tally.counts tally.refused) (tally_of-answers journal c.args.tallies.now.entries stands c.in-Some.caller c.in-Some-get.tally.now (sym c.in-Some-get.ensures.value))
    ∙ ap (λ caller. before ++ caller_warnings journal name caller) named)
    c.push_tally.ensures

pub returns-in-None : goal.returns-in-None
returns-in-None c = λ journal stands.
    let before = c.args.warnings.now.items in
    let name = c.args.name.now in
    let named : Some c.in-Some.caller ≡ caller_named c.args.end = sym c.in-Some.is ∙ c.caller.ensures in
    sym (append-nil before)
    ∙ ap (λ answers. before ++ warning_in name (counts_in answers) (refused_by answers)) (sym (answers_of-absent journal c.args.tallies.now.entries stands c.in-Some.caller (sym c.in-None.ensures.value)))
    ∙ ap (λ caller. before ++ caller_warnings journal name caller) named
