use Rattle.std.proofs.Common.{◌≡◌, ◌++◌, Some, string_bytes, flat_map, sym, ap, ◌∙◌, append-nil}
use Rattle.span_keyed_tracks.proofs.Results.{on_ok-map}
use Rattle.span_collect.specs.{Account.caller_named, Refusals.{refused_by, Tallies.Tallied, Text.{caller_lines, refused_line}}}
use Rattle.span_collect.proofs.RefusalLemmas.Tallying.{answers_of-absent, tally_of-answers}
use Rattle.span_collect.proofs.refusals.text.put_file.Goals as goal

pub returns-in-Some-get : goal.returns-in-Some-get
returns-in-Some-get c =
    let before = string_bytes c.args.out.now in
    let named : Some c.in-Some.caller ≡ caller_named c.args.end = sym c.in-Some.is ∙ c.caller.ensures in
    on_ok-map c.put_refused.result _ _
    (λ put journal stands. put
    ∙ ap (λ refused. before ++ flat_map (refused_line c.args.name.now) refused) (ap (λ (t : Tallied). t.refused) (tally_of-answers journal c.args.tallies.now.entries stands c.in-Some.caller c.in-Some-get.tally.now (sym c.in-Some-get.ensures.value)))
    ∙ ap (λ caller. before ++ caller_lines journal c.args.name.now caller) named)
    c.put_refused.ensures

pub returns-in-None : goal.returns-in-None
returns-in-None c = λ journal stands.
    let before = string_bytes c.args.out.now in
    let named : Some c.in-Some.caller ≡ caller_named c.args.end = sym c.in-Some.is ∙ c.caller.ensures in
    sym (append-nil before)
    ∙ ap (λ answers. before ++ flat_map (refused_line c.args.name.now) (refused_by answers)) (sym (answers_of-absent journal c.args.tallies.now.entries stands c.in-Some.caller (sym c.in-None.ensures.value)))
    ∙ ap (λ caller. before ++ caller_lines journal c.args.name.now caller) named
