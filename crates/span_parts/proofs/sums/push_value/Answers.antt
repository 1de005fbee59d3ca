use Rattle.std.specs.List.{cons_option, slice_get}
use Rattle.std.proofs.{Common.{[], ◌++◌, sym, ap, ◌∙◌, length, append-nil}, lemmas.{Bool.ltb-false, Option.slice_get_past}}
use Rattle.span_parts.proofs.sums.push_value.Goals as goal

pub returns-in-None : goal.returns-in-None
returns-in-None c =
    let past = ltb-false c.args.place (length c.values.result.now) (sym c.in-None.ensures.lookup.0) in
    let none = ap (λ l. slice_get l c.args.place) (sym c.values.ensures) ∙ slice_get_past c.values.result.now c.args.place past in
    sym (ap (λ found. c.args.values.now.items ++ cons_option found []) none ∙ append-nil c.args.values.now.items)
