use Rattle.std.specs.Cmp.Lexicographic.{nat_list_eq_equiv}
use Rattle.std.proofs.Common.{◌<◌, length, rules, sym, ap, ◌∙◌, ltb-true}
use Rattle.span_names.specs.{same_text}
use Rattle.span_names.proofs.Places.{position-IsDistinct}
use Rattle.span_names.proofs.names.Names.has_at.Goals as goal

pub returns-in-Some : goal.returns-in-Some
returns-in-Some c = λ is.
    let texts = c.as_slice.result.now in
    let within : c.args.number < length texts = ltb-true _ _ (sym c.in-Some.ensures.lookup.0) in
    let same = ap (λ found. same_text found c.args.text.now) (sym c.in-Some.ensures.lookup.1) ∙ sym c.eq.ensures ∙ is in
    let placed = position-IsDistinct same_text nat_list_eq_equiv texts c.args.number _ c.args.text.now (rw c.as_slice.ensures.keys c.as_slice.ensures.unique) within same in
    search rules
