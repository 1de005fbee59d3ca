use Rattle.std.proofs.{Common.{◌≡◌, get_or, sym, ap, ◌∙◌, arith}, lemmas.Str.lead_after_ascii}
use Rattle.span_read.proofs.cuts.cut_at.Goals as goal

pub range_from-rest-requires : goal.range_from-rest-requires
range_from-rest-requires c = λ some.
    let comma : get_or c.args.text.now c.args.place 0 ≡ 44 = ap (λ bytes. get_or bytes c.args.place 0) (sym c.as_bytes-bytes.ensures.value) ∙ c.if-bytes-place-ne44.false in
    (omega (arith, c.requires), λ within high. lead_after_ascii c.args.text.now c.args.place c.utf8.text (omega (arith, comma)) within high)
