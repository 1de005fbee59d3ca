use Rattle.std.specs.List.{suffix_len}
use Rattle.std.proofs.{Common.{◌≡◌, ◌-◌, ◌<◌, false, length, get_or, sym, ap, ◌∙◌, arith}, lemmas.List.Sums.suffix_len_is}
use Rattle.span_read.specs.Document.{is_blank}
use Rattle.span_read.proofs.candidates.without_trailing_blanks.Goals.{then-loop-end-test+else-is_blank, else-loop-end-test}
use Rattle.span_read.proofs.candidates.without_trailing_blanks.Goals as goal

pub returns : goal.returns
returns c =
    let text = c.args.text.now in
    let end = c.loop-end.end in
    let last_stays : 0 < end → is_blank (get_or text (end - 1) 0) ≡ false =
    elim c.loop-end-test.branch [
      | then-loop-end-test+else-is_blank w ↦ λ _. sym (w.if-is_blank.ensures ∙ ap (λ bytes. is_blank (get_or bytes (end - 1) 0)) c.as_bytes-bytes.ensures.value)
      | else-loop-end-test w ↦ λ some. absurd (omega arith)
    ] in
    let blanks = suffix_len_is is_blank text end 0 c.loop-end.invariant.within c.loop-end.invariant.blank last_stays in
    let kept : length text - suffix_len is_blank text ≡ end = omega arith in
    grind (arith, kept, c.range.ensures.value)
