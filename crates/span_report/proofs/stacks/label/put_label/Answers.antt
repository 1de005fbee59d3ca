use Rattle.std.specs.List.{filter_map, join_with_byte}
use Rattle.std.proofs.Common.{◌∷◌, [], ◌++◌, Bool, cond, string_bytes, take, sym, ap, ap₂, ◌∙◌, append_assoc}
use Rattle.span_report.specs.{Bytes, Stacks.{Labelled.then_word, Labels.word_in}}
use Rattle.span_report.proofs.{StackLemmas.Labelling.{join-then, separator-then, separator_after, words-more}, stacks.label.put_label.Goals.{then-branch, else-branch}}
use Rattle.span_report.proofs.stacks.label.put_label.Goals as goal

pub loop-column-preserved : goal.loop-column-preserved
loop-column-preserved c =
    let out = string_bytes c.args.out.now in
    let columns = c.args.columns.now in
    let word = word_in c.args.span.now.name c.args.span.now.args in
    let before = filter_map word (take c.loop-column.column-index columns) in
    let next = word c.column-item.result in
    let more = words-more word columns c.loop-column.column-index c.column-item.result c.loop-column-test.true c.column-item.is in
    let after = ap separator_after more ∙ separator-then before next in
    let found = sym c.in_ok-put_word.ensures.found in
    let either = λ (b : Bool). cond b (32 ∷ []) (separator_after before) in
    record {
      text = c.in_ok-put_word.ensures.word
          ∙ ap₂ (λ (text separator : Bytes). text ++ then_word separator next) c.loop-column.invariant.text c.loop-column.invariant.separator
          ∙ append_assoc out (join_with_byte 32 before) (then_word (separator_after before) next)
          ∙ ap (λ (words : Bytes). out ++ words) (sym (join-then before next) ∙ ap (join_with_byte 32) (sym more));
      separator = elim c.if-branch.branch [
        | then-branch w ↦ rw w.separator-is (sym (after ∙ ap either (found ∙ w.if-branch.true)))
        | else-branch w ↦ rw w.separator-is (c.loop-column.invariant.separator ∙ sym (after ∙ ap either (found ∙ w.if-branch.false)))
      ];
    }
