use Rattle.std.proofs.Common.{◌≡◌, [], ap, ap₂, subst, sym, ◌∙◌, append-nil}
use Rattle.template_names.specs.{Marks.marks, Merged.written, Writing.{AreOpened, outcome}}
use Rattle.template_names.proofs.WritingLemmas.{AreOpened-nil, outcome_of, whole-start}
use Rattle.template_names.proofs.merging.written.Goals as goal

pub loop-mark-init : goal.loop-mark-init
loop-mark-init c =
    let none = c.in_ok-with_capacity.ensures.items in
    let opened = c.new.ensures.items in
    let all : c.of-marks.result ≡ marks c.args.text.now = c.of-marks.ensures ∙ ap marks c.as_bytes.ensures.value in
    record {
      ready = subst (λ text. AreOpened text c.new.result.items) (sym none) (subst (AreOpened []) (sym opened) AreOpened-nil);
      same = ap₂ (λ text places. outcome_of text places c.of-marks.result) none opened ∙ whole-start c.of-marks.result ∙ ap (written 0) all;
    }

pub returns : goal.returns
returns c =
    let writer = c.loop-mark.writer in
    sym (append-nil writer.written.items) ∙ ap (outcome writer) (sym c.in_default.ensures) ∙ c.loop-mark.invariant.same
