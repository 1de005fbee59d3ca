use Rattle.std.proofs.Common.{◌++◌, codes, ap, ◌∙◌}
use Rattle.template_names.proofs.WritingLemmas.{Writes-close}
use Rattle.template_names.proofs.merging.Writer.write_close.Goals as goal

pub returns-in_ok-extend_from_slice-in-Some : goal.returns-in_ok-extend_from_slice-in-Some
returns-in_ok-extend_from_slice-in-Some c =
    Writes-close c.args.self.now (record { written = c.extend_from_slice.new.self; opened = c.pop.new.self }) c.in-Some.place c.requires c.in-Some.ensures.items
    (c.in_ok-extend_from_slice-in-Some.ensures.items ∙ ap (λ text. text ++ codes "<$>") c.truncate.ensures.items)
