use Rattle.std.proofs.Common.{◌≡◌, ◌∷◌, [], ◌++◌, length, ap, ◌∙◌, arith}
use Rattle.template_names.proofs.WritingLemmas.{Writes-open}
use Rattle.template_names.proofs.merging.Writer.write_open.Goals as goal

pub returns : goal.returns
returns c =
    let old = c.args.self.now in
    let place : c.len.result ≡ length old.written.items = omega arith in
    Writes-open old (record { written = c.push-2.new.self; opened = c.push.new.self }) c.requires c.in_ok-push-2.ensures.items
    (c.in_ok-push.ensures.items ∙ ap (λ place. old.opened.items ++ place ∷ []) place)
