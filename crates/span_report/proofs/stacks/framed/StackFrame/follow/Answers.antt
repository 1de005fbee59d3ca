use Rattle.std.proofs.{Common.{◌++◌, ◌∷◌, [], Bor, List, map, take, sym, ap, ◌∙◌}, lemmas.List.{map_push, take-map}}
use Rattle.span_report.specs.{Bytes, Stacks.Framed.{Framed, stack_after}}
use Rattle.span_report.proofs.stacks.framed.StackFrame.follow.Goals as goal

-- so many frames of the stack before stay, and the frame's own is on them
pub returns-clause-ok : goal.returns-clause-ok
returns-clause-ok c =
    let lent = λ (name : Bor Bytes). name.now in
    let old = c.args.stack.now.items in
    let frame = c.self.inside in
    ap (map lent) (c.push_reserved.ensures.items ∙ ap (λ (names : List (Bor Bytes)). names ++ frame.name ∷ []) (c.truncate.ensures.items ∙ ap (take frame.below) c.reserve.ensures.items))
    ∙ map_push lent (take frame.below old) frame.name
    ∙ ap (λ (names : List Bytes). names ++ frame.name.now ∷ []) (sym (take-map lent frame.below old))
    ∙ ap (λ (f : Framed). stack_after (map lent old) f) c.self.view_is
