use Rattle.std.proofs.{Common.{ℕ, ◌<◌, ◌∙◌, map, ap, sym, subst}, lemmas.List.map_push}
use Rattle.span_collect.specs.{Refusals.Warnings.most_of}
use Rattle.span_collect.proofs.RefusalLemmas.Most.{most_of-push}
use Rattle.span_collect.proofs.refusals.warnings.most_of.Goals as goal

-- this one refused more
pub loop-code-preserved-then-most-refused : goal.loop-code-preserved-then-most-refused
loop-code-preserved-then-most-refused c =
    sym (ap most_of (map_push (λ e. (e.0.now, e.1.now)) c.loop-code.yielded (c.in-Some.code, c.in-Some.refused))
    ∙ most_of-push (map (λ e. (e.0.now, e.1.now)) c.loop-code.yielded) (c.in-Some.code.now, c.in-Some.refused.now) (subst (λ (most : ℕ × ℕ). most.1 < c.in-Some.refused.now.count) c.loop-code.invariant c.if-most-refused.true))
