use Rattle.std.specs.{Cmp.Lexicographic.slice_cmp, Option.option_cmp}
use Rattle.std.proofs.Common.{ap₂, ◌∙◌}
use Rattle.span_event.proofs.Values.{value_cmp-is}
use Rattle.span_table.specs.Keys.{key_cmp}
use Rattle.span_table.proofs.key.KeyOrd.cmp.Goals as goal

pub returns : goal.returns
returns c =
    c.cmp.ensures ∙ (λ i. slice_cmp (option_cmp (λ a b. value_cmp-is a b i)) c.self.inside.values.items c.other.inside.values.items)
    ∙ ap₂ key_cmp c.self.view_is c.other.view_is
