use Rattle.std.specs.Prelude.{flat_map}
use Rattle.std.proofs.Common.{◌≡◌, ◌++◌, ◌∷◌, map, string_bytes, take}
use Rattle.span_page.specs.{json_text_of, Graph.value_label}
use Rattle.span_page.proofs.graph.put_labels.Given as goal

-- the first label, and then those so far
abbrev pub invariant-loop-value : goal.invariant-loop-value
invariant-loop-value l = string_bytes l.out ≡ string_bytes l.initial.out ++ flat_map (λ text. 44 ∷ text) (map json_text_of (map value_label (take l.value-index l.later)))
