use Rattle.std.specs.Prelude.{flat_map}
use Rattle.std.proofs.Common.{◌≡◌, ◌++◌, ◌∷◌, map, string_bytes, take}
use Rattle.span_page.specs.{json_text_of}
use Rattle.span_page.proofs.stacks.put_names.Given as goal

-- the first name, and then those so far
abbrev pub invariant-loop-name : goal.invariant-loop-name
invariant-loop-name l = string_bytes l.out ≡ string_bytes l.initial.out ++ flat_map (λ text. 44 ∷ text) (map json_text_of (map (λ name. name.now) (take l.name-index l.later)))
