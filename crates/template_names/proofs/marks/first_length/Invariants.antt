use Rattle.std.proofs.Common.{◌≡◌, drop, map}
use Rattle.template_names.specs.Marks.{first_length}
use Rattle.template_names.proofs.marks.first_length.Given as goal

-- the text begins with none of the symbols so far
abbrev pub invariant-loop-symbol : goal.invariant-loop-symbol
invariant-loop-symbol l = first_length (map (λ symbol. symbol.now) (drop l.symbol-index l.symbols)) l.text ≡ first_length (map (λ symbol. symbol.now) l.symbols) l.text
