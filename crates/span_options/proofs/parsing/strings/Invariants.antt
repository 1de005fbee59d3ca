use Rattle.std.proofs.Common.{◌≡◌, map, take}
use Rattle.span_options.proofs.parsing.strings.Given as goal

-- the words so far
abbrev pub invariant-loop-word : goal.invariant-loop-word
invariant-loop-word l = map (λ word. word.now) l.all.items ≡ take l.word-index l.words
