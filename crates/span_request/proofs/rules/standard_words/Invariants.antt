use Rattle.std.proofs.Common.{◌≡◌, ◌≤◌, filter, length, take}
use Rattle.span_request.specs.{is_standard}
use Rattle.span_request.proofs.rules.standard_words.Given as goal

-- those of the words so far
abbrev pub invariant-loop-word : goal.invariant-loop-word
invariant-loop-word l = record {
  count : l.count ≡ length (filter is_standard (take l.word-index l.words));
  few : l.count ≤ l.word-index;
}
