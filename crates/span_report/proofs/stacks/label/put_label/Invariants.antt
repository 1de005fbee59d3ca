use Rattle.std.specs.List.{filter_map, join_with_byte}
use Rattle.std.proofs.Common.{◌≡◌, ◌++◌, string_bytes, take}
use Rattle.span_report.specs.Stacks.Labels.{word_in}
use Rattle.span_report.proofs.StackLemmas.Labelling.{separator_after}
use Rattle.span_report.proofs.stacks.label.put_label.Given as goal

-- the words so far, and what separates the next one from them
abbrev pub invariant-loop-column : goal.invariant-loop-column
invariant-loop-column l = record {
  text : string_bytes l.out ≡ string_bytes l.fn.out ++ join_with_byte 32 (filter_map (word_in l.span.name l.span.args) (take l.column-index l.columns));
  separator : l.separator ≡ separator_after (filter_map (word_in l.span.name l.span.args) (take l.column-index l.columns));
}
