-- The labels by which stacks name spans: what a span has in some columns of its own, as words of a text.
use Rattle.std.specs.{Fmt.signed_decimal, List.{filter_map, join_with_byte}, Option.option_map, Prelude.{true, false, List, [], ◌∷◌, map, Option, Some, codes}}
use Rattle.template_names.specs.Merged.{merged}
use Rattle.span_report.specs.{ArgValue, Nil, Flag, Whole, Words, Other, Thread, Arguments, value_of, Bytes, Span, closed_spans, Entry, thread_events, declared.stacks.label.SpanColumn.{SpanColumn, TheVariants.{Name, Argument, MergedName, MergedArgument}}}

-- a value as a word
abbrev pub word_of : ArgValue → Bytes
word_of Nil = codes "null"
word_of (Flag true) = codes "true"
word_of (Flag false) = codes "false"
word_of (Whole number) = signed_decimal number
word_of (Words text) = text
word_of Other = codes "..."

-- the same with templates merged
abbrev pub merged_word_of : ArgValue → Bytes
merged_word_of (Words text) = merged text
merged_word_of value = word_of value

-- what a span of this name and these arguments has in a column, if it has anything there
abbrev pub word_in : Bytes → Arguments → SpanColumn → Option Bytes
word_in name args Name = Some name
word_in name args (Argument key) = option_map word_of (value_of key args)
word_in name args MergedName = Some (merged name)
word_in name args (MergedArgument key) = option_map merged_word_of (value_of key args)

-- the label of a span: what it has in the columns, separated by spaces
abbrev pub label_of : List SpanColumn → Span Bytes → Bytes
label_of columns s = join_with_byte 32 (filter_map (word_in s.name s.args) columns)

-- a span with a label in place of its name
abbrev pub named_by : Bytes → Span Bytes → Span Bytes
named_by label s = record { name = label; start = s.start; until = s.until; at = s.at; args = s.args }

-- the spans, each with its label in place of its name
abbrev pub labelled : List SpanColumn → List (Span Bytes) → List (Span Bytes)
labelled columns spans = map (λ s. named_by (label_of columns s) s) spans

-- the column whose labels are the names themselves
abbrev pub by_name : List SpanColumn
by_name = Name ∷ []

-- the closed spans of a thread of a journal, by their labels
abbrev pub labelled_spans : List SpanColumn → List Entry → Thread → List (Span Bytes)
labelled_spans columns journal thread = labelled columns (closed_spans (thread_events thread journal))
