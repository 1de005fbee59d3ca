-- Labels word by word, and spans with their labels in place of their names.
use Rattle.std.specs.{List.{cons_option, filter_map, join_with_byte}, Option.option_to_list, Prelude.{zero, suc, if◌then◌else◌, is_some}}
use Rattle.std.proofs.{Common.{◌≡◌, ℕ, ◌+◌, ◌<◌, ◌≤◌, All, List, [], ◌∷◌, ◌++◌, length, map, take, Option, Some, None, refl, sym, ap, ap₂, subst, ◌∙◌, append-nil, append_assoc, arith, get_or}, Math.ListN.set, lemmas.List.{map-id, take_more, Elements.{All-cons, All-head, All-nil, All-tail, filter_map-append}}}
use Rattle.span_self_time.proofs.Mapped.{busy_time-map}
use Rattle.span_report.specs.{Bytes, AreSpans, IsApart, Span, AreThreadSpans, IsTimely, Stacks.{Labelled.{relabelled, then_word}, Labels.{by_name, label_of, labelled, named_by}, Laws.{TimesAddUpToBusy, TimesAddUpToSelf}}, declared.stacks.label.SpanColumn.SpanColumn}
use Rattle.span_report.proofs.StackLemmas.{Owners.times-self, Times.times-busy}

-- what separates the next word from these
abbrev pub separator_after : List Bytes → Bytes
separator_after [] = []
separator_after (word ∷ words) = 32 ∷ []

-- one more word, if there is one
pub join-then : (words : List Bytes) (next : Option Bytes) →
    join_with_byte 32 (words ++ option_to_list next) ≡ join_with_byte 32 words ++ then_word (separator_after words) next
join-then words None = ap (join_with_byte 32) (append-nil words) ∙ sym (append-nil (join_with_byte 32 words))
join-then [] (Some next) = refl
join-then (word ∷ []) (Some next) = refl
join-then (word ∷ more ∷ words) (Some next) =
    ap (λ rest. word ++ 32 ∷ rest) (join-then (more ∷ words) (Some next))
    ∙ sym (append_assoc word (32 ∷ join_with_byte 32 (more ∷ words)) (32 ∷ next))

pub separator-then : (words : List Bytes) (next : Option Bytes) →
    separator_after (words ++ option_to_list next) ≡ (if is_some next then 32 ∷ [] else separator_after words)
separator-then words None = ap separator_after (append-nil words)
separator-then [] (Some next) = refl
separator-then (word ∷ words) (Some next) = refl

-- what there is in one more column
pub words-more : {A : Type 0} (word : A → Option Bytes) (columns : List A) (i : ℕ) (column : A) → i < length columns → column ≡ get_or columns i column →
    filter_map word (take (i + 1) columns) ≡ filter_map word (take i columns) ++ option_to_list (word column)
words-more word columns i column within read =
    ap (filter_map word) (take_more columns i column within ∙ ap (λ x. take i columns ++ x ∷ []) (sym read))
    ∙ filter_map-append word (take i columns) (column ∷ []) ∙ ap (λ l. filter_map word (take i columns) ++ l) (one (word column))
  where
    one : (o : Option Bytes) → cons_option o [] ≡ option_to_list o
    one None = refl
    one (Some x) = refl

-- labelled by their names spans stay as they are
pub labelled-by_name : (spans : List (Span Bytes)) → labelled by_name spans ≡ spans
labelled-by_name spans = map-id spans

pub relabelled-labels : (columns : List SpanColumn) (spans : List (Span Bytes)) → relabelled (map (label_of columns) spans) spans ≡ labelled columns spans
relabelled-labels columns [] = refl
relabelled-labels columns (s ∷ spans) = ap (λ l. named_by (label_of columns s) s ∷ l) (relabelled-labels columns spans)

-- one more label
pub relabelled-set : (labels : List Bytes) (spans : List (Span Bytes)) (i : ℕ) (label : Bytes) (s : Span Bytes) → i < length labels → length labels ≤ length spans →
    label ≡ get_or labels i label → s ≡ get_or (relabelled (take i labels) spans) i s → set (relabelled (take i labels) spans) i (named_by label s) ≡ relabelled (take (suc i) labels) spans
relabelled-set [] spans i label s within enough read found = absurd (omega (arith, within))
relabelled-set (l ∷ labels) [] i label s within enough read found = absurd (omega (arith, enough))
relabelled-set (l ∷ labels) (x ∷ spans) zero label s within enough read found = ap₂ (λ (y : Bytes) (z : Span Bytes). named_by y z ∷ spans) read found
relabelled-set (l ∷ labels) (x ∷ spans) (suc i) label s within enough read found =
    ap (λ rest. named_by l x ∷ rest) (relabelled-set labels spans i label s (omega (arith, within)) (omega (arith, enough)) read found)

IsApart-relabelled : (at : ℕ) (labels : List Bytes) (spans : List (Span Bytes)) → IsApart at spans → IsApart at (relabelled labels spans)
IsApart-relabelled at [] spans apart = apart
IsApart-relabelled at (label ∷ labels) [] apart = tt
IsApart-relabelled at (label ∷ labels) (s ∷ spans) apart = (apart.0, IsApart-relabelled at labels spans apart.1)

-- positions and times don't look at names
AreSpans-relabelled : (labels : List Bytes) (spans : List (Span Bytes)) → AreSpans spans → AreSpans (relabelled labels spans)
AreSpans-relabelled [] spans are = are
AreSpans-relabelled (label ∷ labels) [] are = tt
AreSpans-relabelled (label ∷ labels) (s ∷ spans) are = (are.0, IsApart-relabelled s.at labels spans are.1, AreSpans-relabelled labels spans are.2)

IsTimely-relabelled : (labels : List Bytes) (spans : List (Span Bytes)) → All IsTimely spans → All IsTimely (relabelled labels spans)
IsTimely-relabelled [] spans in_time = in_time
IsTimely-relabelled (label ∷ labels) [] in_time = All-nil IsTimely
IsTimely-relabelled (label ∷ labels) (s ∷ spans) in_time =
    All-cons IsTimely (named_by label s) (relabelled labels spans) (All-head IsTimely s spans in_time) (IsTimely-relabelled labels spans (All-tail IsTimely s spans in_time))

pub AreThreadSpans-relabelled : (labels : List Bytes) (spans : List (Span Bytes)) → AreThreadSpans spans → AreThreadSpans (relabelled labels spans)
AreThreadSpans-relabelled labels spans are = record { are = AreSpans-relabelled labels spans are.are; in_time = IsTimely-relabelled labels spans are.in_time }

AreSpans-labelled : (columns : List SpanColumn) (spans : List (Span Bytes)) → AreSpans spans → AreSpans (labelled columns spans)
AreSpans-labelled columns spans are =
    subst (λ (spans : List (Span Bytes)). AreSpans spans) (relabelled-labels columns spans) (AreSpans-relabelled (map (label_of columns) spans) spans are)

pub labelled-busy : TimesAddUpToBusy
labelled-busy columns spans are =
    times-busy (labelled columns spans) (AreSpans-labelled columns spans are)
    ∙ busy_time-map (λ s. named_by (label_of columns s) s) (λ s. refl) (λ s. refl) spans

pub labelled-self : TimesAddUpToSelf
labelled-self columns spans are label = times-self (labelled columns spans) (AreSpans-labelled columns spans are) label
