-- Which options go together, and which columns and numbers go with them: a rule a line. Each says what must not hold.
use Rattle.std.specs.{List.{list_all, list_any}, Option.option_map_or, Prelude.{ℕ, ◌+◌, ◌==◌, ◌&&◌, ◌||◌, if◌then◌else◌, not, nat_lt, Bool, false, List, [], ◌∷◌, filter, is_some, length}}
use Rattle.span_request.specs.{Condition, Options, all_of, goes_with, is_standard, Asked.Asked, Columns.{is_file, is_of_span}, Numbers.{are_numbers_of, are_of_one_kind, by_of, goes_by}, Texts.{are_given, has_table, is_any, most_rows, prints_table, texts}}

-- one of the rules holds
abbrev pub is_broken : List Bool → Bool
is_broken rules = is_any rules

-- each file is a run of its own
abbrev pub takes_apart : Options → Bool
takes_apart options = options.apart || options.repeats

-- the list is standard input, or there is none and no FILE, so that standard input is meant
abbrev pub means_standard : Options → Bool
means_standard options = option_map_or is_standard options.files_from (length options.files.items == 0)

-- how often standard input is named, or meant
abbrev pub standard_uses : Options → ℕ
standard_uses options =
    length (filter is_standard options.files.items) + (length (filter is_standard options.base.items) + (if means_standard options then 1 else 0))

-- two of them hold
abbrev pub are_several : List Bool → Bool
are_several [] = false
are_several (given ∷ more) = (given && is_broken more) || are_several more

-- options that exclude one another
abbrev pub excluded : Options → List Bool
excluded options =
    are_several (texts options)
    ∷ nat_lt 1 (standard_uses options)
    ∷ (options.json && is_some options.top)
    ∷ (options.json && options.refused)
    ∷ (options.json && options.folded)
    ∷ (options.json && options.page)
    ∷ (options.repeats && options.apart)
    ∷ (options.repeats && is_some options.numbers)
    ∷ (options.add && options.large)
    ∷ (options.add && is_some options.limit)
    ∷ (options.add && options.nanoseconds)
    ∷ (options.add && options.seal)
    ∷ (options.add && options.strict)
    ∷ (options.add && is_some options.of)
    ∷ (options.add && options.apart)
    ∷ (options.add && is_some options.jobs)
    ∷ []

-- options that have no effect on the text that is asked for
abbrev pub idle : Options → List Bool
idle options =
    (is_some options.by && not (is_some (most_rows options) || are_given options.base.items))
    ∷ (is_some options.numbers && not (has_table options))
    ∷ (is_some options.of && not (prints_table options))
    ∷ (is_some options.group_by && not (has_table options || options.folded))
    ∷ (are_given options.conditions.items && not (prints_table options))
    ∷ (options.merge_templates && not (has_table options || options.folded))
    ∷ (are_given options.only.items && not (has_table options))
    ∷ (are_given options.skip.items && not (has_table options))
    ∷ (options.add && not (prints_table options))
    ∷ (options.apart && not (has_table options || options.folded))
    ∷ (options.repeats && not (are_given options.base.items))
    ∷ (is_some options.jobs && not (takes_apart options))
    ∷ []

-- columns and numbers that what is summed doesn't have, or the text that is asked for; tables that are added say themselves what they sum
abbrev pub unsuited : Options → Asked → List Bool
unsuited options asked =
    (is_some options.by && not (is_some (by_of options)))
    ∷ (not options.add && not (list_all (goes_with asked.of) asked.columns))
    ∷ (list_any is_file asked.columns && not (takes_apart options || options.add))
    ∷ (options.folded && not (list_all is_of_span asked.columns))
    ∷ (not options.add && not (goes_by (all_of asked.of) (by_of options)))
    ∷ (not options.add && not (are_numbers_of asked.of asked.numbers))
    ∷ (options.add && not (are_of_one_kind asked.numbers))
    ∷ (is_some options.numbers && not (goes_by asked.numbers (by_of options)))
    ∷ (options.json && is_some options.by && not options.repeats)
    ∷ []

-- columns of conditions that what is summed doesn't have
abbrev pub untested : Options → Asked → List Bool
untested options asked =
    (not options.add && not (list_all (λ (c : Condition). goes_with asked.of c.column) asked.conditions))
    ∷ (list_any (λ (c : Condition). is_file c.column) asked.conditions && not (takes_apart options || options.add))
    ∷ []
