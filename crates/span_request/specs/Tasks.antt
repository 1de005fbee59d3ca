-- The task that the options ask for, of such a table.
use Rattle.std.specs.{Prelude.{◌≡◌, ◌&&◌, ◌||◌, if◌then◌else◌, ℕ, Bool, not, true, false, List, [], ◌∷◌, Option, Some, None, filter_map, is_some, map, unwrap_or}, Option.option_map_or}
use Rattle.span_request.specs.{Argument, Column, Format, Microseconds, Name, Named, Nanoseconds, Narrowing, Options, Settings, SpanColumn, Unit, AskedNumbers, format_of, large_format, names_of, Asked.Asked, Numbers.by_of, Rules.takes_apart, Texts.{are_given, audience_of, most_rows, prints_table}}
use Rattle.span_request.specs.declared.tasks.{Items.{Items, TheVariants.{Apart, Printed, Together}}, TableText.{TableText, TheVariants.{Changes, Repetitions, Table}}, Task.{Task, TheVariants.{Collect, Pages, Stacks, Tabulate}}}
use Rattle.span_request.specs.declared.views.{ComparisonForm.ComparisonForm, PageView.PageView, RepeatsForm.RepeatsForm, TableForm.{TableForm, TheVariants.{Json, Ranking}}, TableOptions.TableOptions, View.{View, TheVariants.{Folded, Page, Refusals, Report}}}
use Rattle.span_report.specs.declared.stacks.label.SpanColumn.TheVariants as label
use Rattle.span_request.specs.declared.views.ComparisonForm.TheVariants as changes
use Rattle.span_request.specs.declared.views.RepeatsForm.TheVariants as repeats

-- the most entries of a journal, where the command line doesn't say, nor that files may be large
abbrev pub default_limit : ℕ
default_limit = 16777216

abbrev pub format_asked : Options → Unit → Format
format_asked options unit = if options.large then large_format unit else format_of unit

abbrev pub settings_of : Options → Settings
settings_of options = record {
  format = format_asked options (if options.nanoseconds then Nanoseconds else Microseconds);
  limit = unwrap_or options.limit (if options.large then 4294967295 else default_limit);
  seal = options.seal;
  strict = options.strict;
  alone = not (takes_apart options);
}

-- how a table is narrowed
pub record IsNarrowing (options : Options) (asked : Asked) (narrowing : Narrowing) : Type 0 where
  pub conditions : narrowing.conditions.items ≡ asked.conditions
  pub merges : narrowing.merges ≡ options.merge_templates

-- whom a text is for, the numbers that it shows, where they are named, and by which of them its rows go
pub record AreAskedNumbers (options : Options) (asked : Asked) (numbers : AskedNumbers) : Type 0 where
  pub audience : numbers.audience ≡ audience_of options
  pub named : numbers.named.items ≡ asked.numbers
  pub by : numbers.by ≡ by_of options

-- what is summed, by which columns, which numbers are shown, how it is narrowed, and which rows are shown
pub record IsOptions (options : Options) (asked : Asked) (table : TableOptions) : Type 0 where
  pub of : table.of ≡ asked.of
  pub columns : table.columns.items ≡ asked.columns
  pub numbers : AreAskedNumbers options asked table.numbers
  pub narrowing : IsNarrowing options asked table.narrowing
  pub shown : table.shown ≡ record { only = options.only.items; skip = options.skip.items }

-- what a frame is called: the values of these columns that a span has for itself
abbrev pub label_of : Column → Option SpanColumn
label_of Name = Some label.Name
label_of (Argument key) = Some (label.Argument key)
label_of column = None

-- its name, where there is none of them
abbrev pub or_name : List SpanColumn → List SpanColumn
or_name [] = label.Name ∷ []
or_name (first ∷ more) = first ∷ more

abbrev pub labels_of : List Column → List SpanColumn
labels_of columns = or_name (filter_map label_of columns)

-- the same with templates merged
abbrev pub merged_label : SpanColumn → SpanColumn
merged_label label.Name = label.MergedName
merged_label (label.Argument key) = label.MergedArgument key
merged_label merged = merged

-- merged where the options ask for it
abbrev pub asked_labels : Options → List Column → List SpanColumn
asked_labels options columns = if options.merge_templates then map merged_label (labels_of columns) else labels_of columns

abbrev pub IsPageView : Options → Asked → PageView → Type 0
IsPageView options asked view = IsOptions options asked view.options × (view.labels.items ≡ asked_labels options asked.columns)

-- warnings follow a report where an option other than a limit, seals and strict names is given, of which a report may have these three
abbrev pub warns_of : Options → Bool
warns_of options = options.nanoseconds || options.large || is_some options.files_from

-- the text of one run, beside its table
abbrev pub IsView : Options → Asked → View → Type 0
IsView options asked (Report warns) = ((options.refused || options.folded || options.page) ≡ false) × (warns ≡ warns_of options)
IsView options asked Refusals = options.refused ≡ true
IsView options asked (Folded labels) = (options.folded ≡ true) × (labels.items ≡ asked_labels options asked.columns)
IsView options asked (Page view) = (options.page ≡ true) × IsPageView options asked view

-- what tables are gathered of
abbrev pub items_of : Options → Items
items_of options = if options.add then Printed else if takes_apart options then Apart (settings_of options) else Together (settings_of options)

abbrev pub table_form : Options → TableForm
table_form options = option_map_or Ranking (most_rows options) Json

abbrev pub comparison_form : Options → ComparisonForm
comparison_form options = if options.json then changes.Json else changes.Text options.top

abbrev pub repeats_form : Options → RepeatsForm
repeats_form options = if options.json then repeats.Json else repeats.Text options.top

-- the text that is made of tables
abbrev pub IsText : Options → TableText → Type 0
IsText options (Table form) = (are_given options.base.items ≡ false) × (form ≡ table_form options)
IsText options (Changes since) =
    (are_given options.base.items ≡ true) × (options.repeats ≡ false) × (since.form ≡ comparison_form options) × (since.base.items ≡ names_of options.base.items)
IsText options (Repetitions of) =
    (are_given options.base.items ≡ true) × (options.repeats ≡ true) × (of.form ≡ repeats_form options) × (of.base.items ≡ names_of options.base.items)

abbrev pub IsTask : Options → Asked → Task → Type 0
IsTask options asked (Collect settings view) =
    ((prints_table options || (options.apart && (options.page || options.folded))) ≡ false) × (settings ≡ settings_of options) × IsView options asked view
IsTask options asked (Pages settings jobs view) =
    ((options.page && options.apart) ≡ true) × (settings ≡ settings_of options) × (jobs ≡ options.jobs) × IsPageView options asked view
IsTask options asked (Stacks settings jobs labels) =
    ((options.folded && options.apart) ≡ true) × (settings ≡ settings_of options) × (jobs ≡ options.jobs) × (labels.items ≡ asked_labels options asked.columns)
IsTask options asked (Tabulate tables) =
    (prints_table options ≡ true) × (tables.items ≡ items_of options) × (tables.jobs ≡ options.jobs) × IsOptions options asked tables.options
    × IsText options tables.text

-- the files that are named
abbrev pub AreFiles : Options → Named → Type 0
AreFiles options files = (files.given.items ≡ options.files.items) × (files.list ≡ options.files_from)
