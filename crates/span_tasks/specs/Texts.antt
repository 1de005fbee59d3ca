-- The texts of tables, and the bounds of pages that have one.
use Rattle.std.specs.Prelude.{◌≡◌, ◌≤◌, ◌⊎◌, Bool, true, false, List, length}
use Rattle.span_request.specs.declared.views.ComparisonForm.TheVariants as changes
use Rattle.span_request.specs.declared.views.RepeatsForm.TheVariants as repeats
use Rattle.span_tasks.specs.{Bytes, PageTooLargeFault, TooGreatFault, number_of, run_line, IsTooLong, most_bytes, AllFit, Unit, Schema, SpanTable, TableOptions, Wanted, IsPrint, json_fits, leading_number, shown_table, ranking_of, comparison_of, json_changes_fit, json_comparison_of, json_repeats_fit, json_repeats_of, repeats_of, ComparisonForm, RepeatsForm, TableForm, Json, Ranking}

-- the shown rows of a table as JSON Lines
abbrev pub IsJson : Unit → Wanted → SpanTable → Bytes → Type 0
IsJson unit shown table text = IsPrint unit text (shown_table shown table)

-- the text of a table whose times are in this unit, and whose head says how many runs there are or doesn't
abbrev pub IsTableText : Unit → TableForm → TableOptions → Bool → SpanTable → Bytes → Type 0
IsTableText unit (Ranking most) options says_runs table text = text ≡ ranking_of unit most (leading_number options.numbers table.schema) options.shown says_runs table
IsTableText unit Json options says_runs table text = IsJson unit options.shown table text

-- a number for other programs has more than 64 bits; for people it may have any
abbrev pub TableExceeds : TableForm → Wanted → SpanTable → Type 0
TableExceeds (Ranking most) shown table = ⊥
TableExceeds Json shown table = json_fits shown table ≡ false

-- what changed between two tables
abbrev pub changes_text : Unit → ComparisonForm → TableOptions → Bool → SpanTable → SpanTable → Bytes
changes_text unit (changes.Text most) options says_runs base other = comparison_of unit (leading_number options.numbers other.schema) most options.shown says_runs base other
changes_text unit changes.Json options says_runs base other = json_comparison_of unit (leading_number options.numbers other.schema) options.shown base other

abbrev pub changes_fit : ComparisonForm → TableOptions → SpanTable → SpanTable → Bool
changes_fit (changes.Text most) options base other = true
changes_fit changes.Json options base other = json_changes_fit (leading_number options.numbers other.schema) options.shown base other

-- how the numbers of the tables of two sides are spread, which have this schema
abbrev pub repeats_text : Unit → Schema → RepeatsForm → TableOptions → List SpanTable → List SpanTable → Bytes
repeats_text unit schema (repeats.Text most) options base other = repeats_of unit (leading_number options.numbers schema) most options.shown schema.columns base other
repeats_text unit schema repeats.Json options base other = json_repeats_of unit (leading_number options.numbers schema) options.shown schema base other

abbrev pub repeats_fit : Schema → RepeatsForm → TableOptions → List SpanTable → List SpanTable → Bool
repeats_fit schema (repeats.Text most) options base other = true
repeats_fit schema repeats.Json options base other = json_repeats_fit (leading_number options.numbers schema) options.shown base other

-- a page: what is shown of its table has numbers of 64 bits, and the page is not too long
pub record PageFits (shown : Wanted) (table : SpanTable) (page : Bytes) : Type 0 where
  pub numbers : AllFit (shown_table shown table)
  pub within : length page ≤ most_bytes

-- a number has more bits, or else the page is too long, as the line says
abbrev pub PageExceeds : Wanted → SpanTable → Bytes → Bytes → Type 0
PageExceeds shown table page lines = ((json_fits shown table ≡ false) × (lines ≡ run_line (number_of TooGreatFault)))
    ⊎ (AllFit (shown_table shown table) × IsTooLong page × (lines ≡ run_line (number_of PageTooLargeFault)))
