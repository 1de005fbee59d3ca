-- What is printed as JSON Lines can be read back, and added.
use Rattle.std.specs.Prelude.{◌≡◌, ◌⊎◌, ◌<◌, ◌≤◌, false, List, [], length, All, Contains, Some, None}
use Rattle.span_request.specs.declared.tasks.{Items.TheVariants.Printed, Request.TheVariants.Run, TableText.TheVariants.Table, Task.TheVariants.Tabulate}
use Rattle.span_tasks.specs.{AsksFor, AskedNumbers, Bytes, IsPart, Json, Name, Named, Schema, SourceBytes, SourceFolders, SpanTable, TableOptions, Tabulation, TimeUnit, printed, unread_line, Added.{AreTooMany, most_added}, Requests.IsOutcome, Sides.StopsOneSide, declared.outcome.Outcome.Outcome}

-- whatever words ask for JSON Lines: what is printed, unless something stopped, is a part
abbrev pub JsonLinesAreParts : Type 0
JsonLinesAreParts = (source : SourceBytes) (folders : SourceFolders) (words : List Bytes) (task : Tabulation) (files : Named) (outcome : Outcome) → AsksFor words (Run (Tabulate task) files) → task.text ≡ Table Json
    → IsOutcome source folders (Run (Tabulate task) files) outcome → outcome.status < 2 → (unit : TimeUnit) × (part : SpanTable) × IsPart unit outcome.output.items part

-- the name stands for a part of this schema, in this unit
pub record HasPart (source : SourceBytes) (schema : Schema) (unit : TimeUnit) (name : Name) : Type 0 where
  pub text : Bytes
  pub known : source name ≡ Some text
  pub within : length text ≤ most_added
  pub part : SpanTable
  pub is : IsPart unit text part
  pub by : part.schema ≡ schema

-- no numbers are named, nor one that rows are to go by
abbrev pub AsksNoNumbers : AskedNumbers → Type 0
AsksNoNumbers numbers = (numbers.named.items ≡ []) × (numbers.by ≡ None)

-- Parts of one schema, in one unit, are added with all that they have: it stops only where there are too many, or one isn't read.
abbrev pub PartsAreAdded : Type 0
PartsAreAdded = (source : SourceBytes) (schema : Schema) (unit : TimeUnit) (options : TableOptions) (names : List Name) (lines : Bytes) → options.columns.items ≡ [] → options.narrowing.conditions.items ≡ [] → AsksNoNumbers options.numbers → 0 < length names
    → All (HasPart source schema unit) names → StopsOneSide source Printed options false names lines →
    AreTooMany names lines ⊎ ((name : Name) × Contains names name × (lines ≡ unread_line (printed name)))
