-- The schemas by which tables are gathered, and what is asked of those that are added.
use Rattle.std.specs.Prelude.{List, []}
use Rattle.span_tasks.specs.{AskedParts, Column, Programs, Schema, TableOptions, shown_numbers, summed_by, summed_schema, usual_numbers}

-- that of the table of runs that is shown
abbrev pub schema_of : TableOptions → Schema
schema_of options = record { of = options.of; columns = options.columns.items; numbers = shown_numbers options.numbers options.of (usual_numbers Programs options.of) }

-- that of the table before it is narrowed
abbrev pub summed_of : TableOptions → Schema
summed_of options = summed_schema (schema_of options) options.narrowing

-- the columns that conditions test
abbrev pub tested_in : TableOptions → List Column
tested_in options = summed_by [] options.narrowing

-- what tables are to have that are added
abbrev pub asked_of : TableOptions → AskedParts
asked_of options = record { shown = options.columns.items; tested = tested_in options; numbers = options.numbers }
