-- The first line of a part.
use Rattle.std.specs.{Prelude.{◌≡◌, ℕ, ◌<◌, ◌^◌, true, [], ◌∷◌, ◌++◌, flat_map, length, Option, Some, None}, Str.IsUtf8}
use Rattle.span_parts.specs.{Bytes, Unit as TimeUnit, TableCounts, counts_fit, json_head, json_line, IsPart, IsSchema, Schema, SpanTable, declared.guess.FirstLine.FirstLine}

-- a first line that may be printed
pub record MayBegin (schema : Schema) (rows : ℕ) (counts : TableCounts) : Type 0 where
  pub schema_fits : IsSchema schema
  pub few : rows < 2 ^ 64
  pub counts_fit : counts_fit counts ≡ true

-- the line, without its end, is this one
pub record IsFirstLine (line : Bytes) (first : FirstLine) : Type 0 where
  pub may : MayBegin first.schema first.rows first.counts
  pub printed : line ++ 10 ∷ [] ≡ json_head first.schema first.unit first.rows first.counts

-- these are what a first line says: the schema, the unit, the number of rows and the counts
abbrev pub Says : Schema → TimeUnit → ℕ → TableCounts → Option FirstLine → Type 0
Says schema unit rows counts None = ⊥
Says schema unit rows counts (Some first) = (first.schema ≡ schema) × (first.unit ≡ unit) × (first.rows ≡ rows) × (first.counts ≡ counts)

-- A text begins with this line, and this is behind it. Any part with this text has this schema, this unit, these counts and so many rows,
-- whose lines are the rest.
pub record Begins (text : Bytes) (first : FirstLine) (rest : Bytes) : Type 0 where
  pub utf8 : IsUtf8 text
  pub may : MayBegin first.schema first.rows first.counts
  pub printed : text ≡ json_head first.schema first.unit first.rows first.counts ++ rest
  pub schema : (unit : TimeUnit) (part : SpanTable) → IsPart unit text part → part.schema ≡ first.schema
  pub unit : (unit : TimeUnit) (part : SpanTable) → IsPart unit text part → unit ≡ first.unit
  pub rows : (unit : TimeUnit) (part : SpanTable) → IsPart unit text part → length part.rows ≡ first.rows
  pub lines : (unit : TimeUnit) (part : SpanTable) → IsPart unit text part → rest ≡ flat_map (json_line part.schema) part.rows
