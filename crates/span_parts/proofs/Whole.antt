-- A part, from its first line and its rows.
use Rattle.std.specs.Prelude.{All, flat_map}
use Rattle.std.proofs.Common.{◌≡◌, ◌≢◌, ℕ, List, [], ◌∷◌, ◌++◌, length, refl, sym, ap, subst, ◌∙◌, append_assoc, arith}
use Rattle.json.specs.Print.{print, print_from}
use Rattle.span_table_text.proofs.PrintedLines.{json_head-print, print_head-line}
use Rattle.span_parts.specs.{Bytes, Unit as TimeUnit, Row, Choice, with_counts, json_head, json_line, IsPart, IsRowOf, SpanTable, head_tokens, First.{Begins, MayBegin}, Rows.{AllAdded, AreRows, RowsFail}, Sum.{IsAdded, IsNoPart, SumFails}, declared.{fault.PartFault.{PartFault, TheVariants.{NotTable, OtherColumns, Memory, TooMany}}, guess.FirstLine.FirstLine}}
use Rattle.span_parts.proofs.Added.{EndsLine}

-- how a part begins
pub begins_so : (unit : TimeUnit) (text : Bytes) (part : SpanTable) → IsPart unit text part → MayBegin part.schema (length part.rows) part.counts
begins_so unit text part is = record { schema_fits = is.is.schema; few = is.is.few; counts_fit = is.is.counts }

-- a text that begins with another byte than `{` is none
pub IsNoPart-other : (byte : ℕ) (text : Bytes) → byte ≢ 123 → IsNoPart (byte ∷ text)
unfolding print_from
IsNoPart-other byte text other unit part is =
    other (ap (first 123) (is.printed ∙ ap (λ l. l ++ flat_map (json_line part.schema) part.rows) (json_head-print part.schema unit (length part.rows) part.counts)))
  where
    first : ℕ → Bytes → ℕ
    first none [] = none
    first none (byte ∷ bytes) = byte

-- a text without a line that ends is none
pub IsNoPart-no_line : (text : Bytes) → ((xs ys : Bytes) → text ≡ xs ++ 10 ∷ ys → All (λ byte. byte ≢ 10) xs → ⊥) → IsNoPart text
IsNoPart-no_line text none unit part is =
    let head = print (head_tokens part.schema unit (length part.rows) part.counts) in
    let lines = flat_map (json_line part.schema) part.rows in
    none head lines
    (is.printed ∙ ap (λ l. l ++ lines) (json_head-print part.schema unit (length part.rows) part.counts) ∙ append_assoc head (10 ∷ []) lines)
    (print_head-line part.schema unit (length part.rows) part.counts is.is.few is.is.counts)

module _ (text line rest : Bytes) (ends : EndsLine text line rest) (unit : TimeUnit) (part : SpanTable) (is : IsPart unit text part) where
  cut : (line ≡ print (head_tokens part.schema unit (length part.rows) part.counts)) × (rest ≡ flat_map (json_line part.schema) part.rows)
  cut =
      let head = print (head_tokens part.schema unit (length part.rows) part.counts) in
      let lines = flat_map (json_line part.schema) part.rows in
      ends head lines
      (is.printed ∙ ap (λ l. l ++ lines) (json_head-print part.schema unit (length part.rows) part.counts) ∙ append_assoc head (10 ∷ []) lines)
      (print_head-line part.schema unit (length part.rows) part.counts is.is.few is.is.counts)

  -- its first line
  pub line-part : line ++ 10 ∷ [] ≡ json_head part.schema unit (length part.rows) part.counts
  line-part = ap (λ l. l ++ 10 ∷ []) cut.0 ∙ sym (json_head-print part.schema unit (length part.rows) part.counts)

  -- and what is behind it
  pub rest-part : rest ≡ flat_map (json_line part.schema) part.rows
  rest-part = cut.1

module _ (text rest : Bytes) (first : FirstLine) (begins : Begins text first rest) where
  -- with its rows a text that begins so is a part
  pub IsAdded-rows : (choice : Choice) (old new : SpanTable) → AllAdded first.schema choice rest first.rows (with_counts old first.counts) new → IsAdded first.schema first.unit choice text old new
  IsAdded-rows choice old new added = record {
    part = record { schema = first.schema; counts = first.counts; rows = added.rows };
    is = record {
      is = record {
        schema = begins.may.schema_fits;
        counts = begins.may.counts_fit;
        few = omega (arith, added.so_many, begins.may.few);
        rows = added.are.each;
        rise = added.are.rise;
      };
      utf8 = begins.utf8;
      printed = begins.printed ∙ (λ i. json_head first.schema first.unit (sym added.so_many i) first.counts ++ added.are.lines i);
    };
    by = refl;
    sum = added.sum;
  }

  -- without them it is none
  pub IsNoPart-rows : ((rows : List Row) → AreRows first.schema rest rows → length rows ≡ first.rows → ⊥) → IsNoPart text
  IsNoPart-rows none unit part is =
      let same = begins.schema unit part is in
      none part.rows
      (record {
        each = subst (λ l. All (IsRowOf l) part.rows) same is.is.rows;
        rise = is.is.rise;
        lines = begins.lines unit part is ∙ (λ i. flat_map (json_line (same i)) part.rows);
      })
      (begins.rows unit part is)

  pub SumFails-rows : (fault : PartFault) → RowsFail first.schema rest first.rows fault → SumFails text fault
  SumFails-rows NotTable fails = IsNoPart-rows fails
  SumFails-rows OtherColumns fails = fails
  SumFails-rows Memory fails = tt
  SumFails-rows TooMany fails = tt
