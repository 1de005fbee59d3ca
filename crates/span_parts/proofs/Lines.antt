-- The lines of a part, as tokens.
use Rattle.std.proofs.{Common.{◌≡◌, ℕ, [], ◌∷◌, ◌++◌, ap, ◌∙◌}, lemmas.List.append_cancel_right}
use Rattle.json.specs.{Lex.tokens, Print.print}
use Rattle.span_table_text.proofs.PrintedLines.{IsRowOf-determined, json_head-print, json_line-print, tokens-head, tokens-row}
use Rattle.span_parts.specs.{Bytes, Unit as TimeUnit, TableCounts, Row, Schema, json_head, head_tokens, row_tokens, First.MayBegin, Rows.IsRowLine}

-- the tokens of a first line are those that were printed
pub tokens-first : (schema : Schema) (unit : TimeUnit) (rows : ℕ) (counts : TableCounts) (line : Bytes) → MayBegin schema rows counts → line ++ 10 ∷ [] ≡ json_head schema unit rows counts → tokens line ≡ head_tokens schema unit rows counts
tokens-first schema unit rows counts line may is = ap tokens (append_cancel_right line (print (head_tokens schema unit rows counts)) (10 ∷ []) (is ∙ json_head-print schema unit rows counts)) ∙ tokens-head schema unit rows counts may.few may.counts_fit

-- and those of the line of a row
pub tokens-line : (schema : Schema) (row : Row) (line : Bytes) → IsRowLine schema line row → tokens line ≡ row_tokens schema row
tokens-line schema row line is = ap tokens (append_cancel_right line (print (row_tokens schema row)) (10 ∷ []) (is.printed ∙ json_line-print schema row)) ∙ tokens-row schema row (IsRowOf-determined schema row is.fits)
