-- Rows as they are read.
use Rattle.std.specs.{List.{AllByRecursion, Sorted.IsStrictlySortedBy}, Ordering.is_lt, Prelude.{All, flat_map}, declared.cmp.Ordering.{Ordering, TheVariants.{Less, Equal, Greater}}}
use Rattle.std.proofs.{Common.{◌≡◌, ◌≢◌, ℕ, ◌+◌, ◌<◌, true, true≢false, List, [], ◌∷◌, ◌++◌, Option, Some, None, length, get_or, refl, sym, ap, subst, ◌∙◌, append_assoc, append-nil, arith}, Math.Seq.get_or-append_seam, lemmas.{Grind.flat_map-append, List.{length-append, Elements.{All-nil, All-push}}}}
use Rattle.json.specs.Print.{print}
use Rattle.span_journal.proofs.Sorted.{AllByRecursion-append}
use Rattle.span_table_text.proofs.PrintedLines.{IsRowOf-determined, json_line-print, print_row-line}
use Rattle.span_parts.specs.{Bytes, Row, Choice, Schema, with_row, json_line, key_cmp_total, key_cmp, IsRowOf, RowsRise, SpanTable, row_tokens, Rows.{AllAdded, AreAdded, AreNoRows, AreRows, IsNextRow, RowFails, RowsFail, comes_after, last_row, row_at}, declared.fault.PartFault.{PartFault, TheVariants.{NotTable, OtherColumns, Memory, TooMany}}}
use Rattle.span_parts.proofs.{Lists.All-at, Summing.with_rows-push}

less : (o : Ordering) → is_lt o ≡ true → o ≡ Less
less Less is = refl
less Equal is = absurd (true≢false (sym is))
less Greater is = absurd (true≢false (sym is))

-- the last of some is one of them
last-of : {A : Type 0} (P : A → Type 0) (xs : List A) (x : A) → AllByRecursion P (xs ++ x ∷ []) → P x
last-of P [] x all = all.0
last-of P (y ∷ xs) x all = last-of P xs x all.1

-- rows that rise, and one that comes after the last of them
RowsRise-push : (rows : List Row) (row : Row) → RowsRise rows → comes_after row (last_row rows) ≡ true → RowsRise (rows ++ row ∷ [])
unfolding IsStrictlySortedBy
RowsRise-push [] row rise after = (tt, tt)
RowsRise-push (first ∷ []) row rise after = ((less (key_cmp first.key row.key) after, tt), (tt, tt))
RowsRise-push (first ∷ (next ∷ rows)) row rise after =
    let rest = RowsRise-push (next ∷ rows) row rise.1 after in
    let above = last-of (λ (y : Row). key_cmp next.key y.key ≡ Less) rows row rest.0 in
    (AllByRecursion-append (λ (y : Row). key_cmp first.key y.key ≡ Less) (next ∷ rows) (row ∷ []) rise.0 (key_cmp_total.trans first.key next.key row.key rise.0.0 above, tt), rest)

-- of rows that rise each comes after those before it
comes_after-rising : (rows : List Row) (row : Row) (later : List Row) → RowsRise (rows ++ row ∷ later) → comes_after row (last_row rows) ≡ true
unfolding IsStrictlySortedBy
comes_after-rising [] row later rise = refl
comes_after-rising (first ∷ []) row later rise = ap is_lt rise.0.0
comes_after-rising (first ∷ (next ∷ rows)) row later rise = comes_after-rising (next ∷ rows) row later rise.1

-- the last row, once there is one more
last_row-push : (rows : List Row) (row : Row) → last_row (rows ++ row ∷ []) ≡ Some row
last_row-push [] row = refl
last_row-push (first ∷ []) row = refl
last_row-push (first ∷ (next ∷ rows)) row = last_row-push (next ∷ rows) row

-- no rows are added yet
pub AreAdded-none : (schema : Schema) (choice : Choice) (text : List ℕ) (sum : SpanTable) → AreAdded schema choice text text 0 None sum sum
unfolding IsStrictlySortedBy
AreAdded-none schema choice text sum = record {
  rows = [];
  each = All-nil (IsRowOf schema);
  rise = tt;
  count = refl;
  last = refl;
  read = refl;
  only = λ all are. record { later = all; split = refl; lines = are.lines };
  sum = refl;
}

-- a text ends its first line here, wherever it has one that holds no line feed
abbrev pub EndsLine : Bytes → Bytes → Bytes → Type 0
EndsLine text line after = (xs ys : Bytes) → text ≡ xs ++ 10 ∷ ys → All (λ byte. byte ≢ 10) xs → (line ≡ xs) × (after ≡ ys)

-- the row of a line, and those of the lines behind it
record Next (schema : Schema) (line after : Bytes) (last : Option Row) (done all : List Row) : Type 0 where
  pub row : Row
  pub more : List Row
  pub split : all ≡ done ++ row ∷ more
  pub is : IsNextRow schema line last row
  pub lines : after ≡ flat_map (json_line schema) more

module _ (schema : Schema) (choice : Choice) (text rest : Bytes) (done : ℕ) (last : Option Row) (old sum : SpanTable) (added : AreAdded schema choice text rest done last old sum) where
  -- what the next line of a text has to be
  next : (line after : Bytes) → EndsLine rest line after → rest ≡ line ++ 10 ∷ after → (all : List Row) → AreRows schema text all → Next schema line after last added.rows all
  next line after ends split all are = let begin = added.only all are in cases begin.later begin.split begin.lines
    where
      cases : (later : List Row) → all ≡ added.rows ++ later → rest ≡ flat_map (json_line schema) later → Next schema line after last added.rows all
      cases [] whole lines = absurd (omega (arith, ap length (sym split ∙ lines), length-append line (10 ∷ after)))
      cases (row ∷ more) whole lines =
          let fits : IsRowOf schema row = All-at (IsRowOf schema) added.rows row more (subst (All (IsRowOf schema)) whole are.each) in
          let cut = ends (print (row_tokens schema row)) (flat_map (json_line schema) more)
          (lines ∙ ap (λ l. l ++ flat_map (json_line schema) more) (json_line-print schema row) ∙ append_assoc (print (row_tokens schema row)) (10 ∷ []) (flat_map (json_line schema) more))
          (print_row-line schema row (IsRowOf-determined schema row fits)) in
          record {
            row = row;
            more = more;
            split = whole;
            is = (
              record { fits = fits; printed = ap (λ l. l ++ 10 ∷ []) cut.0 ∙ sym (json_line-print schema row) },
              ap (comes_after row) (sym added.last) ∙ comes_after-rising added.rows row more (subst RowsRise whole are.rise),
            );
            lines = cut.1;
          }

  -- there is none, so the text is not that of rows
  pub AreNoRows-line : (line after : Bytes) → EndsLine rest line after → rest ≡ line ++ 10 ∷ after → ((row : Row) → IsNextRow schema line last row → ⊥) → (count : ℕ) → AreNoRows schema text count
  AreNoRows-line line after ends split none count = λ all are few. let n = next line after ends split all are in none n.row n.is

  -- the row of the next line is added
  pub AreAdded-push : (line after : Bytes) (row : Row) (new : SpanTable) → EndsLine rest line after → rest ≡ line ++ 10 ∷ after → IsNextRow schema line last row → ((other : Row) → IsNextRow schema line last other → row ≡ other) →
      new ≡ with_row sum (row_at choice row) → AreAdded schema choice text after (done + 1) (Some row) old new
  AreAdded-push line after row new ends split is only adds = record {
    rows = added.rows ++ row ∷ [];
    each = All-push (IsRowOf schema) added.rows row added.each is.0.fits;
    rise = RowsRise-push added.rows row added.rise (ap (comes_after row) added.last ∙ is.1);
    count = length-append added.rows (row ∷ []) ∙ ap (λ n. n + 1) added.count;
    last = last_row-push added.rows row;
    read = added.read ∙ ap (λ l. flat_map (json_line schema) added.rows ++ l) (split ∙ sym (append_assoc line (10 ∷ []) after) ∙ ap (λ l. l ++ after) is.0.printed)
        ∙ sym (append_assoc (flat_map (json_line schema) added.rows) (json_line schema row) after)
        ∙ ap (λ l. l ++ after) (ap (λ l. flat_map (json_line schema) added.rows ++ l) (sym (append-nil (json_line schema row))) ∙ sym (flat_map-append (json_line schema) added.rows (row ∷ [])));
    only = λ all are. let n = next line after ends split all are in record {
      later = n.more;
      split = n.split ∙ ap (λ r. added.rows ++ r ∷ n.more) (sym (only n.row n.is)) ∙ sym (append_assoc added.rows (row ∷ []) n.more);
      lines = n.lines;
    };
    sum = adds ∙ ap (λ t. with_row t (row_at choice row)) added.sum ∙ sym (with_rows-push choice added.rows row old);
  }

  -- no line is left, and there are as many rows as there are to be
  pub AllAdded-end : (count : ℕ) → rest ≡ [] → done ≡ count → AllAdded schema choice text count old sum
  AllAdded-end count end same = record {
    rows = added.rows;
    are = record { each = added.each; rise = added.rise; lines = added.read ∙ ap (λ l. flat_map (json_line schema) added.rows ++ l) end ∙ append-nil (flat_map (json_line schema) added.rows) };
    so_many = added.count ∙ same;
    sum = added.sum;
  }

  -- no line ends any more, and either something is left or there are not as many rows as there are to be
  pub AreNoRows-rest : (count : ℕ) → ((i : ℕ) → i < length rest → get_or rest i 0 ≢ 10) → (rest ≡ [] → done ≡ count → ⊥) → AreNoRows schema text count
  AreNoRows-rest count none end all are few = let begin = added.only all are in cases begin.later begin.split begin.lines
    where
      cases : (later : List Row) → all ≡ added.rows ++ later → rest ≡ flat_map (json_line schema) later → ⊥
      cases [] whole lines = end lines (sym added.count ∙ ap length (sym (append-nil added.rows) ∙ sym whole) ∙ few)
      cases (row ∷ more) whole lines =
          let line : Bytes = print (row_tokens schema row) in
          let after : Bytes = flat_map (json_line schema) more in
          let is : rest ≡ line ++ 10 ∷ after = lines ∙ ap (λ l. l ++ after) (json_line-print schema row) ∙ append_assoc line (10 ∷ []) after in
          none (length line) (omega (arith, ap length is, length-append line (10 ∷ after))) (ap (λ l. get_or l (length line) 0) is ∙ get_or-append_seam line 10 after 0)

  -- why the next row is none
  pub RowsFail-row : (line after : Bytes) (count : ℕ) (fault : PartFault) → EndsLine rest line after → rest ≡ line ++ 10 ∷ after → RowFails schema line last fault → RowsFail schema text count fault
  RowsFail-row line after count NotTable ends split fails = AreNoRows-line line after ends split fails count
  RowsFail-row line after count OtherColumns ends split fails = fails
  RowsFail-row line after count Memory ends split fails = tt
  RowsFail-row line after count TooMany ends split fails = tt
