-- A part that is added makes the sum of it and of those before.
use Rattle.std.specs.Prelude.{flat_map}
use Rattle.std.proofs.{Common.{◌≡◌, ◌≢◌, ℕ, List, [], ◌∷◌, ◌++◌, map, refl, sym, ap, subst, ◌∙◌}, lemmas.List.{map-append, Elements.{All-append, All-cons, All-nil, All-push}}}
use Rattle.span_table.proofs.Rows.{RowsRise-rows_of}
use Rattle.span_parts.specs.{Bytes, Unit as TimeUnit, Row, Choice, add_tables, chosen_from, keyed_rows, schema_by, with_counts, with_row, RowsRise, Schema, SpanTable, Rows.{row_at, with_rows}, Sum.{AreParts, Asked, ChoosesOf, FirstFails, IsAdded, IsByThese, JoinsParts, PartFails, PartSum, RefusesOthers, SumFails, SumsParts, TakesFirst, TakesPart}, declared.fault.PartFault.{PartFault, TheVariants.{NotTable, OtherColumns, Memory, TooMany}}}
use Rattle.span_parts.proofs.Summing.{add_tables-both, add_tables-more, with_rows-part}

-- rows that are added leave the schema
pub with_rows-schema : (choice : Choice) (rows : List Row) (table : SpanTable) → (with_rows choice rows table).schema ≡ table.schema
with_rows-schema choice [] table = refl
with_rows-schema choice (row ∷ rows) table = with_rows-schema choice rows (with_row table (row_at choice row))

-- and so does a part
pub added-schema : (schema : Schema) (unit : TimeUnit) (choice : Choice) (text : Bytes) (old new : SpanTable) → IsAdded schema unit choice text old new → new.schema ≡ old.schema
added-schema schema unit choice text old new added = ap (λ (t : SpanTable). t.schema) added.sum ∙ with_rows-schema choice added.part.rows (with_counts old added.part.counts)

-- a sum by the same schema has the same of its parts
pub IsByThese-same : (schema : Schema) (places : List ℕ) (old new : SpanTable) → new.schema ≡ old.schema →
    IsByThese schema (record { places = places; numbers = old.schema.numbers }) old → IsByThese schema (record { places = places; numbers = new.schema.numbers }) new
IsByThese-same schema places old new same by = record { fit = by.fit; by = same ∙ by.by ∙ (λ i. schema_by (record { places = places; numbers = (sym same i).numbers }) schema) }

-- the parts of two lists of texts
AreParts-append : (unit : TimeUnit) (texts more : List Bytes) (parts others : List SpanTable) → AreParts unit texts parts → AreParts unit more others → AreParts unit (texts ++ more) (parts ++ others)
AreParts-append unit [] more [] others first second = second
AreParts-append unit [] more (part ∷ parts) others first second = absurd first
AreParts-append unit (text ∷ texts) more [] others first second = absurd first
AreParts-append unit (text ∷ texts) more (part ∷ parts) others first second = (first.0, AreParts-append unit texts more parts others first.1 second)

-- a sum of tables, with a part
added-more : (schema : Schema) (choice : Choice) (tables : List SpanTable) (old part : SpanTable) → old ≡ add_tables schema tables →
    with_rows choice part.rows (with_counts old part.counts) ≡ add_tables schema (tables ++ chosen_from choice part ∷ [])
added-more schema choice tables old part is =
    with_rows-part choice old part (subst (λ (t : SpanTable). RowsRise t.rows) (sym is) (RowsRise-rows_of (flat_map (λ (table : SpanTable). keyed_rows table.rows) tables)))
    ∙ ap (λ (t : SpanTable). add_tables t.schema (t ∷ chosen_from choice part ∷ [])) is
    ∙ add_tables-more schema tables (chosen_from choice part)

pub TakesPart-added : (old : PartSum) (text : Bytes) (new : SpanTable) → IsAdded old.schema old.unit old.choice text old.sum new → TakesPart text old (record { unit = old.unit; schema = old.schema; choice = old.choice; sum = new })
TakesPart-added old text new added = record {
  unit = refl;
  schema = refl;
  choice = refl;
  sums = λ texts sums. record {
    parts = sums.parts ++ added.part ∷ [];
    are = AreParts-append old.unit texts (text ∷ []) sums.parts (added.part ∷ []) sums.are (added.is, tt);
    schemas = All-push (λ (part : SpanTable). part.schema ≡ old.schema) sums.parts added.part sums.schemas added.by;
    adds = added.sum ∙ added-more (schema_by old.choice old.schema) old.choice (map (chosen_from old.choice) sums.parts) old.sum added.part sums.adds
        ∙ ap (add_tables (schema_by old.choice old.schema)) (sym (map-append (chosen_from old.choice) sums.parts (added.part ∷ [])));
  };
}

-- the parts of another sum are added to those of a sum
pub JoinsParts-added : (one other : PartSum) (both : SpanTable) → both ≡ add_tables one.sum.schema (one.sum ∷ other.sum ∷ []) → JoinsParts one other (record { unit = one.unit; schema = one.schema; choice = one.choice; sum = both })
JoinsParts-added one other both is = record {
  unit = refl;
  schema = refl;
  choice = refl;
  sums = λ texts more unit schema choice first given.
      let second = subst (SumsParts more) (λ i. record { unit = unit i; schema = schema i; choice = choice i; sum = other.sum }) given in
      let by = schema_by one.choice one.schema in
      let tables = map (chosen_from one.choice) first.parts in
      let others = map (chosen_from one.choice) second.parts in
      record {
        parts = first.parts ++ second.parts;
        are = AreParts-append one.unit texts more first.parts second.parts first.are second.are;
        schemas = All-append (λ (part : SpanTable). part.schema ≡ one.schema) first.parts second.parts first.schemas second.schemas;
        adds = is ∙ ap (λ (t : SpanTable). add_tables t.schema (t ∷ other.sum ∷ [])) first.adds ∙ ap (λ t. add_tables by (add_tables by tables ∷ t ∷ [])) second.adds
            ∙ add_tables-both by tables others ∙ ap (add_tables by) (sym (map-append (chosen_from one.choice) first.parts second.parts));
      };
}

pub TakesFirst-added : (asked : Asked) (schema : Schema) (unit : TimeUnit) (choice : Choice) (text : Bytes) (old new : SpanTable) → ChoosesOf asked schema choice → old ≡ add_tables (schema_by choice schema) [] →
    IsAdded schema unit choice text old new → TakesFirst asked text (record { unit = unit; schema = schema; choice = choice; sum = new })
TakesFirst-added asked schema unit choice text old new chooses none added = record {
  chooses = chooses;
  sums = record {
    parts = added.part ∷ [];
    are = (added.is, tt);
    schemas = All-cons (λ (part : SpanTable). part.schema ≡ schema) added.part [] added.by (All-nil (λ (part : SpanTable). part.schema ≡ schema));
    adds = added.sum ∙ added-more (schema_by choice schema) choice [] old added.part none;
  };
}

-- what refuses a part of another schema or in another unit
pub PartFails-others : (schema own : Schema) (unit second : TimeUnit) (text : Bytes) (fault : PartFault) → (second ≡ unit → own ≢ schema) → RefusesOthers own second text fault → PartFails schema unit text fault
PartFails-others schema own unit second text NotTable differ fails = fails
PartFails-others schema own unit second text OtherColumns differ fails = record { own = second; part = fails.part; is = fails.is; other = λ one same. differ one (sym fails.by ∙ same) }
PartFails-others schema own unit second text Memory differ fails = tt
PartFails-others schema own unit second text TooMany differ fails = tt

pub FirstFails-others : (asked : Asked) (schema : Schema) (unit : TimeUnit) (text : Bytes) (fault : PartFault) → ((choice : Choice) → ChoosesOf asked schema choice → ⊥) → RefusesOthers schema unit text fault → FirstFails asked text fault
FirstFails-others asked schema unit text NotTable none fails = fails
FirstFails-others asked schema unit text OtherColumns none fails = record { unit = unit; part = fails.part; is = fails.is; lacks = λ choice chooses. none choice (subst (λ s. ChoosesOf asked s choice) fails.by chooses) }
FirstFails-others asked schema unit text Memory none fails = tt
FirstFails-others asked schema unit text TooMany none fails = tt

-- what refuses a sum
pub PartFails-sum : (schema : Schema) (unit : TimeUnit) (text : Bytes) (fault : PartFault) → SumFails text fault → PartFails schema unit text fault
PartFails-sum schema unit text NotTable fails = fails
PartFails-sum schema unit text OtherColumns fails = absurd fails
PartFails-sum schema unit text Memory fails = tt
PartFails-sum schema unit text TooMany fails = tt

pub FirstFails-sum : (asked : Asked) (text : Bytes) (fault : PartFault) → SumFails text fault → FirstFails asked text fault
FirstFails-sum asked text NotTable fails = fails
FirstFails-sum asked text OtherColumns fails = absurd fails
FirstFails-sum asked text Memory fails = tt
FirstFails-sum asked text TooMany fails = tt
