-- Tables that are added, one more, and what stopped among them.
use Rattle.std.specs.{List.AllZip, Prelude.{All, Bool, true, false}}
use Rattle.span_table.specs.Adding.{add_tables}
use Rattle.span_parts.specs.{Sum.{ChoosesOf, FirstFails, JoinsParts, PartFails}, declared.fault.PartFault.{PartFault, TheVariants.{Memory, NotTable, OtherColumns, TooMany}}}
use Rattle.std.proofs.{Common.{◌≡◌, ℕ, suc, ◌<◌, List, [], ◌∷◌, ◌++◌, length, take, drop, inl, inr, refl, ap, sym, subst, ◌∙◌, append_assoc}, Math.{ListN.get_or, Seq.drop-cons}, lemmas.List.{take-append-drop, Elements.All-head}}
use Rattle.span_parts.proofs.Taken.{JoinsParts-added}
use Rattle.span_tasks.specs.{Bytes, AskedParts, Chooses, HasOtherSchema, HasSchema, IsPart, LacksAsked, PartSum, SumsParts, TakesNone, AreParts, SourceBytes, Name, TimeUnit, Schema, SpanTable, Added.{Adds, AddsBeside, AddsEach, BeginsWith, IsOfKind, IsText, SaysPart, StopsAdding, StopsNext, TakesName, with_sum}, Sides.{AddTo, StopsLater}}

pub AllZip-append : {A B : Type 0} (R : A → B → Type 0) (xs more : List A) (ys others : List B) → AllZip R xs ys → AllZip R more others → AllZip R (xs ++ more) (ys ++ others)
AllZip-append R [] more [] others one other = other
AllZip-append R [] more (y ∷ ys) others one other = absurd one
AllZip-append R (x ∷ xs) more [] others one other = absurd one
AllZip-append R (x ∷ xs) more (y ∷ ys) others one other = (one.0, AllZip-append R xs more ys others one.1 other)

-- names up to this place, this one and those behind it are all
split-at : {A : Type 0} (xs : List A) (place : ℕ) (x : A) → place < length xs → x ≡ get_or xs place x → xs ≡ take place xs ++ x ∷ drop (suc place) xs
split-at xs place x low is = sym (ap (λ n. take place xs ++ n ∷ drop (suc place) xs) is ∙ ap (λ ns. take place xs ++ ns) (sym (drop-cons xs place x low)) ∙ take-append-drop place xs)

-- what is chosen is what is of parts of the same schema
pub Chooses-same : (asked : AskedParts) (old new : PartSum) → new.schema ≡ old.schema → new.choice ≡ old.choice → Chooses asked old → Chooses asked new
Chooses-same asked old new schema choice chooses =
    subst (λ s. ChoosesOf asked s new.choice) (sym schema) (subst (λ c. ChoosesOf asked old.schema c) (sym choice) chooses)

-- the text whose part alone is added is of the kind of its sum
HasSchema-only : (text : Bytes) (sum : PartSum) → SumsParts (text ∷ []) sum → HasSchema sum.schema sum.unit text
HasSchema-only text sum sums = by sums.parts sums.are sums.schemas
  where
    by : (parts : List SpanTable) → AreParts sum.unit (text ∷ []) parts → All (λ (part : SpanTable). part.schema ≡ sum.schema) parts → HasSchema sum.schema sum.unit text
    by [] are schemas = absurd are
    by (part ∷ parts) are schemas = record { part = part; is = are.0; by = All-head (λ (p : SpanTable). p.schema ≡ sum.schema) part parts schemas }

-- sums of one kind
pub with_sum-same : (one other : PartSum) (table : SpanTable) → other.unit ≡ one.unit → other.schema ≡ one.schema → other.choice ≡ one.choice → with_sum other table ≡ with_sum one table
with_sum-same one other table unit schema choice = λ i. record { unit = unit i; schema = schema i; choice = choice i; sum = table }

module _ (source : SourceBytes) where
  -- what is added to parts is added to others of their kind
  pub Adds-same : (one other : PartSum) (names : List Name) (table : SpanTable) → with_sum other table ≡ with_sum one table → Adds source other names table → Adds source one names table
  Adds-same one other names table same adds = record { texts = adds.texts; read = adds.read; sums = subst (SumsParts adds.texts) same adds.sums }

  -- none beside a kind
  pub AddsBeside-none : (kind none : PartSum) → TakesNone kind none → AddsBeside source kind [] none
  AddsBeside-none kind none takes = record { texts = []; read = tt; unit = takes.unit; schema = takes.schema; choice = takes.choice; sums = takes.sums }

  -- the first alone
  pub AddsBeside-first : (name : Name) (first : PartSum) → BeginsWith source name first → AddsBeside source first (name ∷ []) first
  AddsBeside-first name first begins = record { texts = begins.text ∷ []; read = (begins.read, tt); unit = refl; schema = refl; choice = refl; sums = begins.sums }

  -- the table of the first is of the kind of its sum
  pub IsOfKind-first : (name : Name) (first : PartSum) → BeginsWith source name first → IsOfKind source name first
  IsOfKind-first name first begins = (begins.text, begins.read, HasSchema-only begins.text first begins.sums)

  -- and of parts of that kind
  pub IsOfKind-beside : (name : Name) (first kind : PartSum) → TakesNone first kind → IsOfKind source name first → IsOfKind source name kind
  IsOfKind-beside name first kind takes (text, read, has) = (
    text,
    read,
    record { part = has.part; is = subst (λ (unit : TimeUnit). IsPart unit text has.part) (sym takes.unit) has.is; by = has.by ∙ sym takes.schema },
  )

  -- one more, behind others
  pub AddsBeside-push : (kind : PartSum) (names : List Name) (name : Name) (old new : PartSum) → AddsBeside source kind names old → TakesName source name old new → AddsBeside source kind (names ++ name ∷ []) new
  AddsBeside-push kind names name old new beside takes = record {
    texts = beside.texts ++ takes.text ∷ [];
    read = AllZip-append (IsText source) names (name ∷ []) beside.texts (takes.text ∷ []) beside.read (takes.read, tt);
    unit = takes.takes.unit ∙ beside.unit;
    schema = takes.takes.schema ∙ beside.schema;
    choice = takes.takes.choice ∙ beside.choice;
    sums = takes.takes.sums beside.texts beside.sums;
  }

  -- two sums of one kind, joined
  pub AddsBeside-append : (kind : PartSum) (names more : List Name) (one other both : PartSum) → AddsBeside source kind names one → AddsBeside source kind more other → JoinsParts one other both → AddsBeside source kind (names ++ more) both
  AddsBeside-append kind names more one other both first second joins = record {
    texts = first.texts ++ second.texts;
    read = AllZip-append (IsText source) names more first.texts second.texts first.read second.read;
    unit = joins.unit ∙ first.unit;
    schema = joins.schema ∙ first.schema;
    choice = joins.choice ∙ first.choice;
    sums = joins.sums first.texts second.texts (second.unit ∙ sym first.unit) (second.schema ∙ sym first.schema) (second.choice ∙ sym first.choice) first.sums second.sums;
  }

  -- what is added beside a kind is added to it
  pub Adds-beside : (kind : PartSum) (names : List Name) (sum : PartSum) → AddsBeside source kind names sum → Adds source kind names sum.sum
  Adds-beside kind names sum beside = record {
    texts = beside.texts;
    read = beside.read;
    sums = subst (SumsParts beside.texts) (with_sum-same kind sum sum.sum beside.unit beside.schema beside.choice) beside.sums;
  }

  -- and the other way round
  AddsBeside-of : (kind : PartSum) (names : List Name) (table : SpanTable) → Adds source kind names table → AddsBeside source kind names (with_sum kind table)
  AddsBeside-of kind names table adds = record { texts = adds.texts; read = adds.read; unit = refl; schema = refl; choice = refl; sums = adds.sums }

  -- at the name of this place, behind others
  pub StopsLater-sum : (done names : List Name) (place : ℕ) (name : Name) (kind middle : PartSum) (lines : Bytes) → place < length names → name ≡ get_or names place name →
      AddsBeside source kind (done ++ take place names) middle → StopsAdding source (HasOtherSchema middle.schema middle.unit) name lines → StopsLater source false kind (done ++ names) lines
  StopsLater-sum done names place name kind middle lines low is beside stops = record {
    done = done ++ take place names;
    later = name ∷ drop (suc place) names;
    split = ap (λ ns. done ++ ns) (split-at names place name low is) ∙ sym (append_assoc done (take place names) (name ∷ drop (suc place) names));
    tables = middle.sum ∷ [];
    added = (middle.sum, Adds-beside kind (done ++ take place names) middle beside, refl);
    cause = subst (λ (schema : Schema). StopsAdding source (HasOtherSchema schema kind.unit) name lines) beside.schema
        (subst (λ (unit : TimeUnit). StopsAdding source (HasOtherSchema middle.schema unit) name lines) beside.unit stops);
  }

  -- with more names after them
  pub StopsLater-append : (each : Bool) (kind : PartSum) (names more : List Name) (lines : Bytes) → StopsLater source each kind names lines → StopsLater source each kind (names ++ more) lines
  StopsLater-append each kind names more lines stops = record {
    done = stops.done;
    later = stops.later ++ more;
    split = ap (λ (ns : List Name). ns ++ more) stops.split ∙ append_assoc stops.done stops.later more;
    tables = stops.tables;
    added = stops.added;
    cause = next stops.later stops.cause;
  }
    where
      next : (later : List Name) → StopsNext source kind later lines → StopsNext source kind (later ++ more) lines
      next [] cause = absurd cause
      next (name ∷ later) cause = cause

  -- behind names that were added
  pub StopsLater-behind : (kind : PartSum) (names more : List Name) (one : PartSum) (lines : Bytes) → AddsBeside source kind names one → StopsLater source false kind more lines → StopsLater source false kind (names ++ more) lines
  StopsLater-behind kind names more one lines first stops =
      let table = stops.added.0 in
      let both = add_tables one.sum.schema (one.sum ∷ table ∷ []) in
      let other = with_sum kind table in
      let joins = JoinsParts-added one other both refl in
      let sum : PartSum = record { unit = one.unit; schema = one.schema; choice = one.choice; sum = both } in
      record {
        done = names ++ stops.done;
        later = stops.later;
        split = ap (λ (ns : List Name). names ++ ns) stops.split ∙ sym (append_assoc names stops.done stops.later);
        tables = both ∷ [];
        added = (both, Adds-beside kind (names ++ stops.done) sum (AddsBeside-append kind names stops.done one other sum first (AddsBeside-of kind stops.done table stops.added.1) joins), refl);
        cause = stops.cause;
      }

  -- the first alone
  pub Adds-only : (name : Name) (first : PartSum) → BeginsWith source name first → Adds source first (name ∷ []) first.sum
  Adds-only name first begins = record { texts = begins.text ∷ []; read = (begins.read, tt); sums = begins.sums }

  -- one more of each, behind the others
  pub AddsEach-push : (parts : PartSum) (names : List Name) (name : Name) (tables : List SpanTable) (table : SpanTable) → AddsEach source parts names tables → Adds source parts (name ∷ []) table → AddsEach source parts (names ++ name ∷ []) (tables ++ table ∷ [])
  AddsEach-push parts names name tables table each adds = AllZip-append (λ n t. Adds source parts (n ∷ []) t) names (name ∷ []) tables (table ∷ []) each (adds, tt)

  -- at the name of this place, behind a table of each
  pub StopsLater-at : (names : List Name) (place : ℕ) (name : Name) (parts : PartSum) (tables : List SpanTable) (lines : Bytes) → place < length names → name ≡ get_or names place name →
      AddsEach source parts (take place names) tables → StopsAdding source (HasOtherSchema parts.schema parts.unit) name lines → StopsLater source true parts names lines
  StopsLater-at names place name parts tables lines low is each stops = record {
    done = take place names;
    later = name ∷ drop (suc place) names;
    split = split-at names place name low is;
    tables = tables;
    added = each;
    cause = stops;
  }

  -- behind a first, where each stands for itself
  pub StopsLater-each : (name : Name) (names : List Name) (first : PartSum) (lines : Bytes) → BeginsWith source name first → StopsLater source true first names lines → StopsLater source true first (name ∷ names) lines
  StopsLater-each name names first lines begins stops = record {
    done = name ∷ stops.done;
    later = stops.later;
    split = ap (λ (ns : List Name). name ∷ ns) stops.split;
    tables = first.sum ∷ stops.tables;
    added = (Adds-only name first begins, stops.added);
    cause = stops.cause;
  }

  -- why a table was not added
  pub StopsAdding-part : (name : Name) (text : Bytes) (schema : Schema) (unit : TimeUnit) (fault : PartFault) → IsText source name text → PartFails schema unit text fault → (lines : Bytes) →
      SaysPart name fault lines → StopsAdding source (HasOtherSchema schema unit) name lines
  StopsAdding-part name text schema unit NotTable read fails lines says = inl (inr (inr (text, read, fails, says)))
  StopsAdding-part name text schema unit OtherColumns read fails lines says = inr (text, read, fails, says)
  StopsAdding-part name text schema unit Memory read fails lines says = absurd says
  StopsAdding-part name text schema unit TooMany read fails lines says = absurd says

  -- why a first table is none of the kind that is asked for
  pub StopsAdding-first : (name : Name) (text : Bytes) (asked : AskedParts) (fault : PartFault) → IsText source name text → FirstFails asked text fault → (lines : Bytes) →
      SaysPart name fault lines → StopsAdding source (LacksAsked asked) name lines
  StopsAdding-first name text asked NotTable read fails lines says = inl (inr (inr (text, read, fails, says)))
  StopsAdding-first name text asked OtherColumns read fails lines says = inr (text, read, fails, says)
  StopsAdding-first name text asked Memory read fails lines says = absurd says
  StopsAdding-first name text asked TooMany read fails lines says = absurd says

  -- a table of each of the names, by other words
  AllZip-weaker : {A B : Type 0} (R T : A → B → Type 0) → ((x : A) (y : B) → R x y → T x y) → (xs : List A) (ys : List B) → AllZip R xs ys → AllZip T xs ys
  AllZip-weaker R T weaker [] [] all = all
  AllZip-weaker R T weaker [] (y ∷ ys) all = absurd all
  AllZip-weaker R T weaker (x ∷ xs) [] all = absurd all
  AllZip-weaker R T weaker (x ∷ xs) (y ∷ ys) all = (weaker x y all.0, AllZip-weaker R T weaker xs ys all.1)

  -- what is added to a first is added to its kind
  pub AddTo-kind : (each : Bool) (first kind : PartSum) (names : List Name) (tables : List SpanTable) → TakesNone first kind → AddTo each source first names tables → AddTo each source kind names tables
  AddTo-kind false first kind names tables takes (table, adds, is) =
      (table, Adds-same kind first names table (sym (with_sum-same first kind table takes.unit takes.schema takes.choice)) adds, is)
  AddTo-kind true first kind names tables takes each =
      AllZip-weaker (λ (n : Name) (t : SpanTable). Adds source first (n ∷ []) t) (λ (n : Name) (t : SpanTable). Adds source kind (n ∷ []) t)
      (λ n t. Adds-same kind first (n ∷ []) t (sym (with_sum-same first kind t takes.unit takes.schema takes.choice))) names tables each
