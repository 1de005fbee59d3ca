-- Sides as they come together.
use Rattle.std.proofs.{Common.{◌≡◌, Bool, List, [], ◌++◌, inl, inr, refl}}
use Rattle.span_event.specs.declared.unit.Unit.TheVariants.{Microseconds}
use Rattle.span_table.specs.declared.of.Of.TheVariants.{Spans}
use Rattle.span_request.specs.declared.tasks.Items.TheVariants.{Apart as EachApart, Printed, Together}
use Rattle.span_tasks.specs.{Bytes, Listed, Name, SourceBytes, Items, PartSum, Schema, TableOptions, table_of, Sides.{AreBothGathered, Gathers, IsGathered, StopSides, StopsOneSide, StopsSide}, declared.side.Side.Side}

-- a schema of nothing
no-schema : Schema
no-schema = record { of = Spans; columns = []; numbers = [] }

-- parts of no tables, where no kind is asked for
pub no-parts : PartSum
no-parts = record {
  unit = Microseconds;
  schema = no-schema;
  choice = record { places = []; numbers = [] };
  sum = table_of no-schema [];
}

module _ (source : SourceBytes) (options : TableOptions) (each : Bool) where
  Gathers-runs : (items : Items) (one other : PartSum) (files : Listed) (side : Side) → (items ≡ Printed → ⊥) → Gathers source items options each one files side → Gathers source items options each other files side
  Gathers-runs (Together settings) one other files side runs is = is
  Gathers-runs (EachApart settings) one other files side runs is = is
  Gathers-runs Printed one other files side runs is = absurd (runs refl)

  StopsSide-runs : (items : Items) (parts : PartSum) (names : List Name) (lines : Bytes) → (items ≡ Printed → ⊥) → StopsOneSide source items options each names lines → StopsSide source items each parts names lines
  StopsSide-runs (Together settings) parts names lines runs (inl kind) = absurd kind
  StopsSide-runs (Together settings) parts names lines runs (inr (other, kind, stops)) = stops
  StopsSide-runs (EachApart settings) parts names lines runs (inl kind) = absurd kind
  StopsSide-runs (EachApart settings) parts names lines runs (inr (other, kind, stops)) = stops
  StopsSide-runs Printed parts names lines runs stops = absurd (runs refl)

  -- both sides of runs are two sides
  pub AreBothGathered-runs : (items : Items) (base_files files : Listed) (base other : Side) → (items ≡ Printed → ⊥) → IsGathered source items options each base_files base →
      IsGathered source items options each files other → AreBothGathered source items options each base_files files base other
  AreBothGathered-runs items base_files files base other runs one another = record {
    parts = one.parts;
    kind = one.kind;
    earlier = one.is;
    later = Gathers-runs items another.parts one.parts files other runs another.is;
  }

  -- and the second may stop behind the first
  pub StopSides-runs : (items : Items) (base_files files : Listed) (base : Side) (own lines : Bytes) → (items ≡ Printed → ⊥) → IsGathered source items options each base_files base →
      StopsOneSide source items options each files.names.items own → lines ≡ base.said.lines.items ++ own → StopSides source items options each base_files files lines
  StopSides-runs items base_files files base own lines runs one stops said = inr (record {
    parts = one.parts;
    kind = one.kind;
    base = base;
    earlier = one.is;
    own = own;
    later = StopsSide-runs items one.parts files.names.items own runs stops;
    said = said;
  })
