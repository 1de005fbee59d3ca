use Rattle.std.proofs.{Common.{◌≡◌, [], sym, ap, subst, ◌∙◌}, lemmas.List.Elements.All-nil}
use Rattle.span_parts.specs.{add_tables, schema_by, IsSchema, SpanTable, Sum.PartSum}
use Rattle.span_parts.proofs.parts.Parts.of_none_beside.Goals as goal

pub invariant_of-result : goal.invariant_of-result
invariant_of-result c =
    let cloned = c.in_ok-try_clone.ensures in
    let places = c.in_ok-copy_of_places.ensures ∙ c.deref.ensures.value in
    let own = c.in_ok-try_clone-2.ensures ∙ c.schema.ensures in
    let kept = ap (λ (t : SpanTable). t.schema) c.new.ensures.table ∙ own in
    let same : schema_by (record { places = c.self.inside.places.items; numbers = c.self.inside.sum.table.schema.numbers }) c.self.inside.schema ≡ schema_by (record { places = c.in_ok-copy_of_places.field-0.items; numbers = c.new.result.table.schema.numbers }) c.in_ok-try_clone.field-0 = λ i. schema_by (record { places = sym places i; numbers = (sym kept i).numbers }) (sym cloned i) in
    record { fit = subst IsSchema (sym cloned) c.self.invariant.fit; by = kept ∙ c.self.invariant.by ∙ same }

pub returns : goal.returns
returns c =
    let cloned = c.in_ok-try_clone.ensures in
    let places = c.in_ok-copy_of_places.ensures ∙ c.deref.ensures.value in
    let own = c.in_ok-try_clone-2.ensures ∙ c.schema.ensures in
    let kept = ap (λ (t : SpanTable). t.schema) c.new.ensures.table ∙ own in
    let same : schema_by (record { places = c.self.inside.places.items; numbers = c.self.inside.sum.table.schema.numbers }) c.self.inside.schema ≡ schema_by (record { places = c.in_ok-copy_of_places.field-0.items; numbers = c.new.result.table.schema.numbers }) c.in_ok-try_clone.field-0 = λ i. schema_by (record { places = sym places i; numbers = (sym kept i).numbers }) (sym cloned i) in
    record {
      unit = ap (λ (p : PartSum). p.unit) c.self.view_is;
      schema = cloned ∙ ap (λ (p : PartSum). p.schema) c.self.view_is;
      choice = (λ i. record { places = places i; numbers = (kept i).numbers }) ∙ ap (λ (p : PartSum). p.choice) c.self.view_is;
      sums = record {
        parts = [];
        are = tt;
        schemas = All-nil _;
        adds = c.new.ensures.table ∙ ap (λ s. add_tables s []) (own ∙ c.self.invariant.by ∙ same);
      };
    }
