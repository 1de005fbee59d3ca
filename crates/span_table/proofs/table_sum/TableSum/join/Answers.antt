use Rattle.std.proofs.{Common.{◌≡◌, ◌+◌, ◌<◌, ◌^◌, [], ◌∷◌, sym, ap₂, subst, ◌∙◌, arith}, lemmas.{Grind.common_steps, List.nil_from_length}}
use Rattle.span_table.specs.{Adding.{SummedTable, add_tables}, Kept.{IsSummed, rows_with}, Tables.{SumsByKey}}
use Rattle.span_table.proofs.Kept.{IsSummed-rows, IsSummed-taken, JoinsRuns-added, rows_with-all, rows_with-joined}
use Rattle.span_table.proofs.table_sum.TableSum.join.Goals as goal

-- the rows of the other are taken
pub invariant_of-result : goal.invariant_of-result
invariant_of-result c =
    let one = c.self.inside in
    let is = c.self.invariant in
    let few : one.parts + c.other.inside.parts < 2 ^ 32 = omega arith in
    IsSummed-taken (one.parts + c.other.inside.parts) one.rows.items one.groups c.add_all.new.self _ few is.rise is.kept_rise c.in_ok-add_all.ensures

pub returns-then-is_empty : goal.returns-then-is_empty
returns-then-is_empty c =
    let one = c.self.inside in
    let two = c.other.inside in
    let none : two.rows.items ≡ [] = nil_from_length two.rows.items (grind (arith, common_steps)) in
    let new = c.add_all.new.self in
    let rows = rows_with-all one.rows.items two.rows.items one.groups new two.groups none c.self.invariant.kept_rise c.other.invariant.kept_rise c.in_ok-add_all.ensures in
    let both : SummedTable = record { parts = one.parts + two.parts; table = record { schema = one.schema; counts = c.in_ok-counts.counts; rows = rows_with one.rows.items new } } in
    let added = (λ i. record { schema = one.schema; counts = c.in_ok-counts.ensures i; rows = rows i })
    ∙ ap₂ (λ (a b : SummedTable). add_tables a.table.schema (a.table ∷ b.table ∷ [])) c.self.view_is c.other.view_is in
    let parts : one.parts + two.parts ≡ c.args.self.parts + c.args.other.parts = ap₂ (λ (a b : SummedTable). a.parts + b.parts) c.self.view_is c.other.view_is in
    record { added = added; runs = JoinsRuns-added c.args.self c.args.other both added parts; parts = parts; few = omega (arith, parts); too_many = tt }

-- both in order are merged
pub invariant_of-result-2 : goal.invariant_of-result-2
invariant_of-result-2 c =
    let parts = c.self.inside.parts + c.other.inside.parts in
    let few : parts < 2 ^ 32 = omega arith in
    subst (λ (kept : SumsByKey). IsSummed parts c.in_ok-merged.field-0.items kept) (sym c.none_beside-groups.ensures)
    (IsSummed-rows parts c.in_ok-merged.field-0.items few c.in_ok-merged.ensures.rise)

pub returns : goal.returns
returns c =
    let one = c.self.inside in
    let two = c.other.inside in
    let rows = rows_with-joined (rows_with one.rows.items one.groups) (rows_with two.rows.items two.groups) c.in_ok-rows.rows.items c.in_ok-more.more.items c.in_ok-merged.field-0.items c.none_beside-groups.result
    c.in_ok-rows.ensures.rows c.in_ok-more.ensures.rows c.in_ok-merged.ensures.rows c.none_beside-groups.ensures in
    let both : SummedTable = record { parts = one.parts + two.parts; table = record { schema = one.schema; counts = c.in_ok-counts.counts; rows = rows_with c.in_ok-merged.field-0.items c.none_beside-groups.result } } in
    let added = (λ i. record { schema = one.schema; counts = c.in_ok-counts.ensures i; rows = rows i })
    ∙ ap₂ (λ (a b : SummedTable). add_tables a.table.schema (a.table ∷ b.table ∷ [])) c.self.view_is c.other.view_is in
    let parts : one.parts + two.parts ≡ c.args.self.parts + c.args.other.parts = ap₂ (λ (a b : SummedTable). a.parts + b.parts) c.self.view_is c.other.view_is in
    record { added = added; runs = JoinsRuns-added c.args.self c.args.other both added parts; parts = parts; few = omega (arith, parts); too_many = tt }
