use Rattle.std.specs.Prelude.{flat_map}
use Rattle.std.proofs.Common.{◌≡◌, List, ◌++◌, length, refl, ap, ap₂, ◌∙◌, append_assoc}
use Rattle.span_comparisons.specs.{Bytes, first_line, unit_line, titles_line, Row, Schema, shown_line, Changes.{changes_of, compared, same_count, shown_changes}, Comparison.{changed_titles, compared_heads, compared_numbers, numbers_line, same_line}, First.first_lines}
use Rattle.span_comparisons.proofs.comparisons.comparison.Goals as goal

-- a text to which six more were appended
appended : (s t u v w x y a b c d e f g : Bytes) → s ≡ a → t ≡ s ++ b → u ≡ t ++ c → v ≡ u ++ d → w ≡ v ++ e → x ≡ w ++ f → y ≡ x ++ g
    → y ≡ a ++ (b ++ (c ++ (d ++ (e ++ (f ++ g)))))
appended s t u v w x y a b c d e f g first second third fourth fifth sixth last =
    last
    ∙ ap (λ l. l ++ g) (sixth ∙ ap (λ l. l ++ f) (fifth ∙ ap (λ l. l ++ e) (fourth ∙ ap (λ l. l ++ d) (third ∙ ap (λ l. l ++ c) (second ∙ ap (λ l. l ++ b) first)))))
    ∙ joined
  where
    joined : (((((a ++ b) ++ c) ++ d) ++ e) ++ f) ++ g ≡ a ++ (b ++ (c ++ (d ++ (e ++ (f ++ g)))))
    joined = simp append_assoc refl

pub returns : goal.returns
returns c =
    let asked = c.args.asked.now in
    let wanted = asked.shown.now in
    let schema = c.schema-schema.ensures in
    let columns = c.deref-4.ensures.value ∙ ap (λ (s : Schema). s.columns) (c.schema.view_is ∙ schema) in
    let own = c.deref.ensures.value ∙ ap (λ (s : Schema). s.numbers) (c.schema.view_is ∙ schema) in
    let numbers = c.in_ok-numbers.ensures ∙ ap compared_numbers schema in
    let rows = c.rows.ensures.rows in
    let others = c.rows-2.ensures.rows in
    let found = c.in_ok-found.ensures in
    let counts = c.counts.ensures in
    let other_counts = c.counts-2.ensures in
    let shown = found.shown ∙ ap₂ (λ (b o : List Row). length (shown_changes wanted (compared b o))) rows others in
    let all = found.all ∙ ap₂ (λ (b o : List Row). length (compared b o)) rows others in
    let same = found.same ∙ ap₂ (λ (b o : List Row). same_count (shown_changes wanted (compared b o))) rows others in
    let titles = c.deref-3.ensures.value ∙ c.in_ok-titles.ensures ∙ ap (flat_map changed_titles) (c.deref-2.ensures.value ∙ numbers) in
    let lines = c.deref-5.ensures.value ∙ numbers in
    let changes = c.deref-6.ensures.value ∙ found.changes ∙ (λ i. changes_of asked.by (own i) (shown_changes wanted (compared (rows i) (others i)))) in
    (λ i. (c.into_bytes.ensures.value i).items)
    ∙ appended _ _ _ _ _ _ _ _ _ _ _ _ _ _ c.in_ok-out.ensures c.in_ok-put_unit.ensures c.in_ok-put_heads.ensures c.in_ok-put_shown.ensures c.in_ok-put_titles.ensures c.in_ok-put_first_changes.ensures c.in_ok-put_same.ensures
    ∙ (λ i. first_line ++ (unit_line asked.unit ++ (compared_heads c.args.says_runs (counts i) (other_counts i) ++ (shown_line wanted (shown i) (all i) ++
    (titles_line (titles i) (columns i) ++ (first_lines (numbers_line (lines i)) asked.most (changes i) ++ same_line (same i)))))))
