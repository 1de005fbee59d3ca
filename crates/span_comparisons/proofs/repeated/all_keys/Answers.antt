use Rattle.std.proofs.{Common.{◌≡◌, List, ◌++◌, map, sym, ap, ◌∙◌}, lemmas.List.{Concat.flat_map-append, Filters.dedup_is}}
use Rattle.span_comparisons.specs.{ascending, Row, TableKey, key_cmp, SpanTable, Spreads.keys_of}
use Rattle.span_comparisons.proofs.RepeatedKeys.{dedup-ascending}
use Rattle.span_comparisons.proofs.repeated.all_keys.Goals as goal

pub returns : goal.returns
returns c =
    let base = c.args.base.now in
    let other = c.args.other.now in
    let pushed = c.push_keys-2.new.keys.items in
    let ordered = c.sort.new.self.items in
    let both : map (λ key. key.now) pushed ≡ keys_of (base ++ other) =
    c.in_ok-push_keys-2.ensures
    ∙ ap (λ (keys : List TableKey). keys ++ keys_of other) (c.in_ok-push_keys.ensures ∙ ap (λ l. map (λ key. key.now) l ++ keys_of base) c.new-keys.ensures.items)
    ∙ sym (flat_map-append (λ (table : SpanTable). map (λ (row : Row). row.key) table.rows) base other) in
    ap (map (λ key. key.now)) (dedup_is _ _ _ c.dedup.ensures.filtered)
    ∙ dedup-ascending (λ key. key.now) pushed ordered c.in_ok-sort.ensures.permutation c.in_ok-sort.ensures.sorted
    ∙ ap (ascending key_cmp) both
