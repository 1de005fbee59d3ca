use Rattle.std.specs.Ordering.{is_eq}
use Rattle.std.proofs.Common.{Some, rules, ◌<◌, ◌≤◌, ℕ, ap, sym, ◌∙◌, arith, inl, inr, ◌⊎◌}
use Rattle.span_table.specs.{KeyLaws.key_cmp-same, Keys.key_cmp, RowSearch.found_at, declared.table.Row.Row}
use Rattle.span_table.proofs.Searched.{answers_by, found_at-none, found_at-own, searchable}
use Rattle.span_table.proofs.row_search.search.Goals as goal

pub returns-in-Ok : goal.returns-in-Ok
returns-in-Ok c =
    let row = c.index-rows-i.result in
    let at = c.in-Ok.ensures.position (λ (r : Row). key_cmp r.key c.args.key.now) (answers_by (λ (r : Row). key_cmp r.key c.args.key.now) (λ a r f' call. search rules)) row in
    let same = key_cmp-same row.key c.args.key.now (ap (λ (r : Row). key_cmp r.key c.args.key.now) c.index-rows-i.is ∙ at) in
    ap Some c.row.ensures ∙ sym (found_at-own c.args.rows.now c.requires row c.in-Ok.i c.in-Ok.ensures.bound (sym c.index-rows-i.is)) ∙ ap (found_at c.args.rows.now) same

pub returns-in-Err : goal.returns-in-Err
returns-in-Err c =
    let parted = c.in-Err.ensures.position (λ (r : Row). key_cmp r.key c.args.key.now) (answers_by (λ (r : Row). key_cmp r.key c.args.key.now) (λ a r f' call. search rules)) (searchable c.args.key.now c.args.rows.now c.requires) in
    sym (found_at-none c.args.key.now c.args.rows.now (λ k d low. elim (sides k c.in-Err.i) [
      | inl below ↦ ap is_eq (parted.0 k d (omega arith) below)
      | inr above ↦ ap is_eq (parted.1 k d above low)
    ]))
  where
    sides : (k i : ℕ) → (k < i) ⊎ (i ≤ k)
    sides k i = search arith
