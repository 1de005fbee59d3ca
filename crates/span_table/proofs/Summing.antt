-- What is kept of sums by key, once more are added.
use Rattle.std.specs.{BTreeMap.{insert_entry, is_at}, List.Sorted.IsStrictlySortedBy, Map.{keys_of, lookup}, Prelude.{OnOk, Result, unwrap_or}, declared.alloc.AllocError.AllocError}
use Rattle.std.proofs.{Common.{◌≡◌, ℕ, ◌+◌, ◌<◌, ◌≤◌, List, [], ◌∷◌, ◌++◌, append_assoc, get_or, length, map, take, sym, ap, subst, ◌∙◌}, lemmas.List.{take_all, take_more}}
use Rattle.span_keyed_tracks.proofs.{Keyed.{entries_in-insert_entry, keys_of-made, kept_at-entries_in}, Sorted.ascending-sorted}
use Rattle.span_table.specs.{Keyed, keys_in, steps_at, Collected.Takes, KeyLaws.{key_cmp_total, key_cmp-same}, Keys.{TableKey, key_cmp}, Sums.with_sums, Tables.{KeyedSums, SumsByKey, summed, sums_together}, declared.sums.Sums.Sums}
use Rattle.span_table.proofs.Tallies.{sums_together-push}

-- keys that are kept rise
pub summed-sorted : (sums : KeyedSums) → IsStrictlySortedBy key_cmp (keys_of (summed sums))
summed-sorted sums = rw (keys_of-made (λ key. sums_together (steps_at key_cmp key sums)) (keys_in key_cmp sums)) (ascending-sorted key_cmp_total (map (λ (e : Keyed TableKey Sums). e.key) sums))

-- sums that are added to those of their key, or to none, are taken
pub sums-added : (key : TableKey) (was more now : Sums) (old new : SumsByKey) → unwrap_or (lookup (is_at (key_cmp key)) old) (sums_together []) ≡ was → now ≡ with_sums was more → new ≡ insert_entry key_cmp old key now →
    Takes old new (record { key = key; step = more } ∷ [])
sums-added key was more now old new found is written = record {
  sums = λ sums kept.
      let e : Keyed TableKey Sums = record { key = key; step = more } in
      let here : was ≡ sums_together (steps_at key_cmp key sums) =
      sym found ∙ ap (λ es. unwrap_or (lookup (is_at (key_cmp key)) es) (sums_together [])) kept ∙ kept_at-entries_in key_cmp_total key_cmp-same sums_together sums key in
      written ∙ entries_in-insert_entry key_cmp_total key_cmp-same sums_together sums e old now kept (subst (λ es. IsStrictlySortedBy key_cmp (keys_of es)) (sym kept) (summed-sorted sums))
      (is ∙ ap (λ s. with_sums s more) here ∙ sym (sums_together-push (steps_at key_cmp key sums) more));
}

-- so they are where they are of this key
pub taken-as : (result : Result (Unit {0}) AllocError) (key own : TableKey) (more sums : Sums) (old new : SumsByKey) → key ≡ own → more ≡ sums →
    OnOk result (Takes old new (record { key = key; step = more } ∷ [])) → OnOk result (Takes old new (record { key = own; step = sums } ∷ []))
taken-as result key own more sums old new is of takes = subst (λ (e : Keyed TableKey Sums). OnOk result (Takes old new (e ∷ []))) (λ i. record { key = is i; step = of i }) takes

-- sums of items that are taken one after another
module _ {A : Type 0} (all : List A → KeyedSums) (each : A → KeyedSums) (push : (items : List A) (item : A) → all (items ++ item ∷ []) ≡ all items ++ each item) (items : List A) (old : SumsByKey) where
  -- one more is taken
  pub Takes-next : (at : ℕ) (item : A) (new newer : SumsByKey) → at < length items → item ≡ get_or items at item → Takes old new (all (take at items)) → Takes new newer (each item) →
      Takes old newer (all (take (at + 1) items))
  Takes-next at item new newer low is before after = record {
    sums = λ sums kept.
        after.sums (sums ++ all (take at items)) (before.sums sums kept)
        ∙ ap summed (append_assoc sums (all (take at items)) (each item) ∙ ap (λ l. sums ++ l) (sym (push (take at items) item)))
        ∙ ap (λ l. summed (sums ++ all l)) (ap (λ x. take at items ++ x ∷ []) is ∙ sym (take_more items at item low));
  }

  -- all are
  pub Takes-all : (at : ℕ) (new : SumsByKey) → length items ≤ at → Takes old new (all (take at items)) → Takes old new (all items)
  Takes-all at new long taken = record { sums = λ sums kept. taken.sums sums kept ∙ ap (λ l. summed (sums ++ all l)) (take_all at items long) }
