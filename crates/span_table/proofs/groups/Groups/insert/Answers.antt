use Rattle.std.specs.{BTreeMap.insert_entry, Prelude.unwrap_or}
use Rattle.std.proofs.Common.{◌≡◌, [], refl, sym, ap, ◌∙◌}
use Rattle.span_keyed_tracks.proofs.InKeyOrder.{in_key_order-put}
use Rattle.span_table.specs.{in_key_order, KeyLaws.{key_cmp_total, key_cmp-same}, Keys.key_cmp, Tables.{SumsByKey, sums_together}}
use Rattle.span_table.proofs.{Summing.sums-added, Tallies.with_sums-none}
use Rattle.span_table.proofs.groups.Groups.insert.Goals as goal

pub returns : goal.returns
returns c =
    let es = c.self.inside.kept.entries in
    let key = c.args.key in
    let more = c.args.more in
    let after = c.insert.new.self.entries in
    let updates = c.in_ok-insert.ensures.updates in
    let written : in_key_order key_cmp after ≡ insert_entry key_cmp (in_key_order key_cmp es) key more =
    in_key_order-put key_cmp_total key_cmp-same (λ a b. refl) es after key more c.self.invariant c.in_ok-insert.ensures.unique updates.1 updates.2 c.in_ok-insert.ensures.entries in
    let takes = sums-added key (sums_together []) more more c.args.self.now (in_key_order key_cmp after) (ap (λ s. unwrap_or s (sums_together [])) c.requires.new) (sym (with_sums-none more))
    (written ∙ ap (λ (kept : SumsByKey). insert_entry key_cmp kept key more) c.self.view_is) in
    record { takes = takes; err = tt }
