use Rattle.std.specs.Prelude.{length, position, unwrap_or}
use Rattle.std.proofs.Common.{◌≡◌, map, sym, ap, ap₂, subst, ◌∙◌}
use Rattle.indexmap.specs.{IndexMap.insert_all, IndexSet.insert_key as add_key}
use Rattle.span_keyed_tracks.specs.{Counters.TakesCounter, CountersKept.{AreNumbered, HasRoomIn, kept_series, named, next_entry, same_counter, same_numbered}}
use Rattle.span_keyed_tracks.proofs.{Results.if_ok-there, SeriesNumbers.{AreNumbered-grown, HasRoomIn-grown, TakesCounter-grown, number_in-place}}
use Rattle.span_keyed_tracks.proofs.counter_track.take.Goals as goal

pub next_entries-requires-clause-room : goal.next_entries-requires-clause-room
next_entries-requires-clause-room c =
    let counters = c.args.counters.now.keys in
    let entries = c.args.entries.now.entries in
    let counter = c.in_ok-counter.counter in
    let number = c.unwrap_or-number.result in
    let unchanged = c.in_ok-reserve-2.ensures.keys in
    let is : number ≡ unwrap_or (position (same_counter counter) counters) (length counters) =
    c.unwrap_or-number.ensures ∙ ap₂ unwrap_or (c.get_index_of.ensures.index ∙ ap (position (same_counter counter)) unchanged) (c.len.ensures.len ∙ ap length unchanged) in
    subst (λ es. HasRoomIn es number) (sym c.in_ok-reserve.ensures.entries)
    (HasRoomIn-grown counter counters entries c.requires.numbered number (is ∙ number_in-place counter counters) c.requires.room)

pub returns-clause-stands : goal.returns-clause-stands
returns-clause-stands c =
    let counters = c.args.counters.now.keys in
    let entries = c.args.entries.now.entries in
    let event = c.args.event.now in
    let counter = c.in_ok-counter.counter in
    let number = c.unwrap_or-number.result in
    let unchanged = c.in_ok-reserve-2.ensures.keys in
    let is : number ≡ unwrap_or (position (same_counter counter) counters) (length counters) =
    c.unwrap_or-number.ensures ∙ ap₂ unwrap_or (c.get_index_of.ensures.index ∙ ap (position (same_counter counter)) unchanged) (c.len.ensures.len ∙ ap length unchanged) in
    let keys : c.insert.new.self.keys ≡ add_key same_counter counters counter = if_ok-there c.insert.result _ c.if-is_err.ensures.value c.insert.ensures.keys ∙ ap (λ ks. add_key same_counter ks counter) unchanged in
    let same = c.in_ok-reserve.ensures.entries in
    let put : c.put_all.new.entries.entries ≡ insert_all same_numbered entries (map (next_entry entries number event) event.args) =
    c.put_all.ensures ∙ ap₂ (insert_all same_numbered) same (c.in_ok-next.ensures.next ∙ ap (λ es. map (next_entry es number event) event.args) same) in
    subst (λ es. TakesCounter (kept_series (named counters entries)) (kept_series es) event) (ap₂ named (sym keys) (sym put))
    (TakesCounter-grown counter counters entries c.requires.numbered number (is ∙ number_in-place counter counters) event c.in_ok-counter.ensures c.pairs.ensures.in_order c.requires.whole)

pub returns-clause-numbered : goal.returns-clause-numbered
returns-clause-numbered c =
    let counters = c.args.counters.now.keys in
    let entries = c.args.entries.now.entries in
    let event = c.args.event.now in
    let counter = c.in_ok-counter.counter in
    let number = c.unwrap_or-number.result in
    let unchanged = c.in_ok-reserve-2.ensures.keys in
    let is : number ≡ unwrap_or (position (same_counter counter) counters) (length counters) =
    c.unwrap_or-number.ensures ∙ ap₂ unwrap_or (c.get_index_of.ensures.index ∙ ap (position (same_counter counter)) unchanged) (c.len.ensures.len ∙ ap length unchanged) in
    let keys : c.insert.new.self.keys ≡ add_key same_counter counters counter = if_ok-there c.insert.result _ c.if-is_err.ensures.value c.insert.ensures.keys ∙ ap (λ ks. add_key same_counter ks counter) unchanged in
    let same = c.in_ok-reserve.ensures.entries in
    let put : c.put_all.new.entries.entries ≡ insert_all same_numbered entries (map (next_entry entries number event) event.args) =
    c.put_all.ensures ∙ ap₂ (insert_all same_numbered) same (c.in_ok-next.ensures.next ∙ ap (λ es. map (next_entry es number event) event.args) same) in
    subst (λ ks. AreNumbered ks c.put_all.new.entries.entries) (sym keys) (subst (AreNumbered (add_key same_counter counters counter)) (sym put)
    (AreNumbered-grown counter counters entries c.requires.numbered number (is ∙ number_in-place counter counters) event c.in_ok-counter.ensures))
