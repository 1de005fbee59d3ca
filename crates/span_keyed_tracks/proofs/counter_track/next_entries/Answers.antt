use Rattle.std.specs.{Map.{keys_of, values_of}, Prelude.{Option, None, Some, IfSome, is_some, option_and_then, option_copied, position, slice_get, refl}}
use Rattle.std.proofs.{Common.{rules, ◌≡◌, ℕ, zero, suc, ◌+◌, ◌<◌, ◌∷◌, [], ◌++◌, map, take, drop, sym, ap, ap₂, subst, ◌∙◌, arith, w64, to_z, of_z}, lemmas.{Grind.take_at_read, List.map_push}}
use Rattle.span_keyed_tracks.specs.{AllWhole, Arguments, Whole, Counters.Series, CountersKept.{ArePlaced, IsPlaced, found_in, next_entry, same_numbered, samples_before, with_sample}, declared.counter_track.counter.NumberedSeries.NumberedSeries}
use Rattle.span_keyed_tracks.proofs.SeriesKept.{ArePlaced-push}
use Rattle.span_keyed_tracks.proofs.counter_track.next_entries.Goals as goal

AllWhole-later : (n : ℕ) (ms : Arguments) → AllWhole (drop n ms) → AllWhole (drop (suc n) ms)
AllWhole-later n [] all = tt
AllWhole-later zero (m ∷ ms) all = all.1
AllWhole-later (suc n) (m ∷ ms) all = AllWhole-later n ms all

-- what is kept at the place of a key is what is found at the key
at-found : {X : Type 0} (kept : ℕ → Option X) (place : Option ℕ) (found : Option X) → is_some place ≡ is_some found → IfSome place (λ i. kept i ≡ found) → option_and_then kept place ≡ found
at-found kept None None same is = refl
at-found kept None (Some x) same is = cc
at-found kept (Some i) found same is = is

IsPlaced-is : (place found : Option ℕ) → place ≡ found → IfSome place (λ i. found ≡ Some i)
IsPlaced-is None found is = tt
IsPlaced-is (Some i) found is = sym is

pub with-requires : goal.with-requires
with-requires c =
    let found = c.get_index_of-place.ensures in
    let series = c.in_ok-try_clone.field-0 in
    let at = c.at.ensures ∙ at-found (slice_get (values_of c.args.entries.now.entries)) c.get_index_of-place.result (found_in c.args.entries.now.entries c.args.counter series) found.found found.value in
    record { room = subst (λ o. samples_before o < 4294967295) (sym at) (c.requires.room series) }

pub loop-series-preserved : goal.loop-series-preserved
loop-series-preserved c =
    let inv = c.loop-series.invariant in
    let entries = c.args.entries.now.entries in
    let event = c.args.event.now in
    let members = c.pairs-members.result.now in
    let i = c.loop-series.series-index in
    let item = c.loop-series-item.result in
    let read = (take_at_read members i item c.loop-series-test.true).1 in
    let next : suc i ≡ i + 1 = omega arith in
    let number = c.args.counter in
    let name = c.in_ok-try_clone.field-0 in
    let series : name ≡ item.0 = search rules in
    let whole : item ≡ (item.0, Whole c.in-Whole.value) = ap (λ v. (item.0, v)) c.in-Whole.is in
    let ts : to_z w64 (of_z w64 event.ts) ≡ event.ts = search rules in
    let value : to_z w64 (of_z w64 c.in-Whole.value) ≡ c.in-Whole.value = search rules in
    let place = c.get_index_of-place.result in
    let found = c.get_index_of-place.ensures in
    let at = c.at.ensures ∙ at-found (slice_get (values_of entries)) place (found_in entries number name) found.found found.value in
    let running : c.in_ok-running.running ≡ with_sample (found_in entries number item.0) (record { ts = event.ts; value = c.in-Whole.value }) =
    c.in_ok-running.ensures ∙ ap₂ (λ t v. with_sample (option_copied c.at.result) (record { ts = t; value = v })) ts value
    ∙ ap (λ o. with_sample o (record { ts = event.ts; value = c.in-Whole.value })) (at ∙ ap (found_in entries number) series) in
    let key : NumberedSeries = record { counter = number; series = name } in
    let entry : (key, c.in_ok-running.running) ≡ next_entry entries number event item = ap₂ (λ n r. (record { counter = number; series = n }, r)) series running ∙ ap (next_entry entries number event) (sym whole) in
    let one : Option ℕ × NumberedSeries × Series = (place, key, c.in_ok-running.running) in
    let pushed : c.push.new.self.items ≡ c.loop-series.next.items ++ one ∷ [] = search rules in
    let placed : IsPlaced entries place key = IsPlaced-is place (position (same_numbered key) (keys_of entries)) found.index in (
      ap (map (λ (n : Option ℕ × NumberedSeries × Series). (n.1, n.2))) pushed ∙ map_push (λ (n : Option ℕ × NumberedSeries × Series). (n.1, n.2)) c.loop-series.next.items one
          ∙ ap₂ (λ l e. l ++ e ∷ []) inv.0 entry ∙ sym (map_push (next_entry entries number event) (take i members) item)
          ∙ ap (map (next_entry entries number event)) (ap (λ x. take i members ++ x ∷ []) c.loop-series-item.is ∙ sym read),
      subst (ArePlaced entries) (sym pushed) (ArePlaced-push entries c.loop-series.next.items one inv.1 placed),
      subst (λ n. AllWhole (drop n members)) next (AllWhole-later i members inv.2),
    )
