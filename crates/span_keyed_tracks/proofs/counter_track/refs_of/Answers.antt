use Rattle.std.proofs.{Common.{rules, ◌≡◌, ◌∷◌, [], ◌++◌, map, sym, ap, ap₂, subst, ◌∙◌}, lemmas.{List.map_push, Option.get_or_from_slice_get}}
use Rattle.span_keyed_tracks.specs.{Counters.Series, CountersKept.{HaveCounters, kept_row, key_at, key_of, named}, declared.{counter_track.{SeriesRow.SeriesRow, counter.{Counter.Counter, NumberedSeries.NumberedSeries}}}}
use Rattle.span_keyed_tracks.proofs.counter_track.refs_of.Goals as goal

pub loop-key-preserved : goal.loop-key-preserved
loop-key-preserved c =
    let counters = c.args.counters.now.keys in
    let key = c.in-Some.key.now in
    let running = c.in-Some.running.now in
    let steps : c.loop-key.key-iterator ≡ (key, running) ∷ c.next.new.self = search rules in
    let have = subst (HaveCounters counters) steps c.loop-key.invariant.1 in
    let at = get_or_from_slice_get counters key.counter c.in-Some-get_index.counter.now _ (sym c.in-Some-get_index.ensures.key) in
    let row : SeriesRow = record { key = key_of c.in-Some-get_index.counter.now key.series; totals = running.totals } in
    let pushed : c.push.new.self.items ≡ c.loop-key.refs.items ++ row ∷ [] = search rules in
    let is : row ≡ kept_row (key_at counters key, running) = ap (λ (counter : Counter). record { key = key_of counter key.series; totals = running.totals }) (sym at) in
    let passed = map (λ e. (e.0.now, e.1.now)) c.loop-key.yielded in (
      pushed ∙ ap₂ (λ rows r. rows ++ r ∷ []) c.loop-key.invariant.0 is
          ∙ sym (ap (λ es. map kept_row (named counters es)) (map_push (λ e. (e.0.now, e.1.now)) c.loop-key.yielded (c.in-Some.key, c.in-Some.running))
          ∙ ap (map kept_row) (map_push (λ (e : NumberedSeries × Series). (key_at counters e.0, e.1)) passed (key, running))
          ∙ map_push kept_row (named counters passed) (key_at counters key, running)),
      have.1,
    )
