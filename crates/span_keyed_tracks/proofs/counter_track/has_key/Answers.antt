use Rattle.std.proofs.{Common.{rules, ◌≡◌, sym, ap, ◌∙◌}, lemmas.Option.get_or_from_slice_get}
use Rattle.span_keyed_tracks.specs.CountersKept.{key_of, same_series}
use Rattle.span_keyed_tracks.proofs.counter_track.has_key.Goals as goal

pub returns : goal.returns
returns c =
    let same : c.eq.result ≡ same_series c.args.key.now (key_of c.in-Some.counter.now c.args.kept.now.series) = search rules in
    let at = get_or_from_slice_get c.args.counters.now.keys c.args.kept.now.counter c.in-Some.counter.now _ (sym c.in-Some.ensures.key) in
    same ∙ ap (λ counter. same_series c.args.key.now (key_of counter c.args.kept.now.series)) (sym at)
