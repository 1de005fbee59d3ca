use Rattle.std.proofs.Common.{rules, ◌≡◌, position, Some, None, option_copied, sym, ap, ◌∙◌}
use Rattle.span_keyed_tracks.specs.CountersKept.{counter_of_key, found_at, found_in, key_of, named, same_counter}
use Rattle.span_keyed_tracks.proofs.SeriesNumbers.{counter_at-position, found_at-absent, found_at-named}
use Rattle.span_keyed_tracks.proofs.counter_track.find.Goals as goal

pub returns-in_err-counter : goal.returns-in_err-counter
returns-in_err-counter c =
    let counters = c.args.counters.now.keys in
    let absent : position (same_counter (counter_of_key c.args.key.now)) counters ≡ None = ap (λ counter. position (same_counter counter) counters) (sym c.in-Ok.ensures) ∙ sym c.in_err-counter.ensures.index in
    let nothing : option_copied c.from_residual.result ≡ None = search rules in
    nothing ∙ sym (found_at-absent counters c.args.entries.now.entries c.args.key.now c.requires.1 absent)

pub returns : goal.returns
returns c =
    let counters = c.args.counters.now.keys in
    let entries = c.args.entries.now.entries in
    let key = c.args.key.now in
    let number = c.in_ok-counter.counter in
    let placed : position (same_counter (counter_of_key key)) counters ≡ Some number = ap (λ counter. position (same_counter counter) counters) (sym c.in-Ok.ensures) ∙ sym c.in_ok-counter.ensures.index in
    let there = counter_at-position counters (counter_of_key key) number placed in
    let found : option_copied c.get.result ≡ found_in entries number key.series = c.get.ensures.value ∙ ap (found_in entries number) c.in-Ok-try_clone.ensures in
    found ∙ found_at-named counters c.requires.0 entries (record { counter = number; series = key.series }) c.requires.1 there.0
    ∙ ap (λ counter. found_at (named counters entries) (key_of counter key.series)) there.1
