use Rattle.std.proofs.Common.{sym, subst}
use Rattle.span_keyed_tracks.specs.CountersKept.{IsPlaced}
use Rattle.span_keyed_tracks.proofs.SeriesKept.{put_entry-placed}
use Rattle.span_keyed_tracks.proofs.counter_track.put.Goals as goal

pub returns-in-Some-get_index_mut-clause-entries : goal.returns-in-Some-get_index_mut-clause-entries
returns-in-Some-get_index_mut-clause-entries c =
    let entries = c.args.entries.now.entries in
    sym (put_entry-placed entries c.args.key c.args.running c.in-Some.place (subst (λ place. IsPlaced entries place c.args.key) c.in-Some.is c.requires.placed))
