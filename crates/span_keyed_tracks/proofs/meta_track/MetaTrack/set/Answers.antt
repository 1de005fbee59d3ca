use Rattle.std.proofs.Common.{rules, ap}
use Rattle.span_keyed_tracks.specs.{Meta.{MetaKept, names_of}, MetaKept.setting}
use Rattle.span_keyed_tracks.proofs.{KeyChange.{ChangesAt-stands, by_third}, Meta.{holder_cmp-total, holder_cmp-same, names_of-push}}
use Rattle.span_keyed_tracks.proofs.meta_track.MetaTrack.set.Goals as goal

pub returns-clause-takes : goal.returns-clause-takes
returns-clause-takes c =
    ChangesAt-stands holder_cmp-total holder_cmp-same names_of c.new-none.ensures (ap (λ (t : MetaKept). t.names) c.self.view_is) c.change_at.result c.change_at.ensures (setting c.args.setting)
    (λ settings answer value called. by_third (names_of-push settings (setting c.args.setting)) (search rules))
