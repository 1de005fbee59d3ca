use Rattle.std.proofs.Common.{ℤ, [], ap, ap₂, ◌∙◌, to_z-of_z}
use Rattle.span_keyed_tracks.specs.{Thread, thread_cmp, text_cmp, Instants.counts_of, InstantsKept.count_at, Keyed.kept_at, Meta.MetaKept}
use Rattle.span_keyed_tracks.proofs.Instants.{count_at-instants_of}
use Rattle.span_keyed_tracks.proofs.meta_track.MetaTrack.instants_of.Goals as goal

pub returns : goal.returns
returns c = λ es stands.
    let at : ℤ → ℤ → Thread = λ p t. record { pid = p; tid = t } in
    c.of.ensures
    ∙ ap₂ (λ p t. count_at c.args.reach (kept_at text_cmp (counts_of []) (kept_at thread_cmp [] c.self.inside.instants (at p t)) c.args.name.now)) (to_z-of_z c.ranges.pid) (to_z-of_z c.ranges.tid)
    ∙ count_at-instants_of c.self.inside.instants es (at c.args.pid c.args.tid) c.args.name.now c.args.reach (ap (λ (t : MetaKept). t.instants) c.self.view_is ∙ stands.instants)
