use Rattle.std.proofs.Common.{[], ap, ◌∙◌}
use Rattle.span_event.proofs.Orders.{thread_cmp-same, thread_cmp-total}
use Rattle.span_keyed_tracks.specs.{thread_cmp, Instants.{InstantsKept, instants_in, names_counted, rows_of_thread}, Keyed.kept_at, Meta.MetaKept}
use Rattle.span_keyed_tracks.proofs.{Keyed.kept_at-entries_in, Results.if_ok-map}
use Rattle.span_keyed_tracks.proofs.meta_track.MetaTrack.instant_rows_of.Goals as goal

pub returns : goal.returns
returns c =
    let thread = c.args.thread in
    if_ok-map c.rows_of.result _ _
    (λ rows are. λ es stands.
    are
    ∙ ap (λ (k : InstantsKept). rows_of_thread (thread, kept_at thread_cmp [] k thread)) (ap (λ (t : MetaKept). t.instants) c.self.view_is ∙ stands.instants)
    ∙ ap (λ names. rows_of_thread (thread, names)) (kept_at-entries_in thread_cmp-total thread_cmp-same names_counted (instants_in es) thread))
    c.rows_of.ensures
