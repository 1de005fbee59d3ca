use Rattle.std.proofs.Common.{Some, ap, ap₂, ◌∙◌, to_z-of_z}
use Rattle.span_keyed_tracks.specs.Meta.{MetaKept, Names}
use Rattle.span_keyed_tracks.proofs.Meta.{names_in-kept, names_in-none}
use Rattle.span_keyed_tracks.proofs.meta_track.MetaTrack.thread_of.Goals as goal

pub returns-in-Some-clause-name : goal.returns-in-Some-clause-name
returns-in-Some-clause-name c = λ es stands.
    c.name.ensures ∙ ap (λ (n : Names). n.name) (names_in-kept _ c.self.inside.names.entries es (c.args.pid, Some c.args.tid) _ (ap (λ (t : MetaKept). t.names) c.self.view_is) stands (ap₂ (λ p t. (p, Some t)) (to_z-of_z c.ranges.pid) (to_z-of_z c.ranges.tid)) _ c.in-Some.ensures.value)

pub returns-in-Some-clause-sort_index : goal.returns-in-Some-clause-sort_index
returns-in-Some-clause-sort_index c = λ es stands.
    c.sort_index.ensures ∙ ap (λ (n : Names). n.sort_index) (names_in-kept _ c.self.inside.names.entries es (c.args.pid, Some c.args.tid) _ (ap (λ (t : MetaKept). t.names) c.self.view_is) stands (ap₂ (λ p t. (p, Some t)) (to_z-of_z c.ranges.pid) (to_z-of_z c.ranges.tid)) _ c.in-Some.ensures.value)

pub returns-in-None-clause-name : goal.returns-in-None-clause-name
returns-in-None-clause-name c = λ es stands.
    ap (λ (n : Names). n.name) (names_in-none _ c.self.inside.names.entries es (c.args.pid, Some c.args.tid) _ (ap (λ (t : MetaKept). t.names) c.self.view_is) stands (ap₂ (λ p t. (p, Some t)) (to_z-of_z c.ranges.pid) (to_z-of_z c.ranges.tid)) c.in-None.ensures.value)

pub returns-in-None-clause-sort_index : goal.returns-in-None-clause-sort_index
returns-in-None-clause-sort_index c = λ es stands.
    ap (λ (n : Names). n.sort_index) (names_in-none _ c.self.inside.names.entries es (c.args.pid, Some c.args.tid) _ (ap (λ (t : MetaKept). t.names) c.self.view_is) stands (ap₂ (λ p t. (p, Some t)) (to_z-of_z c.ranges.pid) (to_z-of_z c.ranges.tid)) c.in-None.ensures.value)
