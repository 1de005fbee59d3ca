use Rattle.std.proofs.Common.{rules, ◌≡◌, false, codes, cond, sym, ap, ◌∙◌}
use Rattle.span_keyed_tracks.specs.{same_text, Meta.{is_meta, setting_of}}
use Rattle.span_keyed_tracks.proofs.Meta.{is_of_thread, is_of_thread-other}
use Rattle.span_keyed_tracks.proofs.meta_track.setting.names_thread.Goals as goal

pub returns : goal.returns
returns c =
    let name : same_text c.args.event.now.name (codes "thread_name") ≡ false = search rules in
    let sort : same_text c.args.event.now.name (codes "thread_sort_index") ≡ false = search rules in
    sym (ap (λ p. cond (is_meta p) (is_of_thread (setting_of c.args.event.now)) false) c.in-Meta.is ∙ is_of_thread-other c.args.event.now name sort)
