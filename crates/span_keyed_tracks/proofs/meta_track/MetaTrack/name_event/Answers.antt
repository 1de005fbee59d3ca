use Rattle.std.specs.{List.cons_option, Option.option_map}
use Rattle.std.proofs.Common.{◌≡◌, [], ◌++◌, Some, None, sym, ap, ◌∙◌, append-nil}
use Rattle.span_keyed_tracks.specs.{Instants.instants_counted, Keyed.entries_in, Meta.{TakesSetting, holder_cmp, names_of, setting_of, settings_in}, MetaKept.keyed_setting}
use Rattle.span_keyed_tracks.proofs.{Instants.instants_in-meta, Meta.settings_in-push, Results.on_ok-map}
use Rattle.span_keyed_tracks.proofs.meta_track.MetaTrack.name_event.Goals as goal

pub returns-in-Some-clause-stands : goal.returns-in-Some-clause-stands
returns-in-Some-clause-stands c =
    let sets : setting_of c.args.event.now ≡ Some (keyed_setting (c.in-Some.holder, c.in-Some.setting)) = sym c.in-Ok.ensures.setting ∙ ap (option_map keyed_setting) c.in-Some.is in
    on_ok-map c.set.result _ _
    (λ (takes : TakesSetting c.args.self.now.names c.set.new.self.names (keyed_setting (c.in-Some.holder, c.in-Some.setting))). λ es stands. record {
      names = takes (settings_in es) stands.names
          ∙ ap (entries_in holder_cmp names_of) (ap (λ o. settings_in es ++ cons_option o []) (sym sets) ∙ sym (settings_in-push es c.args.event.now c.requires.phase));
      instants = c.set.ensures.instants ∙ stands.instants ∙ ap instants_counted (sym (instants_in-meta es c.args.event.now c.requires.phase));
    })
    c.set.ensures.takes

pub returns-in-None-clause-stands : goal.returns-in-None-clause-stands
returns-in-None-clause-stands c = λ es stands.
    let sets : setting_of c.args.event.now ≡ None = sym c.in-Ok.ensures.setting ∙ ap (option_map keyed_setting) c.in-None.is in record {
      names = stands.names
          ∙ ap (entries_in holder_cmp names_of)
          (sym (append-nil (settings_in es)) ∙ ap (λ o. settings_in es ++ cons_option o []) (sym sets) ∙ sym (settings_in-push es c.args.event.now c.requires.phase));
      instants = stands.instants ∙ ap instants_counted (sym (instants_in-meta es c.args.event.now c.requires.phase));
    }
