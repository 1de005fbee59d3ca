use Rattle.std.specs.Option.{option_map}
use Rattle.std.proofs.Common.{◌≡◌, [], ◌∷◌, ◌++◌, Some, sym, ap, ◌∙◌}
use Rattle.span_keyed_tracks.specs.{thread_of, Instants.{TakesInstant, instant_of, instants_counted, instants_in}, Keyed.entries_in, Meta.{MetaKept, holder_cmp, names_of}}
use Rattle.span_keyed_tracks.proofs.{Instants.{few_instants, instants_in-instant}, Meta.settings_in-instant, Results.on_ok-map}
use Rattle.span_keyed_tracks.proofs.meta_track.MetaTrack.instant.Goals as goal

pub add-requires : goal.add-requires
add-requires c = few_instants c.self.inside.instants c.requires.room.events (ap (λ (t : MetaKept). t.instants) c.self.view_is ∙ c.requires.room.stands.instants) c.requires.room.few

pub returns-clause-stands : goal.returns-clause-stands
returns-clause-stands c =
    on_ok-map c.add.result _ _
    (λ (takes : TakesInstant c.self.inside.instants c.add.new.self (record { key = c.of-thread.result; step = record { key = c.args.event.now.name; step = c.in-Some.reach } })). λ es stands.
    let event = c.args.event.now in
    let step : instant_of event ≡ Some (record { key = thread_of event; step = record { key = event.name; step = c.in-Some.reach } }) =
    ap (option_map (λ r. record { key = thread_of event; step = record { key = event.name; step = r } })) c.in-Some.is in record {
      names = ap (λ (t : MetaKept). t.names) c.self.view_is ∙ stands.names ∙ ap (entries_in holder_cmp names_of) (sym (settings_in-instant es event c.requires.phase));
      instants = takes (instants_in es) (ap (λ (t : MetaKept). t.instants) c.self.view_is ∙ stands.instants)
          ∙ ap (λ t. instants_counted (instants_in es ++ record { key = t; step = record { key = event.name; step = c.in-Some.reach } } ∷ [])) c.of-thread.ensures
          ∙ ap instants_counted (sym (instants_in-instant es event _ c.requires.phase step));
    })
    c.add.ensures.takes
