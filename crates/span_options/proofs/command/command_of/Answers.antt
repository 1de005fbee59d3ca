use Rattle.std.proofs.Common.{◌≡◌, ◌∙◌, ap, codes, refl, true}
use Rattle.std.proofs.lemmas.Result.{IfOk-weaker}
use Rattle.clap.specs.Simple.{App, app_of, app_of_fields, new_app}
use Rattle.span_options.specs.Command.{others, settings, tables}
use Rattle.span_options.proofs.Building.{app_of-added, with_rules}
use Rattle.span_options.proofs.command.command_of.Goals as goal

-- with a version, and without the program's own name among the words
abbrev with_settings : App → App
with_settings app = record app { top = record app.top { no_binary_name = true; has_version = true } }

pub returns : goal.returns
returns c =
    let start : app_of c.after_help.result ≡ with_settings (new_app (codes "tracebook")) =
    ap app_of_fields c.after_help.ensures ∙ ap app_of_fields c.about.ensures ∙ ap app_of_fields c.next_line_help.ensures
    ∙ ap app_of_fields c.no_binary_name.ensures ∙ ap (λ fields. app_of_fields (record fields { no_binary_name = true })) c.version.ensures
    ∙ ap with_settings c.new.ensures.app in
    let first = app_of-added _ _ c.in_ok-settings.field-0 settings c.in_ok-settings.ensures refl c.in_ok-args.ensures
    ∙ ap (λ app. with_rules app settings) start in
    let second = app_of-added _ _ c.in_ok-tables.field-0 tables c.in_ok-tables.ensures refl c.in_ok-args-2.ensures ∙ ap (λ app. with_rules app tables) first in
    IfOk-weaker c.args-4.result _ _
    (λ made adds. app_of-added _ made c.in_ok-others.field-0 others c.in_ok-others.ensures refl adds ∙ ap (λ app. with_rules app others) second)
    c.args-4.ensures
