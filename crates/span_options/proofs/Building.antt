-- A command with one more argument after the other.
use Rattle.std.proofs.Common.{Global, Vec, subst, ◌≡◌, ◌∙◌, List, [], ◌∷◌, ◌++◌, map, true, false, sym, ap, append-nil, append_assoc}
use Rattle.std.specs.List.{All}
use Rattle.clap.specs.Built.{AddsArg, AddsInTurn}
use Rattle.clap.specs.Simple.{App, app_of, with_rule}
use Rattle.clap.specs.Walk.{Rule, rule_of}
use Rattle.clap.proofs.SimpleLemmas.{all_simple, shape-roll, simple_local}
use Rattle.clap.specs.declared.builder.command.Command.TheViews.{out-Command, out-roll-Command, roll-Command}
use Rattle.std.proofs.lemmas.List.Elements.{All-head, All-tail}
use Rattle.clap.specs.declared.builder.arg.Arg.{Arg}
use Rattle.clap.specs.declared.builder.command.Command.{Command}

-- rules behind those that the command has
abbrev pub with_rules : App → List Rule → App
with_rules app rules = record app { top = record app.top { rules = app.top.rules ++ rules } }

with_rules-nil : (app : App) → app ≡ with_rules app []
with_rules-nil app = ap (λ rules. record app { top = record app.top { rules = rules } }) (sym (append-nil app.top.rules))

with_rules-cons : (app : App) (rule : Rule) (rules : List Rule) → with_rules (with_rule app rule) rules ≡ with_rules app (rule ∷ rules)
with_rules-cons app rule rules =
    ap (λ all. record app { top = record app.top { rules = all } }) (append_assoc app.top.rules (rule ∷ []) rules)

-- the argument is none of subcommands too
abbrev IsLocal : Arg → Type 0
IsLocal argument = argument.global ≡ false

-- simple arguments are none
local : (some : Command) (made : Vec Arg Global) → all_simple (map rule_of made.items) ≡ true → All IsLocal made.items
local some made simple =
    let fields = record (out-Command some) { args = made } in
    subst (All IsLocal) (ap (λ of. of.args.items) (out-roll-Command fields))
    (simple_local (roll-Command fields) (ap (λ shape. all_simple shape.rules) (shape-roll fields) ∙ simple))

added_in_turn : (old new : Command) (arguments : List Arg) → All IsLocal arguments
    → AddsInTurn AddsArg old arguments new → app_of new ≡ with_rules (app_of old) (map rule_of arguments)
added_in_turn old new [] none is = ap app_of (sym is) ∙ with_rules-nil (app_of old)
added_in_turn old new (argument ∷ arguments) none adds =
    added_in_turn adds.0 new arguments (All-tail IsLocal argument arguments none) adds.2
    ∙ ap (λ app. with_rules app (map rule_of arguments)) (adds.1.shape (All-head IsLocal argument arguments none))
    ∙ with_rules-cons (app_of old) (rule_of argument) (map rule_of arguments)

-- arguments that are added in turn, of which each is simple
pub app_of-added : (old new : Command) (made : Vec Arg Global) (rules : List Rule) → map rule_of made.items ≡ rules → all_simple rules ≡ true
    → AddsInTurn AddsArg old made.items new → app_of new ≡ with_rules (app_of old) rules
app_of-added old new made rules are simple adds =
    added_in_turn old new made.items (local old made (ap all_simple are ∙ simple)) adds ∙ ap (with_rules (app_of old)) are
