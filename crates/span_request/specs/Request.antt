-- What the words of a command line ask for.
use Rattle.std.specs.Prelude.{◌≡◌, ◌⊎◌, false, List}
use Rattle.span_request.specs.{Bytes, Options, ParsesTo, Asked.{Asked, IsAskedBy}, Rules.{excluded, idle, is_broken, unsuited, untested}, Tasks.{AreFiles, IsTask}}
use Rattle.span_options.specs.declared.parsing.Parsed.TheVariants as parsed
use Rattle.span_request.specs.declared.tasks.{Request.{Request, TheVariants.{Run, Show, Refuse}}, Task.Task}

-- no rule is broken by options that ask for a table of this
pub record AreSound (options : Options) (asked : Asked) : Type 0 where
  pub apart : is_broken (excluded options) ≡ false
  pub busy : is_broken (idle options) ≡ false
  pub summed : IsAskedBy options asked
  pub suited : is_broken (unsuited options asked) ≡ false
  pub tested : is_broken (untested options asked) ≡ false

abbrev pub AreUnsound : Options → Type 0
AreUnsound options = (asked : Asked) → AreSound options asked → ⊥

-- what options ask for, where they break no rule
abbrev pub Asks : Options → Task → Type 0
Asks options task = (asked : Asked) × AreSound options asked × IsTask options asked task

abbrev pub IsOf : Options → Request → Type 0
IsOf options (Run task files) = Asks options task × AreFiles options files
IsOf options (Show text) = ⊥
IsOf options (Refuse text) = AreUnsound options

-- what words ask for: what their options do; where they give none, help or a refusal
abbrev pub AsksFor : List Bytes → Request → Type 0
AsksFor words (Run task files) = (options : Options) × ParsesTo words (parsed.Options options) × Asks options task × AreFiles options files
AsksFor words (Show text) = ParsesTo words (parsed.Show text)
AsksFor words (Refuse text) = ParsesTo words (parsed.Refuse text) ⊎ ((options : Options) × ParsesTo words (parsed.Options options) × AreUnsound options)
