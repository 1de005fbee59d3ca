-- What holds of all words.
use Rattle.std.specs.Prelude.{◌≡◌, ◌≤◌, ◌==◌, Bool, false, not, true, List, [], ◌∷◌, None, length}
use Rattle.std.specs.List.{list_all}
use Rattle.clap.specs.{Lexer.{usize_max}, Simple.{matches_of}, Walk.{Text}}
use Rattle.span_options.specs.{Command.{command}, Given.{IsGiven}, Parsing.{fault, faults}}
use Rattle.span_options.specs.declared.options.Options.{Options}

-- words have one fault at most
abbrev pub FaultsAreAlone : Type 0
FaultsAreAlone = (words : List Text) → length (faults words) ≤ 1

-- the word doesn't begin with a hyphen, whose byte is 45
abbrev pub is_plain : Text → Bool
is_plain [] = true
is_plain (byte ∷ rest) = not (byte == 45)

-- the options name files, and give nothing else
pub record HasOnlyFiles (files : List Text) (options : Options) : Type 0 where
  pub large : options.large ≡ false
  pub limit : options.limit ≡ None
  pub nanoseconds : options.nanoseconds ≡ false
  pub seal : options.seal ≡ false
  pub strict : options.strict ≡ false
  pub top : options.top ≡ None
  pub by : options.by ≡ None
  pub numbers : options.numbers ≡ None
  pub of : options.of ≡ None
  pub base : options.base.items ≡ []
  pub json : options.json ≡ false
  pub apart : options.apart ≡ false
  pub repeats : options.repeats ≡ false
  pub jobs : options.jobs ≡ None
  pub add : options.add ≡ false
  pub group_by : options.group_by ≡ None
  pub conditions : options.conditions.items ≡ []
  pub merge_templates : options.merge_templates ≡ false
  pub only : options.only.items ≡ []
  pub skip : options.skip.items ≡ []
  pub refused : options.refused ≡ false
  pub folded : options.folded ≡ false
  pub page : options.page ≡ false
  pub files_from : options.files_from ≡ None
  pub names : options.files.items ≡ files

-- words that begin with no hyphen, of which there are no more than a machine counts, have no fault, and name files, in their order
pub record PlainWordsNameFiles : Type 0 where
  pub faultless : (words : List Text) → list_all is_plain words ≡ true → length words ≤ usize_max → fault words ≡ None
  pub named : (words : List Text) (options : Options) → list_all is_plain words ≡ true → IsGiven (matches_of command words) options
      → HasOnlyFiles words options
