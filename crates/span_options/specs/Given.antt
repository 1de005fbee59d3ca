-- What the words give each option: an option a line.
use Rattle.std.specs.Prelude.{◌≡◌, Bool, false, List, [], None, Option, Some, codes, if◌then◌else◌, option_and_then, unwrap_or}
use Rattle.std.specs.Option.{option_map_or}
use Rattle.std.specs.Str.{bytes_eq}
use Rattle.std.specs.Str.Parse.{digits_value, without_leading_plus}
use Rattle.clap.specs.ValueTests.{is_unsigned_in}
use Rattle.clap.specs.Walk.{Row, Text, all_of, first_of, one_of}
use Rattle.span_options.specs.Command.{greatest}
use Rattle.span_options.specs.declared.options.Options.{Options}
use Rattle.std.specs.Prelude.{ℕ}

-- what the words say, an entry for each option that they name or that has a value without it
abbrev pub Matches : Type 0
Matches = List Row

-- an option without a value is given
abbrev pub is_on : Text → Matches → Bool
is_on name matches = option_map_or (λ value. bytes_eq value (codes "true")) (first_of name matches) false

-- the texts of one that may be given several times, in their order
abbrev pub texts_of : Text → Matches → List Text
texts_of name matches = unwrap_or (all_of name matches) []

-- the number that a text writes, of 32 bits
abbrev pub as_number : Text → Option ℕ
as_number text = if is_unsigned_in 0 greatest text then Some (digits_value 10 (without_leading_plus text)) else None

abbrev pub number_of : Text → Matches → Option ℕ
number_of name matches = option_and_then as_number (one_of name matches)

pub record IsGiven (matches : Matches) (options : Options) : Type 0 where
  pub large : options.large ≡ is_on (codes "large") matches
  pub limit : options.limit ≡ number_of (codes "limit") matches
  pub nanoseconds : options.nanoseconds ≡ is_on (codes "nanoseconds") matches
  pub seal : options.seal ≡ is_on (codes "seal") matches
  pub strict : options.strict ≡ is_on (codes "strict") matches
  pub top : options.top ≡ number_of (codes "top") matches
  pub by : options.by ≡ first_of (codes "by") matches
  pub numbers : options.numbers ≡ first_of (codes "numbers") matches
  pub of : options.of ≡ first_of (codes "of") matches
  pub base : options.base.items ≡ texts_of (codes "base") matches
  pub json : options.json ≡ is_on (codes "json") matches
  pub apart : options.apart ≡ is_on (codes "apart") matches
  pub repeats : options.repeats ≡ is_on (codes "repeats") matches
  pub jobs : options.jobs ≡ number_of (codes "jobs") matches
  pub add : options.add ≡ is_on (codes "add") matches
  pub group_by : options.group_by ≡ first_of (codes "group-by") matches
  pub conditions : options.conditions.items ≡ texts_of (codes "where") matches
  pub merge_templates : options.merge_templates ≡ is_on (codes "merge-templates") matches
  pub only : options.only.items ≡ texts_of (codes "only") matches
  pub skip : options.skip.items ≡ texts_of (codes "skip") matches
  pub refused : options.refused ≡ is_on (codes "refused") matches
  pub folded : options.folded ≡ is_on (codes "folded") matches
  pub page : options.page ≡ is_on (codes "page") matches
  pub files_from : options.files_from ≡ first_of (codes "files-from") matches
  pub files : options.files.items ≡ texts_of (codes "files") matches
