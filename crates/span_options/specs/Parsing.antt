-- What the words of a command line come to.
use Rattle.std.specs.Prelude.{◌≡◌, Bool, false, true, IsSomeAnd, List, None, Option, slice_get}
use Rattle.clap.specs.Faults.{fault_of}
use Rattle.clap.specs.Kinds.{Kinds}
use Rattle.clap.specs.Simple.{matches_of}
use Rattle.clap.specs.Walk.{Text}
use Rattle.clap.specs.declared.error.kind.ErrorKind.{ErrorKind}
use Rattle.clap.specs.declared.error.kind.ErrorKind.TheVariants.{DisplayHelp, DisplayVersion, OutOfMemory}
use Rattle.span_options.specs.{Command.{command}, Given.{IsGiven}, declared.parsing.Parsed.{Parsed}}
use Rattle.span_options.specs.declared.parsing.Parsed.TheVariants as parsed

-- help or the version is asked for
abbrev pub is_shown : ErrorKind → Bool
is_shown DisplayHelp = true
is_shown DisplayVersion = true
is_shown kind = false

-- why the words give no options: one kind of fault, or none where they do
abbrev pub faults : List Text → Kinds
faults words = fault_of command words

-- the fault of the words, if they have one: none has two (`specs/Laws.antt`)
abbrev pub fault : List Text → Option ErrorKind
fault words = slice_get (faults words) 0

-- options, where nothing is wrong with the words; else help or the version, or a refusal, as the kind of the fault has it
abbrev pub ParsesTo : List Text → Parsed → Type 0
ParsesTo words (parsed.Options options) = (fault words ≡ None) × IsGiven (matches_of command words) options
ParsesTo words (parsed.Show text) = IsSomeAnd (fault words) (λ kind. is_shown kind ≡ true)
ParsesTo words (parsed.Refuse text) = IsSomeAnd (fault words) (λ kind. is_shown kind ≡ false)

-- what is said for this kind of fault
abbrev pub SaysOf : ErrorKind → Parsed → Type 0
SaysOf kind (parsed.Options options) = ⊥
SaysOf kind (parsed.Show text) = (is_shown kind ≡ true) × (kind ≡ OutOfMemory → ⊥)
SaysOf kind (parsed.Refuse text) = (is_shown kind ≡ false) × (kind ≡ OutOfMemory → ⊥)
