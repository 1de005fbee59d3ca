-- Words that are written out, and what they come to.
use Rattle.std.proofs.Common.{◌≡◌, false, true, List, [], ◌∷◌, Some, None, codes, refl, ap}
use Rattle.clap.specs.{Simple.{built, matches_of}, Walk.{Held, Row, Rule, Text, finished, first_of, nothing_held, walk}}
use Rattle.clap.specs.declared.error.kind.ErrorKind.TheVariants.{ArgumentConflict, DisplayHelp, DisplayVersion, InvalidValue, TooManyValues, UnknownArgument, ValueValidation}
use Rattle.clap.specs.declared.builder.value_parser.Reading.{Reading}
use Rattle.clap.specs.declared.builder.value_parser.Reading.TheVariants.{AsWritten, WithoutMinus}
use Rattle.clap.specs.declared.parser.matches.ValueSource.TheVariants.{CommandLine}
use Rattle.clap.proofs.OnLiterals.{clap_on_literals}
use Rattle.span_options.specs.{Command.{command}, Given.{Matches, is_on, number_of, texts_of}, Parsing.{faults}}

-- ---- how what is given is computed: first what is held where the words end, and from this the rest

abbrev rules : List Rule
rules = (built command).top.rules

abbrev end_of : List Text → Held
end_of words = (walk rules [] nothing_held words).held

-- an option and its texts
abbrev given : Text → Reading → List Text → Row
given name how texts = record { id = name; values = texts; count = None; source = Some CommandLine; reading = how }

-- options, and behind them files, of which more may come
abbrev then_files : List Row → List Text → Held
then_files rows files = record { rows = rows; pending = Some (codes "files", files); skip = 0 }

abbrev no_files : List Row → Held
no_files rows = record { rows = rows; pending = None; skip = 0 }

read : {X : Type 0} (of : Matches → X) (words : List Text) (end : Held) → end_of words ≡ end → of (matches_of command words) ≡ of (finished rules end)
read of words end ends = ap (λ held. of (finished rules held)) ends

-- ---- a number, and a file behind it

abbrev top : List Text
top = codes "--top" ∷ codes "5" ∷ codes "a.json" ∷ []

abbrev top_end : Held
top_end = then_files (given (codes "top") WithoutMinus (codes "5" ∷ []) ∷ []) (codes "a.json" ∷ [])

top-ends : end_of top ≡ top_end
unfolding clap_on_literals
top-ends = refl

top-faultless : faults top ≡ []
unfolding clap_on_literals
top-faultless = refl

top-number : number_of (codes "top") (matches_of command top) ≡ Some 5
top-number = read (number_of (codes "top")) top top_end top-ends

top-limit : number_of (codes "limit") (matches_of command top) ≡ None
top-limit = read (number_of (codes "limit")) top top_end top-ends

top-files : texts_of (codes "files") (matches_of command top) ≡ codes "a.json" ∷ []
top-files = read (texts_of (codes "files")) top top_end top-ends

-- ---- options without a value, in front of files and between them

abbrev switches : List Text
switches = codes "--seal" ∷ codes "x" ∷ codes "--strict" ∷ codes "y" ∷ []

abbrev switches_end : Held
switches_end = then_files
    (given (codes "seal") AsWritten (codes "true" ∷ []) ∷ given (codes "files") AsWritten (codes "x" ∷ [])
    ∷ given (codes "strict") AsWritten (codes "true" ∷ []) ∷ []) (codes "y" ∷ [])

switches-ends : end_of switches ≡ switches_end
unfolding clap_on_literals
switches-ends = refl

switches-faultless : faults switches ≡ []
unfolding clap_on_literals
switches-faultless = refl

switches-seal : is_on (codes "seal") (matches_of command switches) ≡ true
switches-seal = read (is_on (codes "seal")) switches switches_end switches-ends

switches-strict : is_on (codes "strict") (matches_of command switches) ≡ true
switches-strict = read (is_on (codes "strict")) switches switches_end switches-ends

switches-json : is_on (codes "json") (matches_of command switches) ≡ false
switches-json = read (is_on (codes "json")) switches switches_end switches-ends

switches-files : texts_of (codes "files") (matches_of command switches) ≡ codes "x" ∷ codes "y" ∷ []
switches-files = read (texts_of (codes "files")) switches switches_end switches-ends

-- ---- a value behind an equals sign

abbrev by : List Text
by = codes "--by=total" ∷ []

abbrev by_end : Held
by_end = no_files (given (codes "by") AsWritten (codes "total" ∷ []) ∷ [])

by-ends : end_of by ≡ by_end
unfolding clap_on_literals
by-ends = refl

by-faultless : faults by ≡ []
unfolding clap_on_literals
by-faultless = refl

by-text : first_of (codes "by") (matches_of command by) ≡ Some (codes "total")
by-text = read (first_of (codes "by")) by by_end by-ends

-- ---- a list of numbers, whose commas are its own

abbrev numbers : List Text
numbers = codes "--numbers" ∷ codes "self,longest" ∷ codes "a.json" ∷ []

abbrev numbers_end : Held
numbers_end = then_files (given (codes "numbers") AsWritten (codes "self,longest" ∷ []) ∷ []) (codes "a.json" ∷ [])

numbers-ends : end_of numbers ≡ numbers_end
unfolding clap_on_literals
numbers-ends = refl

numbers-faultless : faults numbers ≡ []
unfolding clap_on_literals
numbers-faultless = refl

numbers-text : first_of (codes "numbers") (matches_of command numbers) ≡ Some (codes "self,longest")
numbers-text = read (first_of (codes "numbers")) numbers numbers_end numbers-ends

-- ---- an option that is given twice

abbrev only : List Text
only = codes "--only" ∷ codes "a" ∷ codes "--only" ∷ codes "b" ∷ []

abbrev only_end : Held
only_end = record {
  rows = given (codes "only") AsWritten (codes "a" ∷ []) ∷ [];
  pending = Some (codes "only", codes "b" ∷ []);
  skip = 0;
}

only-ends : end_of only ≡ only_end
unfolding clap_on_literals
only-ends = refl

only-faultless : faults only ≡ []
unfolding clap_on_literals
only-faultless = refl

only-texts : texts_of (codes "only") (matches_of command only) ≡ codes "a" ∷ codes "b" ∷ []
only-texts = read (texts_of (codes "only")) only only_end only-ends

-- ---- conditions, in which equals signs stand too, and a switch behind them

abbrev conditions : List Text
conditions = codes "--where=name=a" ∷ codes "--where" ∷ codes "tid!=1" ∷ codes "--merge-templates" ∷ []

abbrev conditions_end : Held
conditions_end = no_files
    (given (codes "where") AsWritten (codes "name=a" ∷ codes "tid!=1" ∷ []) ∷ given (codes "merge-templates") AsWritten (codes "true" ∷ []) ∷ [])

conditions-ends : end_of conditions ≡ conditions_end
unfolding clap_on_literals
conditions-ends = refl

conditions-faultless : faults conditions ≡ []
unfolding clap_on_literals
conditions-faultless = refl

conditions-texts : texts_of (codes "where") (matches_of command conditions) ≡ codes "name=a" ∷ codes "tid!=1" ∷ []
conditions-texts = read (texts_of (codes "where")) conditions conditions_end conditions-ends

conditions-merge : is_on (codes "merge-templates") (matches_of command conditions) ≡ true
conditions-merge = read (is_on (codes "merge-templates")) conditions conditions_end conditions-ends

-- ---- a file whose name looks like an option, behind two hyphens

abbrev behind : List Text
behind = codes "--" ∷ codes "--top" ∷ []

abbrev behind_end : Held
behind_end = then_files [] (codes "--top" ∷ [])

behind-ends : end_of behind ≡ behind_end
unfolding clap_on_literals
behind-ends = refl

behind-faultless : faults behind ≡ []
unfolding clap_on_literals
behind-faultless = refl

behind-files : texts_of (codes "files") (matches_of command behind) ≡ codes "--top" ∷ []
behind-files = read (texts_of (codes "files")) behind behind_end behind-ends

behind-top : number_of (codes "top") (matches_of command behind) ≡ None
behind-top = read (number_of (codes "top")) behind behind_end behind-ends

-- ---- help and the version

help : faults (codes "--help" ∷ []) ≡ DisplayHelp ∷ []
unfolding clap_on_literals
help = refl

short_version : faults (codes "-V" ∷ []) ≡ DisplayVersion ∷ []
unfolding clap_on_literals
short_version = refl

-- ---- refusals

-- no option has this name
unknown : faults (codes "--sael" ∷ []) ≡ UnknownArgument ∷ []
unfolding clap_on_literals
unknown = refl

-- the first fault decides
unknown_first : faults (codes "--sael" ∷ codes "--help" ∷ []) ≡ UnknownArgument ∷ []
unfolding clap_on_literals
unknown_first = refl

-- the value is below the least number
zero_top : faults (codes "--top" ∷ codes "0" ∷ []) ≡ ValueValidation ∷ []
unfolding clap_on_literals
zero_top = refl

-- the value is above the greatest number
many_jobs : faults (codes "--jobs=65" ∷ []) ≡ ValueValidation ∷ []
unfolding clap_on_literals
many_jobs = refl

-- a number below zero looks like an option
negative_top : faults (codes "--top" ∷ codes "-5" ∷ []) ≡ UnknownArgument ∷ []
unfolding clap_on_literals
negative_top = refl

-- the value is missing
top_alone : faults (codes "--top" ∷ []) ≡ InvalidValue ∷ []
unfolding clap_on_literals
top_alone = refl

-- the value may not be empty
empty_only : faults (codes "--only=" ∷ []) ≡ InvalidValue ∷ []
unfolding clap_on_literals
empty_only = refl

-- the option may be given once
top_twice : faults (codes "--top=5" ∷ codes "--top=6" ∷ []) ≡ ArgumentConflict ∷ []
unfolding clap_on_literals
top_twice = refl

-- so may a list of numbers
numbers_twice : faults (codes "--numbers=self" ∷ codes "--numbers=total" ∷ []) ≡ ArgumentConflict ∷ []
unfolding clap_on_literals
numbers_twice = refl

-- the option takes no value
seal_value : faults (codes "--seal=yes" ∷ []) ≡ TooManyValues ∷ []
unfolding clap_on_literals
seal_value = refl
