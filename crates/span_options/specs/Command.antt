-- The command, as the words are read by it: its options, in the order of the help.
use Rattle.std.specs.Prelude.{ℕ, true, pos, List, [], ◌∷◌, ◌++◌, Some, codes}
use Rattle.clap.specs.Lexer.{usize_max}
use Rattle.clap.specs.Simple.{App, new_app, new_rule}
use Rattle.clap.specs.Walk.{Rule, Text}
use Rattle.clap.specs.declared.builder.action.ArgAction.TheVariants.{Append, Set, SetTrue}
use Rattle.clap.specs.declared.builder.value_parser.ValueParser.TheVariants.{NonEmptyString, Signed}

-- an option without a value
abbrev pub switch : Text → Rule
switch name = record (new_rule name) { long = Some name; action = Some SetTrue }

-- one with a value
abbrev pub option : Text → Rule
option name = record (new_rule name) { long = Some name; action = Some Set; value_names = 1 }

-- one that may be given several times
abbrev pub list : Text → Rule
list name = record (option name) { action = Some Append }

-- one whose texts may not be empty
abbrev pub texts : Text → Rule
texts name = record (list name) { parser = Some NonEmptyString }

-- one whose value is a number from 1 on, and at most so much
abbrev pub number : Text → ℕ → Rule
number name most = record (option name) { parser = Some (Signed (pos 1) (pos most)) }

-- what belongs to no option, any number of times
abbrev pub rest : Text → Rule
rest name = record (new_rule name) { action = Some Append; value_names = 1; range = Some (record { start_inclusive = 0; end_inclusive = usize_max }) }

-- the greatest number of 32 bits
abbrev pub greatest : ℕ
greatest = 4294967295

abbrev pub settings : List Rule
settings = switch (codes "large") ∷ number (codes "limit") greatest ∷ switch (codes "nanoseconds") ∷ switch (codes "seal") ∷ switch (codes "strict") ∷ []

abbrev pub tables : List Rule
tables =
    number (codes "top") greatest ∷ option (codes "by") ∷ option (codes "numbers") ∷ option (codes "of") ∷ list (codes "base") ∷ switch (codes "json")
    ∷ switch (codes "apart") ∷ switch (codes "repeats") ∷ number (codes "jobs") 64 ∷ switch (codes "add")
    ∷ option (codes "group-by") ∷ list (codes "where") ∷ switch (codes "merge-templates") ∷ texts (codes "only") ∷ texts (codes "skip") ∷ []

abbrev pub others : List Rule
others = switch (codes "refused") ∷ switch (codes "folded") ∷ switch (codes "page") ∷ option (codes "files-from") ∷ rest (codes "files") ∷ []

-- the words are all arguments: the program's own name is none of them
abbrev pub command : App
command =
    let new = new_app (codes "tracebook") in
    record new { top = record new.top { rules = settings ++ (tables ++ others); no_binary_name = true; has_version = true } }
