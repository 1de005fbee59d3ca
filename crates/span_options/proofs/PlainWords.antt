-- Words that begin with no hyphen name files.
use Rattle.std.proofs.Common.{◌≡◌, ◌∙◌, ◌≤◌, ◌==◌, ◌&&◌, ◌++◌, ℕ, Bool, false, true, not, List, [], ◌∷◌, Option, Some, None, length, fold, bytes_eq, is_some, ap, true≢false, refl, sym, subst, arith, append_assoc, append-nil, le-ltb, codes}
use Rattle.std.specs.List.{list_all}
use Rattle.clap.specs.Faults.{check_fault, defaults_fault, entered_fault, settle_fault, turn_fault, walk_fault}
use Rattle.clap.specs.Kinds.{Kinds, or_else, range_kinds, values_kinds}
use Rattle.clap.specs.Lexer.{long_of, short_of, usize_max}
use Rattle.clap.specs.Simple.{built, entered, matches_of}
use Rattle.clap.specs.Walk.{Rule, Text, Walk, finished, nothing_held, positional, settled, walk, walk_from, walked}
use Rattle.clap.specs.declared.builder.value_parser.ValueParser.TheVariants.{String}
use Rattle.clap.proofs.OnLiterals.{clap_on_literals}
use Rattle.span_options.specs.{Command.{command}, Given.{IsGiven}, Laws.{HasOnlyFiles, is_plain}, Parsing.{faults}, declared.options.Options.{Options}}

-- the parser sees no option in the word
record LooksPlain (word : Text) : Type 0 where
  pub dashes : bytes_eq word (45 ∷ 45 ∷ []) ≡ false
  pub long : long_of word ≡ None
  pub short : short_of word ≡ None

looks_plain : (word : Text) → is_plain word ≡ true → LooksPlain word
looks_plain [] plain = record { dashes = refl; long = refl; short = refl }
looks_plain (byte ∷ rest) plain = go (byte == 45) refl plain
  where
    go : (test : Bool) → byte == 45 ≡ test → not test ≡ true → LooksPlain (byte ∷ rest)
    go true is plain = absurd (true≢false (sym plain))
    go false is plain = record { dashes = rw is; long = rw is; short = rw is }

-- ---- the walk

-- the command's rules
abbrev rules : List Rule
rules = (built command).top.rules

-- where the walk stands after words that begin with no hyphen
abbrev at : List Text → Walk
at [] = walk_from nothing_held
at (word ∷ words) = record {
  held = record { rows = []; pending = Some (codes "files", word ∷ words); skip = 0 };
  waiting = positional;
  position = 1;
  is_trailing = false;
  stopped = None;
}

walked-plain : (before : List Text) (word : Text) → is_plain word ≡ true → walked rules [] (at before) word ≡ at (before ++ word ∷ [])
unfolding clap_on_literals
walked-plain [] word plain = let is = looks_plain word plain in rw (is.dashes, is.long, is.short)
walked-plain (first ∷ before) word plain = let is = looks_plain word plain in rw (is.dashes, is.long, is.short)

-- each of the words begins with no hyphen: the first, and the others
plain-first : (word : Text) (words : List Text) → list_all is_plain (word ∷ words) ≡ true → is_plain word ≡ true
plain-first word words plain = go (is_plain word) refl plain
  where
    go : (test : Bool) → is_plain word ≡ test → test && list_all is_plain words ≡ true → is_plain word ≡ true
    go true is all = is
    go false is all = absurd (true≢false (sym all))

plain-others : (word : Text) (words : List Text) → list_all is_plain (word ∷ words) ≡ true → list_all is_plain words ≡ true
plain-others word words plain = rw (plain-first word words plain) at plain

fold-plain : (before words : List Text) → list_all is_plain words ≡ true → fold (walked rules []) (at before) words ≡ at (before ++ words)
fold-plain before [] plain = ap at (sym (append-nil before))
fold-plain before (word ∷ words) plain =
    ap (λ from. fold (walked rules []) from words) (walked-plain before word (plain-first word words plain))
    ∙ fold-plain (before ++ word ∷ []) words (plain-others word words plain) ∙ ap at (append_assoc before (word ∷ []) words)

walk-plain : (words : List Text) → list_all is_plain words ≡ true → walk rules [] nothing_held words ≡ at words
walk-plain words plain = fold-plain [] words plain

-- ---- the faults

or_else-nil : (first next : Kinds) → first ≡ [] → next ≡ [] → or_else first next ≡ []
or_else-nil first next none no_other = ap (λ kinds. or_else kinds next) none ∙ no_other

turn_fault-plain : (before : List Text) (word : Text) → is_plain word ≡ true → turn_fault (built command).top [] (at before) word ≡ []
unfolding clap_on_literals
turn_fault-plain [] word plain = let is = looks_plain word plain in rw (is.dashes, is.long, is.short)
turn_fault-plain (first ∷ before) word plain = let is = looks_plain word plain in rw (is.dashes, is.long, is.short)

walk_fault-plain : (before words : List Text) → list_all is_plain words ≡ true → walk_fault (built command).top [] (at before) words ≡ []
unfolding walk_fault
walk_fault-plain before [] plain = refl
walk_fault-plain before (word ∷ words) plain =
    let first = plain-first word words plain in
    or_else-nil _ _ (turn_fault-plain before word first)
    (ap (λ after. walk_fault (built command).top [] after words) (walked-plain before word first)
    ∙ walk_fault-plain (before ++ word ∷ []) words (plain-others word words plain))

-- any text is a value of a file's name
values_kinds-nil : (values : List Text) → values_kinds false String values ≡ []
values_kinds-nil [] = refl
values_kinds-nil (text ∷ values) = values_kinds-nil values

range_kinds-nil : (n : ℕ) → n ≤ usize_max → range_kinds 0 usize_max n ≡ []
range_kinds-nil n fits = rw (le-ltb n 0 (omega arith), le-ltb usize_max n fits)

settle_fault-plain : (words : List Text) → length words ≤ usize_max → settle_fault rules false (at words).held ≡ []
settle_fault-plain [] fits = refl
settle_fault-plain (word ∷ words) fits = or_else-nil _ _ (range_kinds-nil (length (word ∷ words)) fits) (values_kinds-nil words)

defaults_fault-plain : (words : List Text) → defaults_fault (settled rules (at words).held).rows rules ≡ []
unfolding clap_on_literals
defaults_fault-plain [] = refl
defaults_fault-plain (word ∷ words) = refl

-- the last checks, where the walk ends here
abbrev end_fault : Walk → Kinds
end_fault end = check_fault (built command).top (finished rules end.held) (is_some (entered (built command) end.stopped))

end_fault-plain : (words : List Text) → end_fault (at words) ≡ []
end_fault-plain [] = refl
end_fault-plain (word ∷ words) = refl

entered_fault-nil : (stopped : Option (Text × List Text)) → entered_fault (built command) stopped ≡ []
entered_fault-nil None = refl
entered_fault-nil (Some p) = refl

-- words that begin with no hyphen have no fault
pub faults-plain : (words : List Text) → list_all is_plain words ≡ true → length words ≤ usize_max → faults words ≡ []
faults-plain words plain fits =
    or_else-nil _ _ (walk_fault-plain [] words plain)
    (or_else-nil _ _ (entered_fault-nil (walk rules [] nothing_held words).stopped)
    (or_else-nil _ _ (ap (λ end. settle_fault rules false end.held) (walk-plain words plain) ∙ settle_fault-plain words fits)
    (or_else-nil _ _ (ap (λ end. defaults_fault (settled rules end.held).rows rules) (walk-plain words plain) ∙ defaults_fault-plain words)
    (ap end_fault (walk-plain words plain) ∙ end_fault-plain words))))

-- ---- the options

only_files : (words : List Text) (options : Options) → IsGiven (finished rules (at words).held) options → HasOnlyFiles words options
only_files [] options is = assumption
only_files (word ∷ words) options is = assumption

-- words that begin with no hyphen name files, and give no other option
pub named-plain : (words : List Text) (options : Options) → list_all is_plain words ≡ true → IsGiven (matches_of command words) options
    → HasOnlyFiles words options
named-plain words options plain is =
    only_files words options (subst (λ matches. IsGiven matches options) (ap (λ end. finished rules end.held) (walk-plain words plain)) is)
