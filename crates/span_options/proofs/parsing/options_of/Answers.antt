use Rattle.std.proofs.Common.{◌≡◌, ◌∙◌, IsSomeAnd, false, true, slice_get, List, ap, ap₂, inl, inr, map, refl, subst, sym}
use Rattle.std.proofs.lemmas.Result.{IfOk-weaker}
use Rattle.clap.specs.Words.{app_of, fault_of, is_simple, is_simple_and_free, kind_of, matches_of}
use Rattle.clap.specs.Kinds.{HasKind, IsAmong}
use Rattle.clap.specs.declared.error.kind.ErrorKind.{ErrorKind}
use Rattle.clap.specs.Walk.{Text}
use Rattle.clap.specs.declared.error.Error.{Error}
use Rattle.span_options.specs.{Command.{command}, Given.{IsGiven}, Parsing.{ParsesTo, SaysOf, fault, faults, is_shown}, declared.parsing.Parsed.{Parsed}}
use Rattle.span_options.specs.declared.parsing.Parsed.TheVariants as parsed
use Rattle.span_options.proofs.OneFault.{faults-single, first-among}
use Rattle.span_options.proofs.parsing.options_of.Goals as goal

pub returns-in-Ok : goal.returns-in-Ok
returns-in-Ok c =
    let is : app_of c.in_ok-command.command ≡ command = c.in_ok-command.ensures in
    let words : map (λ word. word.now) c.as_slice.result.now ≡ c.args.words.now = ap (map (λ word. word.now)) c.as_slice.ensures.value ∙ c.in_ok-words.ensures in (
      ap (λ kinds. slice_get kinds 0) (sym (ap₂ fault_of is words) ∙ c.in-Ok.ensures.kinds (ap is_simple_and_free is ∙ refl)),
      subst (λ matches. IsGiven matches c.in_ok-options_given-in-Ok.field-0)
          ((c.in-Ok.ensures.ok.2 (ap is_simple is ∙ refl)).0 ∙ ap₂ matches_of is words) c.in_ok-options_given-in-Ok.ensures,
    )

-- the fault of words is the kind of an error of theirs
fault-error : (words : List Text) (error : Error) (P : ErrorKind → Type 0) → IsAmong (kind_of error) (faults words)
    → P (kind_of error) → IsSomeAnd (fault words) P
fault-error words error P among holds =
    subst (λ kind. IsSomeAnd kind P) (sym (first-among (faults words) (kind_of error) (faults-single words) among)) holds

-- what is said of an error of the words
says : (words : List Text) (error : Error) (said : Parsed) → HasKind (faults words) error → SaysOf (kind_of error) said → ParsesTo words said
says words error (parsed.Options options) has is = absurd is
says words error (parsed.Show text) has is = elim has [
  | inl memory ↦ absurd (is.1 memory)
  | inr among ↦ fault-error words error (λ kind. is_shown kind ≡ true) among is.0
]
says words error (parsed.Refuse text) has is = elim has [
  | inl memory ↦ absurd (is.1 memory)
  | inr among ↦ fault-error words error (λ kind. is_shown kind ≡ false) among is.0
]

pub returns : goal.returns
returns c =
    let is : app_of c.in_ok-command.command ≡ command = c.in_ok-command.ensures in
    let words : map (λ word. word.now) c.as_slice.result.now ≡ c.args.words.now = ap (map (λ word. word.now)) c.as_slice.ensures.value ∙ c.in_ok-words.ensures in
    let has = subst (λ kinds. HasKind kinds c.in-Err.error) (ap₂ fault_of is words) (c.in-Err.ensures.kinds (ap is_simple_and_free is ∙ refl)) in
    IfOk-weaker c.said.result _ _ (λ said of. says c.args.words.now c.in-Err.error said has of) c.said.ensures
