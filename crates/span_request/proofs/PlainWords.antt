-- Words that begin with no hyphen.
use Rattle.std.proofs.{Common.{◌≡◌, ◌∙◌, ◌+◌, ◌&&◌, ◌==◌, arith, cond, codes, Bool, false, true, filter, length, List, [], ◌∷◌, None, ap, ap₂, inl, inr, nat_lt, refl, subst, sym, true≢false}, lemmas.{Bool.and_parts, Slice.Eq.bytes_eq-Decides}}
use Rattle.std.specs.{List.list_all, Prelude.IsSomeAnd}
use Rattle.span_options.specs.Laws.{HasOnlyFiles, PlainWordsNameFiles, is_plain}
use Rattle.span_options.specs.Parsing.{fault, is_shown}
use Rattle.span_options.specs.declared.parsing.Parsed.TheVariants as parsed
use Rattle.span_request.specs.{Bytes, Options, ParsesTo, Spans, is_standard, Asked.Asked, Columns.alike, Laws.{IsReport, PlainWordsAskForReports, default_settings}, Request.{AreSound, AsksFor, IsOf}, Rules.standard_uses, Tasks.settings_of, Texts.prints_table}
use Rattle.span_request.specs.declared.tasks.{Request.{Request, TheVariants.{Refuse, Run, Show}}, Task.TheVariants.{Collect, Pages, Stacks, Tabulate}}
use Rattle.span_request.specs.declared.views.View.TheVariants.{Folded, Page, Refusals, Report}

-- words that begin with no hyphen don't stand for standard input
none_standard : (words : List Bytes) → list_all is_plain words ≡ true → filter is_standard words ≡ []
none_standard [] plain = refl
none_standard (word ∷ words) plain =
    let both = and_parts (is_plain word) (list_all is_plain words) plain in
    ap (λ b. cond b (word ∷ filter is_standard words) (filter is_standard words)) (other word both.0) ∙ none_standard words both.1
  where
    other : (word : Bytes) → is_plain word ≡ true → is_standard word ≡ false
    other word plain = by (is_standard word) refl
      where
        by : (b : Bool) → is_standard word ≡ b → b ≡ false
        by false e = refl
        by true e = absurd (true≢false (sym plain ∙ ap is_plain ((bytes_eq-Decides word (codes "-")).0 e)))

-- so it is named once at most
once_standard : (words : List Bytes) (options : Options) → list_all is_plain words ≡ true → HasOnlyFiles words options → nat_lt 1 (standard_uses options) ≡ false
once_standard words options plain only = rw (only.names, only.base, only.files_from, none_standard words plain) (by (length words == 0))
  where
    by : (b : Bool) → nat_lt 1 (0 + (0 + cond b 1 0)) ≡ false
    by true = refl
    by false = refl

-- a table of spans by the usual columns
abbrev usual : Asked
usual = record { of = Spans; columns = alike; numbers = []; conditions = [] }

-- options that only name files break no rule
sound : (words : List Bytes) (options : Options) → list_all is_plain words ≡ true → HasOnlyFiles words options → AreSound options usual
sound words options plain only = record {
  apart = rw (once_standard words options plain only, only.top, only.refused, only.folded, only.page, only.base, only.json, only.repeats, only.add) refl;
  busy = rw (only.by, only.numbers, only.of, only.group_by, only.conditions, only.merge_templates, only.only, only.skip, only.add, only.apart, only.repeats, only.jobs) refl;
  summed = record {
    of = rw (only.of) refl;
    columns = rw (only.by, only.numbers, only.of, only.group_by, only.conditions, only.merge_templates, only.only, only.skip, only.apart, only.add, only.base, only.top, only.folded, only.page) refl;
    numbers = rw (only.numbers) refl;
    conditions = rw (only.conditions) tt;
  };
  suited = rw (only.by, only.numbers, only.add, only.folded, only.json) refl;
  tested = rw (only.add) refl;
}

no_table : (words : List Bytes) (options : Options) → HasOnlyFiles words options → prints_table options ≡ false
no_table words options only = rw (only.by, only.numbers, only.of, only.group_by, only.conditions, only.merge_templates, only.only, only.skip, only.apart, only.add, only.top, only.json, only.base) refl

default : (words : List Bytes) (options : Options) → HasOnlyFiles words options → settings_of options ≡ default_settings
default words options only = rw (only.nanoseconds, only.large, only.limit, only.seal, only.strict, only.apart, only.repeats) refl

-- what options that only name files ask for is their report
of_options : (words : List Bytes) (options : Options) → list_all is_plain words ≡ true → HasOnlyFiles words options → (request : Request) → IsOf options request → IsReport words request
of_options words options plain only (Run (Collect settings (Report warns)) files) is =
    (is.0.2.1 ∙ default words options only, is.0.2.2.1 ∙ rw (only.nanoseconds, only.large, only.files_from) refl, is.1.0 ∙ only.names, is.1.1 ∙ only.files_from)
of_options words options plain only (Run (Collect settings Refusals) files) is = true≢false (sym is.0.2.2 ∙ only.refused)
of_options words options plain only (Run (Collect settings (Folded labels)) files) is = true≢false (sym is.0.2.2.0 ∙ only.folded)
of_options words options plain only (Run (Collect settings (Page view)) files) is = true≢false (sym is.0.2.2.0 ∙ only.page)
of_options words options plain only (Run (Pages settings jobs view) files) is = true≢false (sym is.0.2.0 ∙ ap₂ (λ a b. a && b) only.page only.apart)
of_options words options plain only (Run (Stacks settings jobs labels) files) is = true≢false (sym is.0.2.0 ∙ ap₂ (λ a b. a && b) only.folded only.apart)
of_options words options plain only (Run (Tabulate tables) files) is = true≢false (sym is.0.2.0 ∙ no_table words options only)
of_options words options plain only (Show text) is = absurd is
of_options words options plain only (Refuse text) is = absurd (is usual (sound words options plain only))

-- where the words have no fault, and options that they give only name files
by_words : (words : List Bytes) → list_all is_plain words ≡ true → fault words ≡ None → ((options : Options) → ParsesTo words (parsed.Options options) → HasOnlyFiles words options)
    → (request : Request) → AsksFor words request → IsReport words request
by_words words plain none only (Run task files) asks = of_options words asks.0 plain (only asks.0 asks.1) (Run task files) (asks.2, asks.3)
by_words words plain none only (Show text) asks = absurd (subst (λ kind. IsSomeAnd kind (λ k. is_shown k ≡ true)) none asks)
by_words words plain none only (Refuse text) asks = elim asks [
  | inl refused ↦ absurd (subst (λ kind. IsSomeAnd kind (λ k. is_shown k ≡ false)) none refused)
  | inr unsound ↦ absurd (unsound.2 usual (sound words unsound.0 plain (only unsound.0 unsound.1)))
]

pub plain-report : PlainWordsNameFiles → PlainWordsAskForReports
plain-report law words request plain fits asks =
    by_words words plain (law.faultless words plain (omega arith)) (λ options parses. law.named words options plain parses.1) request asks
