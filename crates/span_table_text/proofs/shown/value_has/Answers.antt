use Rattle.std.proofs.{Common.{rules, ◌≡◌, ap₂, ◌∙◌}, lemmas.Str.Pattern.contains_text}
use Rattle.span_table_text.specs.Shown.{has_bytes}
use Rattle.span_table_text.proofs.Substrings.{has_bytes-is}
use Rattle.span_table_text.proofs.shown.value_has.Goals as goal

pub returns-in-Some-Words : goal.returns-in-Some-Words
returns-in-Some-Words c =
    let found : c.contains.result ≡ has_bytes c.args.bytes.now c.in-Some-Words.text =
    has_bytes-is c.contains.result c.as_str-in-Some-Words.result.now c.as_str.result.now (contains_text c.contains.result c.as_str-in-Some-Words.result.now c.as_str.result.now c.contains.ensures.cases)
    ∙ ap₂ has_bytes c.as_str-in-Some-Words.ensures c.as_str.ensures in
    found ∙ search rules
