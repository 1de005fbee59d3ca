use Rattle.std.specs.Str.{bytes_eq}
use Rattle.std.proofs.{Common.{◌≡◌, ◌∙◌, ap, cond, sym}, lemmas.Str.Pattern.contains_text}
use Rattle.span_table_text.proofs.Substrings.{has_bytes-is}
use Rattle.span_narrowing.specs.{has_bytes}
use Rattle.span_narrowing.proofs.conditions.Condition.is_so.Goals as goal

pub returns-then-self : goal.returns-then-self
returns-then-self c =
    let own = c.args.self.now.text in
    let text = c.args.text.now in
    let found : c.contains.result ≡ has_bytes own text =
    has_bytes-is c.contains.result c.as_str.result.now text (contains_text c.contains.result c.as_str.result.now text c.contains.ensures.cases)
    ∙ ap (λ bytes. has_bytes bytes text) c.as_str.ensures in
    found ∙ ap (λ b. cond b (has_bytes own text) (bytes_eq text own)) (sym c.if-self.true)
