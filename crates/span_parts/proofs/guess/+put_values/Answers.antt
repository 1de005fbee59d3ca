use Rattle.std.proofs.Common.{[], ◌∷◌, ◌++◌, map, sym, ap, subst, ◌∙◌, append_assoc}
use Rattle.json.specs.Reads.{token_of}
use Rattle.span_parts.specs.{AreDistinct}
use Rattle.span_parts.proofs.Guessing.{next_value}
use Rattle.span_parts.proofs.guess.+put_values.Goals as goal

-- the value that was found is the first of the key
pub returns-in-Ok : goal.returns-in-Ok
returns-in-Ok t c = λ first columns more rest distinct keys named is.
    let old = c.args.values.now.items in
    let split = c.in-Some.ensures.cases.0 ∙ ap (λ name. name ∷ c.in-Some.names.now) (sym c.as_str.ensures) in
    let parted = subst AreDistinct split distinct in
    let next = next_value c.as_str.result.now c.in-Some.names.now first (map token_of c.args.tokens.now) rest (c.in_ok-value.value, c.in_ok-value.rest) c.in_ok-value.ensures.there c.in_ok-value.ensures.missing columns more parted keys (sym split ∙ named) is in
    let left = c.in-Ok.ensures first next.columns next.later rest parted.1 next.keys next.named next.next in (
      left.0 ∙ ap (λ l. l ++ next.later) c.in_ok-push.ensures.items ∙ append_assoc old (c.in_ok-value.value ∷ []) next.later ∙ ap (λ l. old ++ l) (sym next.split),
      left.1,
    )
