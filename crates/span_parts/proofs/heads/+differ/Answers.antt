use Rattle.std.proofs.Common.{List, map, not, ap, subst, sym, ◌∙◌}
use Rattle.span_parts.specs.{Number, AreDistinct, number_name}
use Rattle.span_parts.proofs.{Lists.no-both, Numbered.{differs-all, differs-has}}
use Rattle.span_parts.proofs.heads.+differ.Goals as goal

pub returns-then-not-has_number : goal.returns-then-not-has_number
returns-then-not-has_number t c =
    let first = c.in-Some.number.now in
    let split = c.in-Some.ensures.cases.0 in
    let apart = differs-all first c.in-Some.later.now (sym c.has_number.ensures ∙ c.if-not-has_number.true) in (
      (λ yes. subst (λ (l : List Number). AreDistinct (map number_name l)) (sym split) (apart, c.differ.ensures.0 yes)),
      λ distinct. c.differ.ensures.1 (subst (λ (l : List Number). AreDistinct (map number_name l)) split distinct).1,
    )

pub returns-else-not-has_number : goal.returns-else-not-has_number
returns-else-not-has_number t c =
    let first = c.in-Some.number.now in (
      (λ yes. absurd (no-both (not c.has_number.result) (ap not c.if-not-has_number.false) yes)),
      λ distinct.
          let all = subst (λ (l : List Number). AreDistinct (map number_name l)) c.in-Some.ensures.cases.0 distinct in
          ap not (c.has_number.ensures ∙ differs-has first c.in-Some.later.now all.0),
    )
