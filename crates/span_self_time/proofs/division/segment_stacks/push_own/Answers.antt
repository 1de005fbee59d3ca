use Rattle.std.proofs.{Common.{◌≡◌, ◌++◌, [], ◌∷◌, reverse, sym, ap, ap₂, ◌∙◌, subst, rules, w64, to_z, of_z}, lemmas.Int.to_z-of_z}
use Rattle.span_self_time.specs.Division.{owner_of, between, SegmentStacks.{ArePast, IsTakenBack}}
use Rattle.span_self_time.proofs.SegmentStacks.Gaining.{ArePast-taken_back}
use Rattle.span_self_time.proofs.division.segment_stacks.push_own.Goals as goal

pub returns-clause-past : goal.returns-clause-past
returns-clause-past c =
    let span = c.args.span.now in
    let rest = c.take_back-start.new.past.items in
    let from : to_z w64 (of_z w64 c.args.from) ≡ c.args.from = to_z-of_z w64 c.args.from c.ranges.from in
    let until : to_z w64 (of_z w64 c.args.until) ≡ c.args.until = to_z-of_z w64 c.args.until c.ranges.until in
    let start : to_z w64 (of_z w64 c.take_back-start.result) ≡ c.take_back-start.result = search rules in
    let owned : c.between.result ≡ between span c.take_back-start.result c.args.until = c.between.ensures ∙ ap₂ (between span) start until in
    let joined : c.push_reserved.new.self.items ≡ rest ++ between span c.take_back-start.result c.args.until ∷ [] = c.push_reserved.ensures.items ∙ ap (λ p. rest ++ p ∷ []) owned in
    λ owners only belongs past.
    let at = c.take_back-start.ensures.past owners only (subst (λ t. ArePast owners t (reverse c.args.past.now.items)) (sym from) past) in
    rw joined (ArePast-taken_back span c.take_back-start.result c.args.from c.args.until rest owners c.requires.lasts belongs
    (subst (λ t. IsTakenBack (owner_of span) c.take_back-start.result t rest owners) from at))
