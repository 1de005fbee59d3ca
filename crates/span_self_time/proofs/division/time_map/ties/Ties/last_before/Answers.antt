use Rattle.std.proofs.{Common.{rules, ◌≡◌, ℤ, List, w64, to_z, of_z, sym, ap, ◌∙◌, subst, All}, lemmas.List.Elements.All-filter}
use Rattle.span_self_time.specs.Division.TimeMap.Ties.{IsBarred}
use Rattle.span_self_time.proofs.TimeMap.Barring.{All-last}
use Rattle.span_self_time.proofs.division.time_map.ties.Ties.last_before.Goals as goal

pub returns-then-end-time-clause-barred : goal.returns-then-end-time-clause-barred
returns-then-end-time-clause-barred c = λ owners are.
    let found = c.in-Some.field-0.now in
    let first : to_z w64 (of_z w64 found.0) ≡ found.0 = search rules in
    let start : to_z w64 (of_z w64 c.args.start) ≡ c.args.start = search rules in
    let end : to_z w64 (of_z w64 found.1) ≡ found.1 = search rules in
    let same : found.0 ≡ c.args.start = sym first ∙ ap (to_z w64) c.if-first-start.true ∙ start in
    let all = subst (λ (l : List (ℤ × ℤ)). All (λ b. IsBarred owners b.0 b.1) l) (sym (c.range.ensures.between tt)) (All-filter _ (λ b. IsBarred owners b.0 b.1) c.args.self.now.ends.keys are) in
    let here = All-last (λ b. IsBarred owners b.0 b.1) c.next_back.new.self found (subst (λ (l : List (ℤ × ℤ)). All (λ b. IsBarred owners b.0 b.1) l) c.in-Some.ensures.steps all) in
    rw end (subst (λ a. IsBarred owners a found.1) same here)
