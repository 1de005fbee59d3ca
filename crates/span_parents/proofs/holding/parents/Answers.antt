use Rattle.std.specs.{List.All, Option.IfSome}
use Rattle.std.proofs.{Common.{ℕ, ◌<◌, Option, subst}, lemmas.{List.length-map, Result.IfOk-weaker}}
use Rattle.span_parents.specs.{Timed, Holding.spans_of}
use Rattle.span_parents.proofs.Places.{All-within, spans_at-parents}
use Rattle.span_parents.proofs.holding.parents.Goals as goal

pub returns-clause-parents : goal.returns-clause-parents
returns-clause-parents c = IfOk-weaker c.highest_holders.result _ _ (λ places are. spans_at-parents (spans_of c.args.spans.now) places.items are) c.highest_holders.ensures

pub returns-clause-within : goal.returns-clause-within
returns-clause-within c =
    IfOk-weaker c.highest_holders.result _ _ (λ places are.
    subst (λ n. All (λ (place : Option ℕ). IfSome place (λ p. p < n)) places.items) (length-map c.args.spans.now (λ (t : Timed). t.span))
    (All-within _ (spans_of c.args.spans.now) places.items are)) c.highest_holders.ensures
