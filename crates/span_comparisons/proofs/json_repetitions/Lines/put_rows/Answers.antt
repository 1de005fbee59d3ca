use Rattle.std.specs.{List.list_all, Prelude.{IfErr, Result, Err}}
use Rattle.std.proofs.{Common.{rules, ◌≡◌, false, List, map, sym, ap, ap₂, subst, ◌∙◌}, lemmas.List.Folds.{list_all-map, list_all_at}}
use Rattle.span_comparisons.specs.{JsonFault, TooGreat, SpanTable, Repeats.key_fits}
use Rattle.span_comparisons.proofs.json_repetitions.Lines.put_rows.Goals as goal

pub returns-in_err-line-clause-too_great : goal.returns-in_err-line-clause-too_great
returns-in_err-line-clause-too_great c =
    let base = c.args.base.now in
    let other = c.args.other.now in
    let keys = c.args.keys.now in
    let key = c.key-item.result in
    let at = c.loop-key.key-index in
    let fits = key_fits c.args.self.now.by base other in
    let tables = ap₂ (λ (b o : List SpanTable). key_fits c.args.self.now.by b o key.now) c.loop-key.invariant.base c.loop-key.invariant.other in
    let is : c.from_residual-in_err-line.result ≡ Err c.in_err-line.field-0.0 = search rules in
    subst (λ (result : Result (Unit {0}) JsonFault). IfErr result (λ fault. fault ≡ TooGreat → list_all fits (map (λ key. key.now) keys) ≡ false)) (sym is)
    (λ great. list_all-map fits (λ key. key.now) keys
    ∙ list_all_at (λ key. fits key.now) keys at key c.loop-key-test.true (ap (λ key. fits key.now) (sym c.key-item.is) ∙ sym tables ∙ c.in_err-line.ensures.too_great great))
