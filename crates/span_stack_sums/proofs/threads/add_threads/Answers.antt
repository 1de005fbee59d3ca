use Rattle.std.specs.Prelude.{Err, flat_map}
use Rattle.std.proofs.{Common.{◌≡◌, ◌+◌, ◌∷◌, List, suc, drop, rules, sym, ap, ap₂, subst, ◌∙◌, arith}, Math.Seq.drop-cons, lemmas.List.drop_all}
use Rattle.span_stack_sums.specs.{Thread, ThreadRow, TooLarge, accepted, thread_keys, Kept.{Exceeds, TakesSums}, Stacks.thread_sums}
use Rattle.span_stack_sums.proofs.Taking.{Exceeds-first, Exceeds-later, TakesSums-both, TakesSums-none, of_row, of_rows-threads}
use Rattle.span_stack_sums.proofs.threads.add_threads.Goals as goal

pub loop-row-preserved : goal.loop-row-preserved
loop-row-preserved c =
    let columns = c.args.columns.now in
    let journal = c.args.ledger.now.journal in
    let each = of_row columns journal in
    let rows = c.deref-row-items.result.now in
    let index = c.loop-row.row-index in
    let row : ThreadRow = c.row-item.result in
    let later = drop (index + 1) rows in
    let one : index + 1 ≡ suc index = omega arith in
    let rest : drop index rows ≡ row ∷ later = drop-cons rows index row c.loop-row-test.true ∙ ap₂ (λ (r : ThreadRow) n. r ∷ drop n rows) (sym c.row-item.is) (sym one) in
    let old = c.loop-row.rows in
    let mid = c.add_thread.new.rows in
    let taken = subst (λ (t : Thread). TakesSums old mid (thread_sums columns journal t)) c.thread_of.ensures c.in_ok-add_thread.ensures.rows in
    record {
      rows = λ newer more. c.loop-row.invariant.rows newer (subst (λ (rs : List ThreadRow). TakesSums old newer (flat_map each rs)) (sym rest) (TakesSums-both old mid newer (each row) (flat_map each later) taken more));
      full = λ exceeds. c.loop-row.invariant.full (subst (λ (rs : List ThreadRow). Exceeds old (flat_map each rs)) (sym rest) (Exceeds-later old mid (each row) (flat_map each later) taken exceeds));
    }

pub returns-clause-rows : goal.returns-clause-rows
returns-clause-rows c =
    let columns = c.args.columns.now in
    let journal = c.args.ledger.now.journal in
    let each = of_row columns journal in
    let rows = c.loop-row.rows in
    let items = c.deref-row-items.result.now in
    subst (TakesSums c.args.rows.now rows)
    (ap (flat_map each) (c.deref-row-items.ensures.value ∙ c.in_ok-threads.ensures.rows) ∙ of_rows-threads columns journal (thread_keys (accepted journal)))
    (c.loop-row.invariant.rows rows (subst (λ (rs : List ThreadRow). TakesSums rows rows (flat_map each rs)) (sym (drop_all c.loop-row.row-index items c.loop-row-test.false)) (TakesSums-none rows)))

-- where a thread exceeds, all do
pub returns-in_err-add_thread-clause-full : goal.returns-in_err-add_thread-clause-full
returns-in_err-add_thread-clause-full c = λ large.
    let columns = c.args.columns.now in
    let journal = c.args.ledger.now.journal in
    let each = of_row columns journal in
    let rows = c.deref-row-items.result.now in
    let index = c.loop-row.row-index in
    let row : ThreadRow = c.row-item.result in
    let later = drop (index + 1) rows in
    let one : index + 1 ≡ suc index = omega arith in
    let rest : drop index rows ≡ row ∷ later = drop-cons rows index row c.loop-row-test.true ∙ ap₂ (λ (r : ThreadRow) n. r ∷ drop n rows) (sym c.row-item.is) (sym one) in
    let old = c.loop-row.rows in
    let failed : c.add_thread.result ≡ Err TooLarge = search rules in
    let exceeds = subst (λ (t : Thread). Exceeds old (thread_sums columns journal t)) c.thread_of.ensures (c.add_thread.ensures.full failed) in
    subst (Exceeds c.args.rows.now)
    (ap (flat_map each) (c.deref-row-items.ensures.value ∙ c.in_ok-threads.ensures.rows) ∙ of_rows-threads columns journal (thread_keys (accepted journal)))
    (c.loop-row.invariant.full (subst (λ (rs : List ThreadRow). Exceeds old (flat_map each rs)) (sym rest) (Exceeds-first old (each row) (flat_map each later) exceeds)))
