use Rattle.std.specs.Prelude.{flat_map}
use Rattle.std.proofs.{Common.{rules, ◌≡◌, List, ◌∷◌, [], ◌++◌, map, refl, sym, ap, subst, ◌∙◌}, lemmas.List.{flat_map_more}}
use Rattle.span_table.specs.{Thread, ThreadRow, accepted, thread_of_row, thread_keys, thread_row, thread_rows, Collected.Takes, Columns.Run, Tables.{KeyedSums, thread_sums, with_only}}
use Rattle.span_table.proofs.{AddedTables.map-flat_map, Summing.{Takes-all, Takes-next}}
use Rattle.span_table.proofs.collected.RunColumns.add_spans.Goals as goal

pub loop-row-preserved : goal.loop-row-preserved
loop-row-preserved c =
    let each = λ (row : ThreadRow). map (with_only c.args.self.now.schema.now.numbers) (thread_sums c.args.self.now.schema.now.columns c.args.self.now.run.now (thread_of_row row)) in
    let taken : Takes c.loop-row.groups c.add_thread.new.groups (each c.row-item.result) = search rules in
    Takes-next (flat_map each) each (λ rows row. sym (flat_map_more each [] rows row)) c.deref-row-items.result.now c.args.groups.now c.loop-row.row-index c.row-item.result c.loop-row.groups c.add_thread.new.groups
    c.loop-row-test.true c.row-item.is c.loop-row.invariant taken

pub returns : goal.returns
returns c =
    let journal = c.args.self.now.run.now.journal in
    let threads = thread_keys (accepted journal) in
    let of_thread = thread_sums c.args.self.now.schema.now.columns c.args.self.now.run.now in
    let make = λ (thread : Thread). map (with_only c.args.self.now.schema.now.numbers) (of_thread thread) in
    let each = λ (row : ThreadRow). make (thread_of_row row) in
    let at = c.loop-row.row-index in
    let rows = c.deref-row-items.ensures.value ∙ c.in_ok-threads.ensures.rows ∙ ap (λ (run : Run). thread_rows run.journal) c.run.view_is in
    subst (Takes c.args.groups.now c.loop-row.groups) (ap (flat_map each) rows ∙ by_thread journal make threads ∙ sym (map-flat_map (with_only c.args.self.now.schema.now.numbers) of_thread threads))
    (Takes-all (flat_map each) each (λ rows row. sym (flat_map_more each [] rows row)) c.deref-row-items.result.now c.args.groups.now at c.loop-row.groups c.loop-row-test.false c.loop-row.invariant)
  where
    by_thread : (journal : _) (make : Thread → KeyedSums) (threads : List Thread) → flat_map (λ (row : ThreadRow). make (thread_of_row row)) (map (thread_row journal) threads) ≡ flat_map make threads
    by_thread journal make [] = refl
    by_thread journal make (t ∷ threads) = ap (λ l. make t ++ l) (by_thread journal make threads)
