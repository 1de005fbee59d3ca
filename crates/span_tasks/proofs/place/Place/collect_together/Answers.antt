use Rattle.std.proofs.{Common.{length, inr, sym, ap, ◌∙◌}, lemmas.Slice.Zip.AllZip-long}
use Rattle.span_tasks.proofs.place.Place.collect_together.Goals as goal

-- there is one end for each file
pub fault_text-requires : goal.fault_text-requires
fault_text-requires g c =
    ap length (c.deref-2.ensures.value ∙ sym c.deref.ensures.value)
    ∙ sym (AllZip-long _ c.deref.result.now c.in-Ok-collect_to_ledger.collected.end.ends.items c.in-Ok-collect_to_ledger.ensures.account.account.each_file_once_in_order)

-- the run ended with 2
pub returns-then-collected-eq2-clause-stop : goal.returns-then-collected-eq2-clause-stop
returns-then-collected-eq2-clause-stop g c = (
  inr (inr (record {
    run = record { inputs = c.in-Ok.inputs; collected = c.in-Ok-collect_to_ledger.collected; lines = c.into_bytes-lines.result; hints = c.hints_of_run-hints.result };
    is = record { read = c.in-Ok.ensures.read; account = rw c.deref.ensures.value at c.in-Ok-collect_to_ledger.ensures.account; status = c.in-Ok-collect_to_ledger.ensures.status };
    status = c.if-collected-eq2.true;
    said = ap (λ bytes. bytes.items) c.into_bytes-lines.ensures.value ∙ (rw c.deref-2.ensures.value at c.in-Ok-fault_text.ensures);
  })),
  c.hints_of_run-hints.ensures,
)
