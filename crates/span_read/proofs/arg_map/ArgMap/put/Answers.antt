use Rattle.std.proofs.Common.{Result, Ok, Err, OnOk, OnErr, sym, subst}
use Rattle.span_event.proofs.Merged.{IsInNameOrder-insert_entry}
use Rattle.span_read.specs.{IsInNameOrder, ArgMap.pairs_in}
use Rattle.span_read.proofs.arg_map.ArgMap.put.Goals as goal

either_way : {A E P Q R : Type 0} (r : Result A E) → OnOk r P → OnErr r Q → (P → R) → (Q → R) → R
either_way (Ok a) ok err if_ok if_err = if_ok ok
either_way (Err e) ok err if_ok if_err = if_err err

pub invariant_of-self : goal.invariant_of-self
invariant_of-self c =
    let few : IsInNameOrder c.in-Few.pairs.items = subst (λ kept. IsInNameOrder (pairs_in kept)) c.in-Few.is c.self.invariant in
    either_way c.put.result c.put.ensures.ok c.put.ensures.err
    (λ is. subst IsInNameOrder (sym is) (IsInNameOrder-insert_entry (c.args.name, c.args.value) _ few))
    (λ is. subst IsInNameOrder (sym is) few)
