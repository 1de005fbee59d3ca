use Rattle.std.specs.List.{list_any}
use Rattle.std.proofs.{Common.{◌≡◌, nat_eq, true, is_some, sym, ap, ◌∙◌, arith}, lemmas.Map.Made.is_some-lookup}
use Rattle.indexmap.specs.IndexMap.{keys}
use Rattle.indexmap.proofs.SetLemmas.{keys_insert_entry}
use Rattle.span_closed_spans.proofs.name_totals.add_to_total.Goals as goal

-- a name that has a total is among the names already
pub returns-in-Some-clause-names : goal.returns-in-Some-clause-names
returns-in-Some-clause-names c =
    let old = c.args.totals.now in
    let among : list_any (nat_eq c.args.name) (keys old) ≡ true = sym (is_some-lookup (nat_eq c.args.name) old.entries) ∙ ap is_some (sym c.in-Some.ensures.value) in
    rw (among) ((c.get_mut.follows.holds _).1)

pub returns-clause-names : goal.returns-clause-names
returns-clause-names c = grind (arith, keys_insert_entry, c.insert.ensures.entries, c.is_err.ensures.value)
