use Rattle.std.proofs.{Common.{rules, ◌≡◌, ◌+◌, ◌≤◌, [], length, sym, subst, ap, inr, ◌∙◌, arith}, lemmas.{Grind.common_steps, List.nil_from_length}}
use Rattle.span_runs.specs.{run_line, Names.{most_listed, name_of}, Source.AreFirst, declared.source.Name.Name}
use Rattle.span_runs.proofs.Stopping.{OfStop-hinted, OfStop-weaker}
use Rattle.span_runs.proofs.names.listed_names.Goals as goal

-- there is no name
pub returns-then-is_empty-clause-stop : goal.returns-then-is_empty-clause-stop
returns-then-is_empty-clause-stop g c =
    let source = g.S.Source.bytes c.args.source.now in
    let names = c.in-Ok-with_names.names in
    let bytes = c.in-Ok.bytes.items in
    let within : length bytes ≤ most_listed = search rules in
    let none : length names.items ≡ 0 = grind (arith, common_steps) in
    let empty : names.items ≡ [] = nil_from_length names.items none in
    OfStop-weaker (λ lines. lines ≡ run_line c.code.result) _
    (λ lines is. inr (
      record {
        bytes = bytes;
        read = subst (λ (name : Name). AreFirst (most_listed + 1) (source name) bytes) (c.name_of_word-file.ensures ∙ ap name_of c.in_ok-try_clone.ensures) c.in-Ok.ensures.first;
        within = within;
        all = sym empty ∙ (rw c.deref.ensures.value at c.in-Ok-with_names.ensures);
      },
      is ∙ ap run_line c.code.ensures,
    ))
    c.with_hint.result (OfStop-hinted (λ lines. lines ≡ run_line c.code.result) c.of_run.result c.with_hint.result c.with_hint.ensures c.of_run.ensures)
