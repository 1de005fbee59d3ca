use Rattle.std.proofs.Common.{◌++◌, ◌∙◌, ℕ, List, codes, rules, string_bytes, ap, subst}
use Rattle.span_page.specs.{KeyedSums, SpanColumn, Stands, SummedStacks, Unit, json_text_of, rows_of, Bounds.{IsFaultOf, IsTooLong}, Runs.{Begins, BegunPage, ShownRun, page_of_runs}, Safe.safe, declared.fault.PageFault.PageFault}
use Rattle.span_page.proofs.{LongTexts.fails, RunsSoFar.{page_of_runs-begun, page_of_runs-long_graph, page_of_runs-long_rows, page_of_runs-long_table}}
use Rattle.span_page.proofs.runs.Begun.end.Goals as goal

pub returns-clause-text : goal.returns-clause-text
returns-clause-text c = λ unit labels runs sums begins stands.
    let table = string_bytes c.args.table in
    let a = c.in_ok-extend_from_slice.ensures.items ∙ ap (λ (t : List ℕ). t ++ codes "],\"table\":") ((λ i. (c.self.view_is i).text) ∙ begins.text) in
    let b = c.in_ok-put_safe_string.ensures.text ∙ ap (λ (t : List ℕ). t ++ safe (json_text_of table)) a in
    let d = c.in_ok-extend_from_slice-2.ensures.items ∙ ap (λ (t : List ℕ). t ++ codes ",\"graph\":") b in
    let graph = c.as_bytes.ensures.value ∙ c.in_ok-graph.ensures.text sums stands in
    let e = c.in_ok-put_safe.ensures.text ∙ (λ i. d i ++ safe (graph i)) in
    let f = c.in_ok-extend_from_slice-3.ensures.items ∙ ap (λ (t : List ℕ). t ++ codes "}") e in
    c.in_ok-extend_from_slice-4.ensures.items ∙ (λ i. f i ++ (c.as_bytes-2.ensures.value ∙ c.behind.ensures) i) ∙ page_of_runs-begun unit labels table (rows_of sums) runs

-- what is said of a page that is too long
abbrev Says : BegunPage → SummedStacks → List ℕ → PageFault → Type 0
Says page stacks table fault =
    (unit : Unit) (labels : List SpanColumn) (runs : List ShownRun) (sums : KeyedSums) → Begins unit labels runs page → Stands stacks.rows sums → IsFaultOf (page_of_runs unit labels table (rows_of sums) runs) fault

-- with the table it is too long
pub returns-in_err-put_safe_string-clause-full : goal.returns-in_err-put_safe_string-clause-full
returns-in_err-put_safe_string-clause-full c =
    let table = string_bytes c.args.table in
    fails (Says c.args.self c.args.stacks table) c.from_residual-in_err-put_safe_string.result c.in_err-put_safe_string.field-0.0 (search rules)
    (λ unit labels runs sums begins stands large.
    let a = c.in_ok-extend_from_slice.ensures.items ∙ ap (λ (t : List ℕ). t ++ codes "],\"table\":") ((λ i. (c.self.view_is i).text) ∙ begins.text) in
    page_of_runs-long_table unit labels table (rows_of sums) runs (subst IsTooLong (ap (λ (t : List ℕ). t ++ safe (json_text_of table)) a) (c.in_err-put_safe_string.ensures.full large)))

-- the graph alone is too long
pub returns-in_err-graph-clause-full : goal.returns-in_err-graph-clause-full
returns-in_err-graph-clause-full c =
    let table = string_bytes c.args.table in
    fails (Says c.args.self c.args.stacks table) c.from_residual-in_err-graph.result c.in_err-graph.field-0.0 (search rules)
    (λ unit labels runs sums begins stands large. page_of_runs-long_rows unit labels table (rows_of sums) runs (c.in_err-graph.ensures.full sums stands large))

-- with the graph it is too long
pub returns-in_err-put_safe-clause-full : goal.returns-in_err-put_safe-clause-full
returns-in_err-put_safe-clause-full c =
    let table = string_bytes c.args.table in
    fails (Says c.args.self c.args.stacks table) c.from_residual-in_err-put_safe.result c.in_err-put_safe.field-0.0 (search rules)
    (λ unit labels runs sums begins stands large.
    let a = c.in_ok-extend_from_slice.ensures.items ∙ ap (λ (t : List ℕ). t ++ codes "],\"table\":") ((λ i. (c.self.view_is i).text) ∙ begins.text) in
    let b = c.in_ok-put_safe_string.ensures.text ∙ ap (λ (t : List ℕ). t ++ safe (json_text_of table)) a in
    let d = c.in_ok-extend_from_slice-2.ensures.items ∙ ap (λ (t : List ℕ). t ++ codes ",\"graph\":") b in
    let graph = c.as_bytes.ensures.value ∙ c.in_ok-graph.ensures.text sums stands in
    page_of_runs-long_graph unit labels table (rows_of sums) runs (subst IsTooLong (λ i. d i ++ safe (graph i)) (c.in_err-put_safe.ensures.full large)))

-- it is as a whole
pub returns-in_err-check_length-clause-full : goal.returns-in_err-check_length-clause-full
returns-in_err-check_length-clause-full c =
    let table = string_bytes c.args.table in
    fails (Says c.args.self c.args.stacks table) c.from_residual-in_err-check_length.result c.in_err-check_length.field-0.0 (search rules)
    (λ unit labels runs sums begins stands large.
    let a = c.in_ok-extend_from_slice.ensures.items ∙ ap (λ (t : List ℕ). t ++ codes "],\"table\":") ((λ i. (c.self.view_is i).text) ∙ begins.text) in
    let b = c.in_ok-put_safe_string.ensures.text ∙ ap (λ (t : List ℕ). t ++ safe (json_text_of table)) a in
    let d = c.in_ok-extend_from_slice-2.ensures.items ∙ ap (λ (t : List ℕ). t ++ codes ",\"graph\":") b in
    let graph = c.as_bytes.ensures.value ∙ c.in_ok-graph.ensures.text sums stands in
    let e = c.in_ok-put_safe.ensures.text ∙ (λ i. d i ++ safe (graph i)) in
    let f = c.in_ok-extend_from_slice-3.ensures.items ∙ ap (λ (t : List ℕ). t ++ codes "}") e in
    subst IsTooLong (c.deref.ensures.value ∙ c.in_ok-extend_from_slice-4.ensures.items ∙ (λ i. f i ++ (c.as_bytes-2.ensures.value ∙ c.behind.ensures) i) ∙ page_of_runs-begun unit labels table (rows_of sums) runs)
    (c.in_err-check_length.ensures.full large))
