use Rattle.std.specs.Prelude.{codes}
use Rattle.std.proofs.Common.{◌++◌, List, ℕ, rules, string_bytes, ap, subst, ◌∙◌, sym}
use Rattle.span_page.specs.{json_text_of, report_of, Bounds.{IsFaultOf, IsTooLong}, Data.{data_of, most_frames, rest_of}, Safe.safe}
use Rattle.span_page.proofs.{LongTexts.{fails, long-one-of-four, long-three-of-four}, SafePieces.{append-four, safe-data}}
use Rattle.span_page.proofs.data.put_data.Goals as goal

pub returns-clause-text : goal.returns-clause-text
returns-clause-text c =
    let journal = c.args.ledger.now.journal in
    let table = string_bytes c.args.table in
    let out = c.args.out.now.items in
    let rest = rest_of c.args.unit most_frames c.args.labels.now c.args.files.now c.args.ends.now journal in
    let begun = codes "{\"report\":" ++ safe (json_text_of (report_of c.args.unit journal)) in
    let a = c.in_ok-threads.ensures.text in
    let b = c.in_ok-extend_from_slice.ensures.items ∙ ap (λ (t : List ℕ). t ++ codes ",\"table\":") a in
    let d = c.in_ok-put_safe_string.ensures.text ∙ ap (λ (t : List ℕ). t ++ safe (json_text_of table)) b in
    c.in_ok-put_rest.ensures.text ∙ ap (λ (t : List ℕ). t ++ safe rest) d
    ∙ append-four out begun (codes ",\"table\":") (safe (json_text_of table)) (safe rest)
    ∙ ap (λ (t : List ℕ). out ++ t) (sym (safe-data c.args.unit c.args.labels.now table c.args.files.now c.args.ends.now journal))

-- the report alone is too much
pub returns-in_err-threads-clause-full : goal.returns-in_err-threads-clause-full
returns-in_err-threads-clause-full c =
    let journal = c.args.ledger.now.journal in
    let table = string_bytes c.args.table in
    let out = c.args.out.now.items in
    let rest = rest_of c.args.unit most_frames c.args.labels.now c.args.files.now c.args.ends.now journal in
    let begun = codes "{\"report\":" ++ safe (json_text_of (report_of c.args.unit journal)) in
    let whole = out ++ safe (data_of c.args.unit c.args.labels.now table c.args.files.now c.args.ends.now journal) in
    fails (IsFaultOf whole) c.from_residual.result c.in_err-threads.field-0.0 (search rules)
    (λ large. subst IsTooLong (ap (λ (t : List ℕ). out ++ t) (sym (safe-data c.args.unit c.args.labels.now table c.args.files.now c.args.ends.now journal)))
    (long-one-of-four out begun (codes ",\"table\":") (safe (json_text_of table)) (safe rest) (c.in_err-threads.ensures.full large)))

-- it is with the table
pub returns-in_err-put_safe_string-clause-full : goal.returns-in_err-put_safe_string-clause-full
returns-in_err-put_safe_string-clause-full c =
    let journal = c.args.ledger.now.journal in
    let table = string_bytes c.args.table in
    let out = c.args.out.now.items in
    let rest = rest_of c.args.unit most_frames c.args.labels.now c.args.files.now c.args.ends.now journal in
    let begun = codes "{\"report\":" ++ safe (json_text_of (report_of c.args.unit journal)) in
    let whole = out ++ safe (data_of c.args.unit c.args.labels.now table c.args.files.now c.args.ends.now journal) in
    let b = c.in_ok-extend_from_slice.ensures.items ∙ ap (λ (t : List ℕ). t ++ codes ",\"table\":") c.in_ok-threads.ensures.text in
    fails (IsFaultOf whole) c.from_residual-in_err-put_safe_string.result c.in_err-put_safe_string.field-0.0 (search rules)
    (λ large. subst IsTooLong (ap (λ (t : List ℕ). out ++ t) (sym (safe-data c.args.unit c.args.labels.now table c.args.files.now c.args.ends.now journal)))
    (long-three-of-four out begun (codes ",\"table\":") (safe (json_text_of table)) (safe rest)
    (subst IsTooLong (ap (λ (t : List ℕ). t ++ safe (json_text_of table)) b) (c.in_err-put_safe_string.ensures.full large))))

-- it is with the rest
pub returns-in_err-put_rest-clause-full : goal.returns-in_err-put_rest-clause-full
returns-in_err-put_rest-clause-full c =
    let journal = c.args.ledger.now.journal in
    let table = string_bytes c.args.table in
    let out = c.args.out.now.items in
    let rest = rest_of c.args.unit most_frames c.args.labels.now c.args.files.now c.args.ends.now journal in
    let begun = codes "{\"report\":" ++ safe (json_text_of (report_of c.args.unit journal)) in
    let whole = out ++ safe (data_of c.args.unit c.args.labels.now table c.args.files.now c.args.ends.now journal) in
    let b = c.in_ok-extend_from_slice.ensures.items ∙ ap (λ (t : List ℕ). t ++ codes ",\"table\":") c.in_ok-threads.ensures.text in
    let d = c.in_ok-put_safe_string.ensures.text ∙ ap (λ (t : List ℕ). t ++ safe (json_text_of table)) b in
    fails (IsFaultOf whole) c.from_residual-in_err-put_rest.result c.in_err-put_rest.field-0.0 (search rules)
    (λ large. subst IsTooLong (ap (λ (t : List ℕ). t ++ safe rest) d
    ∙ append-four out begun (codes ",\"table\":") (safe (json_text_of table)) (safe rest)
    ∙ ap (λ (t : List ℕ). out ++ t) (sym (safe-data c.args.unit c.args.labels.now table c.args.files.now c.args.ends.now journal)))
    (c.in_err-put_rest.ensures.full large))
