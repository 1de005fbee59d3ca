use Rattle.std.specs.Prelude.{codes}
use Rattle.std.proofs.Common.{◌++◌, List, ℕ, rules, ap, subst, ◌∙◌, sym}
use Rattle.span_page.specs.{json_text_of, end_lines, refusals_of, Bounds.{IsFaultOf, IsTooLong}, Data.{all_stacks_json, names_json, rest_of}, Safe.safe}
use Rattle.span_page.proofs.{LongTexts.{fails, long-behind, long-eight-of-nine, long-four-of-nine, long-six-of-nine, long-two-of-nine, safe-long}, SafePieces.{append-nine, safe-rest}}
use Rattle.span_page.proofs.data.put_rest.Goals as goal

pub returns-clause-text : goal.returns-clause-text
returns-clause-text c =
    let journal = c.args.ledger.now.journal in
    let labels = c.args.labels.now in
    let files = c.args.files.now in
    let ends = c.args.ends.now in
    let left = c.args.left in
    let out = c.args.out.now.items in
    let a = c.in_ok-extend_from_slice.ensures.items in
    let b = c.in_ok-put_safe_string.ensures.text ∙ (λ i. a i ++ safe (json_text_of (c.in_ok-refusals_text.ensures i))) in
    let d = c.in_ok-extend_from_slice-2.ensures.items ∙ ap (λ (t : List ℕ). t ++ codes ",\"files\":") b in
    let e = c.in_ok-put_safe.ensures.text ∙ (λ i. d i ++ safe ((c.as_bytes.ensures.value ∙ c.in_ok-names_text.ensures) i)) in
    let f = c.in_ok-extend_from_slice-3.ensures.items ∙ ap (λ (t : List ℕ). t ++ codes ",\"faults\":") e in
    let g = c.in_ok-put_safe_string-2.ensures.text ∙ (λ i. f i ++ safe (json_text_of (c.in_ok-fault_lines.ensures i))) in
    let h = c.in_ok-extend_from_slice-4.ensures.items ∙ ap (λ (t : List ℕ). t ++ codes ",\"stacks\":") g in
    let j = c.in_ok-put_safe-2.ensures.text ∙ (λ i. h i ++ safe ((c.as_bytes-2.ensures.value ∙ c.in_ok-stacks.ensures.text) i)) in
    c.in_ok-extend_from_slice-5.ensures.items ∙ ap (λ (t : List ℕ). t ++ codes "}") j
    ∙ append-nine out (codes ",\"refused\":") (safe (json_text_of (refusals_of c.args.unit files ends journal))) (codes ",\"files\":") (safe (names_json files))
    (codes ",\"faults\":") (safe (json_text_of (end_lines files ends))) (codes ",\"stacks\":") (safe (all_stacks_json left labels journal)) (codes "}")
    ∙ ap (λ (t : List ℕ). out ++ t) (sym (safe-rest c.args.unit left labels files ends journal))

-- of the first pieces there is too much already
pub returns-in_err-put_safe_string-clause-full : goal.returns-in_err-put_safe_string-clause-full
returns-in_err-put_safe_string-clause-full c =
    let journal = c.args.ledger.now.journal in
    let labels = c.args.labels.now in
    let files = c.args.files.now in
    let ends = c.args.ends.now in
    let left = c.args.left in
    let out = c.args.out.now.items in
    let refused = safe (json_text_of (refusals_of c.args.unit files ends journal)) in
    let names = safe (names_json files) in
    let faults = safe (json_text_of (end_lines files ends)) in
    let stacks = safe (all_stacks_json left labels journal) in
    let whole = out ++ safe (rest_of c.args.unit left labels files ends journal) in
    let a = c.in_ok-extend_from_slice.ensures.items in
    fails (IsFaultOf whole) c.from_residual-in_err-put_safe_string.result c.in_err-put_safe_string.field-0.0 (search rules)
    (λ large. subst IsTooLong (ap (λ (t : List ℕ). out ++ t) (sym (safe-rest c.args.unit left labels files ends journal)))
    (long-two-of-nine out (codes ",\"refused\":") refused (codes ",\"files\":") names (codes ",\"faults\":") faults (codes ",\"stacks\":") stacks (codes "}")
    (subst IsTooLong (λ i. a i ++ safe (json_text_of (c.in_ok-refusals_text.ensures i))) (c.in_err-put_safe_string.ensures.full large))))

-- of the names
pub returns-in_err-put_safe-clause-full : goal.returns-in_err-put_safe-clause-full
returns-in_err-put_safe-clause-full c =
    let journal = c.args.ledger.now.journal in
    let labels = c.args.labels.now in
    let files = c.args.files.now in
    let ends = c.args.ends.now in
    let left = c.args.left in
    let out = c.args.out.now.items in
    let refused = safe (json_text_of (refusals_of c.args.unit files ends journal)) in
    let names = safe (names_json files) in
    let faults = safe (json_text_of (end_lines files ends)) in
    let stacks = safe (all_stacks_json left labels journal) in
    let whole = out ++ safe (rest_of c.args.unit left labels files ends journal) in
    let a = c.in_ok-extend_from_slice.ensures.items in
    let b = c.in_ok-put_safe_string.ensures.text ∙ (λ i. a i ++ safe (json_text_of (c.in_ok-refusals_text.ensures i))) in
    let d = c.in_ok-extend_from_slice-2.ensures.items ∙ ap (λ (t : List ℕ). t ++ codes ",\"files\":") b in
    fails (IsFaultOf whole) c.from_residual-in_err-put_safe.result c.in_err-put_safe.field-0.0 (search rules)
    (λ large. subst IsTooLong (ap (λ (t : List ℕ). out ++ t) (sym (safe-rest c.args.unit left labels files ends journal)))
    (long-four-of-nine out (codes ",\"refused\":") refused (codes ",\"files\":") names (codes ",\"faults\":") faults (codes ",\"stacks\":") stacks (codes "}")
    (subst IsTooLong (λ i. d i ++ safe ((c.as_bytes.ensures.value ∙ c.in_ok-names_text.ensures) i)) (c.in_err-put_safe.ensures.full large))))

-- of the fault lines
pub returns-in_err-put_safe_string-2-clause-full : goal.returns-in_err-put_safe_string-2-clause-full
returns-in_err-put_safe_string-2-clause-full c =
    let journal = c.args.ledger.now.journal in
    let labels = c.args.labels.now in
    let files = c.args.files.now in
    let ends = c.args.ends.now in
    let left = c.args.left in
    let out = c.args.out.now.items in
    let refused = safe (json_text_of (refusals_of c.args.unit files ends journal)) in
    let names = safe (names_json files) in
    let faults = safe (json_text_of (end_lines files ends)) in
    let stacks = safe (all_stacks_json left labels journal) in
    let whole = out ++ safe (rest_of c.args.unit left labels files ends journal) in
    let a = c.in_ok-extend_from_slice.ensures.items in
    let b = c.in_ok-put_safe_string.ensures.text ∙ (λ i. a i ++ safe (json_text_of (c.in_ok-refusals_text.ensures i))) in
    let d = c.in_ok-extend_from_slice-2.ensures.items ∙ ap (λ (t : List ℕ). t ++ codes ",\"files\":") b in
    let e = c.in_ok-put_safe.ensures.text ∙ (λ i. d i ++ safe ((c.as_bytes.ensures.value ∙ c.in_ok-names_text.ensures) i)) in
    let f = c.in_ok-extend_from_slice-3.ensures.items ∙ ap (λ (t : List ℕ). t ++ codes ",\"faults\":") e in
    fails (IsFaultOf whole) c.from_residual-in_err-put_safe_string-2.result c.in_err-put_safe_string-2.field-0.0 (search rules)
    (λ large. subst IsTooLong (ap (λ (t : List ℕ). out ++ t) (sym (safe-rest c.args.unit left labels files ends journal)))
    (long-six-of-nine out (codes ",\"refused\":") refused (codes ",\"files\":") names (codes ",\"faults\":") faults (codes ",\"stacks\":") stacks (codes "}")
    (subst IsTooLong (λ i. f i ++ safe (json_text_of (c.in_ok-fault_lines.ensures i))) (c.in_err-put_safe_string-2.ensures.full large))))

-- the stacks alone are too much
pub returns-in_err-stacks-clause-full : goal.returns-in_err-stacks-clause-full
returns-in_err-stacks-clause-full c =
    let journal = c.args.ledger.now.journal in
    let labels = c.args.labels.now in
    let files = c.args.files.now in
    let ends = c.args.ends.now in
    let left = c.args.left in
    let out = c.args.out.now.items in
    let refused = safe (json_text_of (refusals_of c.args.unit files ends journal)) in
    let names = safe (names_json files) in
    let faults = safe (json_text_of (end_lines files ends)) in
    let stacks = safe (all_stacks_json left labels journal) in
    let whole = out ++ safe (rest_of c.args.unit left labels files ends journal) in
    fails (IsFaultOf whole) c.from_residual-in_err-stacks.result c.in_err-stacks.field-0.0 (search rules)
    (λ large. subst IsTooLong (ap (λ (t : List ℕ). out ++ t) (sym (safe-rest c.args.unit left labels files ends journal)))
    (long-eight-of-nine out (codes ",\"refused\":") refused (codes ",\"files\":") names (codes ",\"faults\":") faults (codes ",\"stacks\":") stacks (codes "}")
    (long-behind (((((((out ++ codes ",\"refused\":") ++ refused) ++ codes ",\"files\":") ++ names) ++ codes ",\"faults\":") ++ faults) ++ codes ",\"stacks\":") stacks (safe-long (all_stacks_json left labels journal) (c.in_err-stacks.ensures.full large)))))

-- of the stacks with escapes
pub returns-in_err-put_safe-2-clause-full : goal.returns-in_err-put_safe-2-clause-full
returns-in_err-put_safe-2-clause-full c =
    let journal = c.args.ledger.now.journal in
    let labels = c.args.labels.now in
    let files = c.args.files.now in
    let ends = c.args.ends.now in
    let left = c.args.left in
    let out = c.args.out.now.items in
    let refused = safe (json_text_of (refusals_of c.args.unit files ends journal)) in
    let names = safe (names_json files) in
    let faults = safe (json_text_of (end_lines files ends)) in
    let stacks = safe (all_stacks_json left labels journal) in
    let whole = out ++ safe (rest_of c.args.unit left labels files ends journal) in
    let a = c.in_ok-extend_from_slice.ensures.items in
    let b = c.in_ok-put_safe_string.ensures.text ∙ (λ i. a i ++ safe (json_text_of (c.in_ok-refusals_text.ensures i))) in
    let d = c.in_ok-extend_from_slice-2.ensures.items ∙ ap (λ (t : List ℕ). t ++ codes ",\"files\":") b in
    let e = c.in_ok-put_safe.ensures.text ∙ (λ i. d i ++ safe ((c.as_bytes.ensures.value ∙ c.in_ok-names_text.ensures) i)) in
    let f = c.in_ok-extend_from_slice-3.ensures.items ∙ ap (λ (t : List ℕ). t ++ codes ",\"faults\":") e in
    let g = c.in_ok-put_safe_string-2.ensures.text ∙ (λ i. f i ++ safe (json_text_of (c.in_ok-fault_lines.ensures i))) in
    let h = c.in_ok-extend_from_slice-4.ensures.items ∙ ap (λ (t : List ℕ). t ++ codes ",\"stacks\":") g in
    fails (IsFaultOf whole) c.from_residual-in_err-put_safe-2.result c.in_err-put_safe-2.field-0.0 (search rules)
    (λ large. subst IsTooLong (ap (λ (t : List ℕ). out ++ t) (sym (safe-rest c.args.unit left labels files ends journal)))
    (long-eight-of-nine out (codes ",\"refused\":") refused (codes ",\"files\":") names (codes ",\"faults\":") faults (codes ",\"stacks\":") stacks (codes "}")
    (subst IsTooLong (λ i. h i ++ safe ((c.as_bytes-2.ensures.value ∙ c.in_ok-stacks.ensures.text) i)) (c.in_err-put_safe-2.ensures.full large))))
