use Rattle.std.specs.Prelude.{IfErr}
use Rattle.std.proofs.{Common.{◌≡◌, Ok, Err, All, IfOk, sym, ap, subst, ◌∙◌, arith}, lemmas.Result.IfOk-weaker}
use Rattle.span_read.specs.{IsGoodItem, Document.{doc, doc_of_document, first_read, candidates}, Time.IsItemInRange, declared.error.ReadError.TheVariants.Memory}
use Rattle.span_read.proofs.{Documents.{doc-of_utf8, doc-of_no_utf8, right_items, right_refusal, All-good_document, All-in_range_document}, file.read_bytes.{Given.Over, Goals.In-Ok}}
use Rattle.span_read.proofs.file.read_bytes.Goals as goal

-- the text is the bytes
wanted : (g : Over) (c : In-Ok g) → doc_of_document c.args.format (first_read (candidates c.in-Ok.text.now)) ≡ doc c.args.format c.args.bytes.now
wanted g c = ap (λ text. doc_of_document c.args.format (first_read (candidates text))) c.in-Ok.ensures.cases.0 ∙ sym (doc-of_utf8 c.args.format c.args.bytes.now (omega arith) c.in-Ok.ensures.cases.1)

pub returns-in-Ok-clause-items : goal.returns-in-Ok-clause-items
returns-in-Ok-clause-items g c = subst (λ w. IfOk c.read_first.result (λ items. w ≡ Ok items)) (wanted g (goal.at.returns-in-Ok-clause-items g c).In-Ok) (right_items Memory c.read_first.result _ c.read_first.ensures)

pub returns-in-Ok-clause-refused : goal.returns-in-Ok-clause-refused
returns-in-Ok-clause-refused g c = subst (λ w. IfErr c.read_first.result (λ error. (error ≡ Memory → ⊥) → w ≡ Err error)) (wanted g (goal.at.returns-in-Ok-clause-refused g c).In-Ok) (right_refusal Memory c.read_first.result _ c.read_first.ensures)

pub returns-in-Ok-clause-good : goal.returns-in-Ok-clause-good
returns-in-Ok-clause-good g c =
    let found = first_read (candidates c.in-Ok.text.now) in
    IfOk-weaker c.read_first.result (λ items. doc_of_document c.args.format found ≡ Ok items) (All IsGoodItem) (All-good_document c.args.format found) (right_items Memory c.read_first.result _ c.read_first.ensures)

pub returns-in-Ok-clause-in_range : goal.returns-in-Ok-clause-in_range
returns-in-Ok-clause-in_range g c =
    let found = first_read (candidates c.in-Ok.text.now) in
    IfOk-weaker c.read_first.result (λ items. doc_of_document c.args.format found ≡ Ok items) (All (IsItemInRange c.args.format.unit)) (All-in_range_document c.args.format found)
    (right_items Memory c.read_first.result _ c.read_first.ensures)

pub returns-in-Err-clause-refused : goal.returns-in-Err-clause-refused
returns-in-Err-clause-refused g c = λ other. doc-of_no_utf8 c.args.format c.args.bytes.now (omega arith) c.in-Err.ensures.cases.0
