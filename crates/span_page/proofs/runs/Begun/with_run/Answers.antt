use Rattle.std.proofs.Common.{◌≡◌, ◌++◌, ◌∷◌, [], ◌∙◌, ℕ, List, None, Some, codes, rules, ap, sym, subst, append-nil, append_assoc, refl}
use Rattle.span_page.specs.{Thread, json_text_of, report_of, Bounds.IsTooLong, Data.{left_behind, rest_of}, Runs.{BegunPage, ShownRun, TakesRun, begun_text, left_behind_run, run_json}, Safe.safe, declared.fault.PageFault.{PageFault, TheVariants.TooLarge}}
use Rattle.span_page.proofs.{LongTexts.{fails, long-beginning}, RunsSoFar.{Begins-push, begun_text-grown, comma}, SafePieces.safe-report, runs.Begun.with_run.Goals.{then-has_run+in_ok-push, else-has_run}}
use Rattle.span_page.proofs.runs.Begun.with_run.Goals as goal

pub returns-clause-takes : goal.returns-clause-takes
returns-clause-takes c = λ runs begins.
    let unit = c.args.unit in
    let labels = c.args.labels.now in
    let journal = c.args.ledger.now.journal in
    let run : ShownRun = record { files = c.args.files.now; ends = c.args.ends.now; journal = journal } in
    let old = c.self.inside in
    let report = report_of unit journal in
    let rest = rest_of unit old.left labels run.files run.ends journal in
    let start = codes "{\"report\":" ++ safe (json_text_of report) in
    let before = old.text.items ++ comma old.has_run in
    let begun : c.if-has_run.text.items ≡ before = elim c.if-has_run.branch [
      | then-has_run+in_ok-push w ↦ (λ i. (w.text-is i).items) ∙ w.in_ok-push.ensures.items ∙ ap (λ some. old.text.items ++ comma some) (sym w.if-has_run.true)
      | else-has_run w ↦ (λ i. (w.text-is i).items) ∙ sym (append-nil old.text.items) ∙ ap (λ some. old.text.items ++ comma some) (sym w.if-has_run.false)
    ] in
    let text = c.in_ok-left.ensures.text ∙ ap (λ (t : List ℕ). t ++ safe rest) (c.in_ok-threads.ensures.text ∙ ap (λ (t : List ℕ). t ++ start) begun)
    ∙ append_assoc before start (safe rest) ∙ ap (λ (t : List ℕ). before ++ t) (sym (safe-report report rest)) in
    let threads = c.deref.ensures.value ∙ c.in_ok-threads.ensures.threads in
    let left = c.in_ok-left.ensures.left ∙ ap (λ (ts : List Thread). left_behind labels journal old.left ts) threads in
    Begins-push unit labels runs run c.args.self _ begins
    (text ∙ (λ i. let page : BegunPage = c.self.view_is i in (page.text ++ comma page.has_run) ++ safe (run_json unit labels page.left run)))
    (left ∙ (λ i. left_behind_run labels (c.self.view_is i).left run))
    refl

-- with its report it is too long
pub returns-in_err-threads-clause-full : goal.returns-in_err-threads-clause-full
returns-in_err-threads-clause-full c =
    let unit = c.args.unit in
    let labels = c.args.labels.now in
    let journal = c.args.ledger.now.journal in
    let run : ShownRun = record { files = c.args.files.now; ends = c.args.ends.now; journal = journal } in
    let old = c.self.inside in
    let report = report_of unit journal in
    let rest = rest_of unit old.left labels run.files run.ends journal in
    let start = codes "{\"report\":" ++ safe (json_text_of report) in
    let before = old.text.items ++ comma old.has_run in
    let begun : c.if-has_run.text.items ≡ before = elim c.if-has_run.branch [
      | then-has_run+in_ok-push w ↦ (λ i. (w.text-is i).items) ∙ w.in_ok-push.ensures.items ∙ ap (λ some. old.text.items ++ comma some) (sym w.if-has_run.true)
      | else-has_run w ↦ (λ i. (w.text-is i).items) ∙ sym (append-nil old.text.items) ∙ ap (λ some. old.text.items ++ comma some) (sym w.if-has_run.false)
    ] in
    let all : (before ++ start) ++ safe rest ≡ before ++ safe (run_json unit labels old.left run) = append_assoc before start (safe rest) ∙ ap (λ (t : List ℕ). before ++ t) (sym (safe-report report rest)) in
    let viewed : before ++ safe (run_json unit labels old.left run) ≡ (c.args.self.text ++ comma c.args.self.has_run) ++ safe (run_json unit labels c.args.self.left run) =
    (λ i. let page : BegunPage = c.self.view_is i in (page.text ++ comma page.has_run) ++ safe (run_json unit labels page.left run)) in
    fails (λ (fault : PageFault). fault ≡ TooLarge → TakesRun unit labels run (Some c.args.self) None) c.from_residual-in_err-threads.result c.in_err-threads.field-0.0 (search rules)
    (λ large runs begins. long-beginning (before ++ start) (safe rest) (begun_text unit labels (runs ++ run ∷ [])) (all ∙ viewed ∙ begun_text-grown unit labels runs run c.args.self begins)
    (subst IsTooLong (ap (λ (t : List ℕ). t ++ start) begun) (c.in_err-threads.ensures.full large)))

-- with the rest it is
pub returns-in_err-left-clause-full : goal.returns-in_err-left-clause-full
returns-in_err-left-clause-full c =
    let unit = c.args.unit in
    let labels = c.args.labels.now in
    let journal = c.args.ledger.now.journal in
    let run : ShownRun = record { files = c.args.files.now; ends = c.args.ends.now; journal = journal } in
    let old = c.self.inside in
    let report = report_of unit journal in
    let rest = rest_of unit old.left labels run.files run.ends journal in
    let start = codes "{\"report\":" ++ safe (json_text_of report) in
    let before = old.text.items ++ comma old.has_run in
    let begun : c.if-has_run.text.items ≡ before = elim c.if-has_run.branch [
      | then-has_run+in_ok-push w ↦ (λ i. (w.text-is i).items) ∙ w.in_ok-push.ensures.items ∙ ap (λ some. old.text.items ++ comma some) (sym w.if-has_run.true)
      | else-has_run w ↦ (λ i. (w.text-is i).items) ∙ sym (append-nil old.text.items) ∙ ap (λ some. old.text.items ++ comma some) (sym w.if-has_run.false)
    ] in
    let all : (before ++ start) ++ safe rest ≡ before ++ safe (run_json unit labels old.left run) = append_assoc before start (safe rest) ∙ ap (λ (t : List ℕ). before ++ t) (sym (safe-report report rest)) in
    let viewed : before ++ safe (run_json unit labels old.left run) ≡ (c.args.self.text ++ comma c.args.self.has_run) ++ safe (run_json unit labels c.args.self.left run) =
    (λ i. let page : BegunPage = c.self.view_is i in (page.text ++ comma page.has_run) ++ safe (run_json unit labels page.left run)) in
    let text = ap (λ (t : List ℕ). t ++ safe rest) (c.in_ok-threads.ensures.text ∙ ap (λ (t : List ℕ). t ++ start) begun) in
    fails (λ (fault : PageFault). fault ≡ TooLarge → TakesRun unit labels run (Some c.args.self) None) c.from_residual-in_err-left.result c.in_err-left.field-0.0 (search rules)
    (λ large runs begins. subst IsTooLong (text ∙ all ∙ viewed ∙ begun_text-grown unit labels runs run c.args.self begins) (c.in_err-left.ensures.full large))
