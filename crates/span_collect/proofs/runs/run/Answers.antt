use Rattle.span_collect.proofs.runs.run.Goals as goal

-- files that are collected are not refused for their count
pub returns-clause-count : goal.returns-clause-count
returns-clause-count g c = ((λ refused. absurd cc), (λ none. absurd (let refused = c.in_ok-collected.ensures.count.1 none in cc)))
