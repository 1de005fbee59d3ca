use Rattle.std.proofs.{Common.{◌≢◌, ℕ, List, subst, All}, lemmas.List.Elements.All-map}
use Rattle.span_closed_spans.specs.{Span, span_of}
use Rattle.span_closed_spans.proofs.closed.tests.is_new.Goals as goal

pub returns : goal.returns
returns c = λ new. subst (λ (l : List (Span ℕ)). All (λ s. s.at ≢ c.args.at) l) c.as_slice.ensures.spans (All-map (λ (s : Span ℕ). s.at ≢ c.args.at) span_of c.as_slice.result.now (c.are_opened_elsewhere.ensures new))
