use Rattle.std.proofs.Common.{◌≡◌, ℕ, [], ap, ◌∙◌, arith}
use Rattle.span_read.specs.Tokens.{data_at}
use Rattle.span_read.proofs.{Grammar.data_at-nothing, Leaves.on_err}
use Rattle.span_read.proofs.tokens.beginning.next_beginning.Goals as goal

pub returns-in_err-token-clause-refused : goal.returns-in_err-token-clause-refused
returns-in_err-token-clause-refused c =
    let empty : c.args.reader.now ≡ [] = grind arith in
    on_err c.from_residual.result (λ (depth : ℕ). ap (data_at depth) empty ∙ data_at-nothing depth)
