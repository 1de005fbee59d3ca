use Rattle.std.specs.{Bool.OnTrue, Prelude.not}
use Rattle.std.proofs.Common.{◌≡◌, ◌≢◌, ◌∷◌, ℕ, List, Bool, sym, subst, rules}
use Rattle.span_page.specs.Safe.{safe}
use Rattle.span_page.proofs.{SafePieces.safe-itself, safe.is_plain.Goals.{in-60, in_default}}
use Rattle.span_page.proofs.safe.is_plain.Goals as goal

pub returns : goal.returns
returns c =
    let holds = λ (matches : Bool). OnTrue (not matches) ((rest : List ℕ) → safe (c.args.byte ∷ rest) ≡ c.args.byte ∷ safe rest) in
    elim c.match-matches.branch [
      | in-60 w ↦ subst holds (sym w.matches-is) tt
      | in_default w ↦
          let less : c.args.byte ≢ 60 = search rules in
          let greater : c.args.byte ≢ 62 = search rules in
          let ampersand : c.args.byte ≢ 38 = search rules in
          let lead : c.args.byte ≢ 226 = search rules in
          subst holds (sym w.matches-is) (safe-itself c.args.byte less greater ampersand lead)
    ]
