-- The totals of the names of closed spans.
use Rattle.std.specs.{Map.{keys_of, lookup}, Prelude.{◌≡◌, ℕ, List, length, nat_eq, unwrap_or}}
use Rattle.span_closed_spans.specs.{Span, named, names_of, total_of, declared.name_totals.NameTotal.NameTotal}

-- names with their totals
abbrev pub Totals : Type 0
Totals = List (ℕ × NameTotal)

abbrev pub total_in : Totals → ℕ → NameTotal
total_in totals name = unwrap_or (lookup (nat_eq name) totals) (record { count = 0; total = 0 })

-- how many spans have the name, and how long they are together
abbrev pub total_for : List (Span ℕ) → ℕ → NameTotal
total_for spans name = record { count = length (named nat_eq name spans); total = total_of nat_eq name spans }

-- the totals are those of the spans' names, one for each
pub record AreTotals (totals : Totals) (spans : List (Span ℕ)) : Type 0 where
  pub names : keys_of totals ≡ names_of nat_eq spans
  pub each : (name : ℕ) → total_in totals name ≡ total_for spans name
