-- Where spans that start together leave no time to others.
use Rattle.std.specs.Prelude.{◌≡◌, ◌⊎◌, ℕ, false, ℤ, ◌≤ℤ◌, ◌<ℤ◌, All}
use Rattle.span_self_time.specs.{Division.{Owners, claims}, Spans.Span, declared.division.time_map.ties.Ties.Ties}

-- from a to before e no span takes anything that starts sooner, or starts at a and ends later than e
abbrev pub IsBarred : Owners → ℤ → ℤ → Type 0
IsBarred owners a e = (s : Span ℕ) (u : ℤ) → a ≤ℤ u → u <ℤ e → (s.start <ℤ a) ⊎ ((s.start ≡ a) × (e <ℤ s.until)) → claims s (owners u) ≡ false

abbrev pub AreBarred : Owners → Ties → Type 0
AreBarred owners t = All (λ b. IsBarred owners b.0 b.1) t.ends.keys
