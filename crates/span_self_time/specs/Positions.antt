-- Spans and other entries with their positions in place of others.
use Rattle.std.specs.Prelude.{◌≡◌, ℕ, nat_lt, List, map}
use Rattle.span_self_time.specs.Spans.{Span}

-- the span with its position in place of another
abbrev pub renumbered_span : {N : Type 0} → (ℕ → ℕ) → Span N → Span N
renumbered_span f s = record { name = s.name; start = s.start; until = s.until; at = f s.at; args = s.args }

-- earlier positions stay earlier, and later ones later
abbrev pub Rises : (ℕ → ℕ) → Type 0
Rises f = (p q : ℕ) → nat_lt (f p) (f q) ≡ nat_lt p q

-- two lists are the same but for the positions in them, which are in the same order: each is a third with its positions in place of others
pub record AreRenumbered {A : Type 0} (renumber : (ℕ → ℕ) → A → A) (these those : List A) : Type 0 where
  pub plain : List A
  pub here : ℕ → ℕ
  pub there : ℕ → ℕ
  pub rises_here : Rises here
  pub rises_there : Rises there
  pub these_are : these ≡ map (renumber here) plain
  pub those_are : those ≡ map (renumber there) plain
