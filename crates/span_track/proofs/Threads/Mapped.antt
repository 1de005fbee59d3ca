-- What begins and whole spans carry beside their times changes no time of a thread.
use Rattle.std.specs.Option.{option_or}
use Rattle.std.proofs.Common.{◌≡◌, List, [], ◌∷◌, map, Some, refl, ap, ap₂}
use Rattle.span_track.specs.{Span, opens, closes, closes_all, other, map_step, Nesting.{Begin, ThreadEvent, last_time, greatest, seen_by, latest_time}}

module _ {N M : Type 0} (f : Begin N → Begin M) (g : Span N → Span M) (same_ts : (b : Begin N) → (f b).ts ≡ b.ts) (same_until : (s : Span N) → (g s).until ≡ s.until) where
  -- the last time of a begin or an end
  pub last_time-map_step : (es : List (ThreadEvent N)) → last_time (map (map_step f g) es) ≡ last_time es
  last_time-map_step [] = refl
  last_time-map_step (opens b ∷ es) = ap₂ (λ o t. option_or o (Some t)) (last_time-map_step es) (same_ts b)
  last_time-map_step (closes e ∷ es) = ap (λ o. option_or o (Some e.ts)) (last_time-map_step es)
  last_time-map_step (closes_all ts ∷ es) = ap (λ o. option_or o (Some ts)) (last_time-map_step es)
  last_time-map_step (other s ∷ es) = last_time-map_step es

  seen_by-map_step : (es : List (ThreadEvent N)) → map seen_by (map (map_step f g) es) ≡ map seen_by es
  seen_by-map_step [] = refl
  seen_by-map_step (opens b ∷ es) = ap₂ (λ t l. t ∷ l) (same_ts b) (seen_by-map_step es)
  seen_by-map_step (closes e ∷ es) = ap (λ l. e.ts ∷ l) (seen_by-map_step es)
  seen_by-map_step (closes_all ts ∷ es) = ap (λ l. ts ∷ l) (seen_by-map_step es)
  seen_by-map_step (other s ∷ es) = ap₂ (λ t l. t ∷ l) (same_until s) (seen_by-map_step es)

  -- the latest time that the thread has seen
  pub latest_time-map_step : (es : List (ThreadEvent N)) → latest_time (map (map_step f g) es) ≡ latest_time es
  latest_time-map_step es = ap greatest (seen_by-map_step es)
