-- How long the owners of time pass a test, and the running times of the names and of all.
use Rattle.std.specs.{Option.is_some, Prelude.{◌≡◌, ℕ, nat_eq, Bool, false, ℤ, ◌≤ℤ◌, ◌<ℤ◌, Option, None, Some}}
use Rattle.span_self_time.specs.{distance, least_time, Closed.greatest_until, Division.{Owners, Belong, own_in}, Spans.{Span, count_from}, declared.division.own_times.OwnTimes.OwnTimes}

-- the owner has the name
abbrev pub has_name : ℕ → Option (Span ℕ) → Bool
has_name name None = false
has_name name (Some o) = nat_eq o.name name

-- how long the owner passes a test
unfoldable pub time_of : (Option (Span ℕ) → Bool) → Owners → ℕ
time_of q owners = count_from least_time (distance least_time greatest_until) (λ u. q (owners u))

-- the running times are those of the owners
pub record AreTimes (owners : Owners) (times : OwnTimes) : Type 0 where
  pub of_names : (name : ℕ) → own_in times.names name ≡ time_of (has_name name) owners
  pub of_all : times.busy ≡ time_of is_some owners

-- new has what old has but from t to n, where r follows p
pub record IsReplaced (old new : Owners) (t n : ℤ) (p r : Option (Span ℕ)) : Type 0 where
  pub first : least_time ≤ℤ t
  pub lasts : t <ℤ n
  pub last : n ≤ℤ greatest_until
  pub before : (u : ℤ) → u <ℤ t → new u ≡ old u
  pub after : (u : ℤ) → n ≤ℤ u → new u ≡ old u
  pub was : Belong old t n p
  pub is : Belong new t n r

-- the running times are those of owners of whom the span takes the time from t to n
pub record CanCharge (s : Span ℕ) (held : Option (Span ℕ)) (t n : ℤ) (times : OwnTimes) : Type 0 where
  pub old : Owners
  pub new : Owners
  pub are : AreTimes old times
  pub change : IsReplaced old new t n held (Some s)
