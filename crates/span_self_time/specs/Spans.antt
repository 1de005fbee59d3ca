-- Closed spans of one thread, and how its ticks are shared among them. A name is of a type N: a text, or its number.
use Rattle.std.specs.{Int.{int_min, int_max}, List.list_any, Ordering.int_eq, Prelude.{ℕ, zero, suc, ◌+◌, nat_lt, Bool, not, ◌&&◌, ◌||◌, if◌then◌else◌, ℤ, pos, ◌+ℤ◌, int_lt, int_le, List, [], ◌∷◌, filter, fold, sum_by}}
use Rattle.indexmap.specs.IndexSet.{insert_key}
use Rattle.span_self_time.specs.{distance}
pub use Rattle.span_self_time.specs.{Arguments}

-- a closed span: it covers each tick from `start` to before `until`; `at` is the journal's position of the event that opened it
pub record Span (N : Type 0) : Type 0 where
  pub name : N
  pub start : ℤ
  pub until : ℤ
  pub at : ℕ
  pub args : Arguments

module _ {N : Type 0} where
  -- the span's length in ticks
  abbrev pub length_of : Span N → ℕ
  length_of s = distance s.start s.until

  abbrev pub covers : Span N → ℤ → Bool
  covers s u = int_le s.start u && int_lt u s.until

  -- a ranks above b: it starts later; or together with b and ends sooner; or both ends agree and it was opened later
  abbrev pub outranks : Span N → Span N → Bool
  outranks a b = int_lt b.start a.start || (int_eq a.start b.start && (int_lt a.until b.until || (int_eq a.until b.until && nat_lt b.at a.at)))

  -- some span that covers u ranks above s
  abbrev pub is_outranked : List (Span N) → Span N → ℤ → Bool
  is_outranked spans s u = list_any (λ a. covers a u && outranks a s) spans

  abbrev pub is_covered : List (Span N) → ℤ → Bool
  is_covered spans u = list_any (λ s. covers s u) spans

  -- a time from which on all spans lie, and one before which they all end
  abbrev pub earliest : List (Span N) → ℤ
  earliest [] = pos 0
  earliest (s ∷ spans) = int_min s.start (earliest spans)

  abbrev pub latest : List (Span N) → ℤ
  latest [] = pos 0
  latest (s ∷ spans) = int_max s.until (latest spans)

-- how many of the n whole numbers from t on pass the test
abbrev pub count_from : ℤ → ℕ → (ℤ → Bool) → ℕ
count_from t zero p = 0
count_from t (suc n) p = (if p t then 1 else 0) + count_from (t +ℤ pos 1) n p

module _ {N : Type 0} where
  -- the ticks of s that no span above it covers
  abbrev pub self_time : List (Span N) → Span N → ℕ
  self_time spans s = count_from s.start (length_of s) (λ u. not (is_outranked spans s u))

  -- the ticks that at least one span covers
  abbrev pub busy_time : List (Span N) → ℕ
  busy_time spans = count_from (earliest spans) (distance (earliest spans) (latest spans)) (λ u. is_covered spans u)

  -- the names of the spans, each once, in the order of their first
  abbrev pub names_of : (N → N → Bool) → List (Span N) → List N
  names_of same spans = fold (λ names s. insert_key same names s.name) [] spans

  -- the spans of one name, how long they are together, and their self times together
  abbrev pub named : (N → N → Bool) → N → List (Span N) → List (Span N)
  named same name spans = filter (λ s. same s.name name) spans

  abbrev pub total_of : (N → N → Bool) → N → List (Span N) → ℕ
  total_of same name spans = sum_by (λ s. length_of s) (named same name spans)

  abbrev pub self_of : (N → N → Bool) → N → List (Span N) → ℕ
  self_of same name spans = sum_by (λ s. self_time spans s) (named same name spans)
