-- What contracts see of a sink, and what calls on it do.
use Rattle.std.specs.{Io.KnownBytes.Appends, Prelude.{◌≡◌, ℕ, ◌+◌, List, Option, Some, None}, declared.snapshot.Snapshot.Snapshot}

-- the bytes taken so far, where the sink shows them, and how many calls on it failed
pub record SinkState : Type 0 where
  pub taken : Option (List ℕ)
  pub failures : ℕ

-- the sink took these bytes, and no call failed
pub record TakesBytes (old new : SinkState) (bytes : List ℕ) : Type 0 where
  pub taken : Appends old.taken new.taken bytes
  pub failures : new.failures ≡ old.failures

-- the sink took these bytes, and then one call failed
pub record Fails (old new : SinkState) (bytes : List ℕ) : Type 0 where
  pub taken : Appends old.taken new.taken bytes
  pub failures : new.failures ≡ old.failures + 1

-- a number, by what is remembered of the one before it; none is before 0
abbrev pub after_last : Option (Snapshot ℕ) → ℕ
after_last None = 0
after_last (Some last) = last.value + 1
