-- What names stand for, and what is known of the bytes there.
use Rattle.std.specs.Prelude.{◌≡◌, ◌≢◌, ◌⊎◌, ℕ, List, [], ◌∷◌, take, IfSome, Option, Some, None, codes}
use Rattle.span_runs.specs.{Bytes, declared.source.Name.{Name, TheVariants.{Standard, File}}}

-- the bytes that a name stands for, where they are known
abbrev pub SourceBytes : Type 0
SourceBytes = Name → Option Bytes

-- a name as it is printed
abbrev pub printed : Name → Bytes
printed Standard = codes "-"
printed (File name) = name

-- the bytes are the first of those that the source has, where they are known: all, but not more than this many
abbrev pub AreFirst : ℕ → Option (List ℕ) → List ℕ → Type 0
AreFirst most known bytes = IfSome known (λ all. bytes ≡ take most all)

-- some byte is wanted first, and they begin with another
abbrev pub BeginOtherwise : Option ℕ → List ℕ → Type 0
BeginOtherwise None bytes = ⊥
BeginOtherwise (Some first) [] = ⊥
BeginOtherwise (Some first) (byte ∷ bytes) = byte ≢ first

-- the first bytes, or fewer of some that begin with another than is wanted
abbrev pub AreBegun : Option ℕ → ℕ → Option (List ℕ) → List ℕ → Type 0
AreBegun first most known bytes = AreFirst most known bytes ⊎ ((fewer : ℕ) × AreFirst fewer known bytes × BeginOtherwise first bytes)
