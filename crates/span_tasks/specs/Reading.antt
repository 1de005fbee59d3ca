-- What one read brings.
use Rattle.std.specs.{Io.KnownBytes.{Consumes, IsAtEnd}, Prelude.{◌≡◌, ℕ, List, ◌++◌, length, Option}}

-- one read brought this many bytes from the source behind the bytes so far, none only at the end
pub record Brings (before after : Option (List ℕ)) (bytes more : List ℕ) (count : ℕ) : Type 0 where
  pub brought : List ℕ
  pub consumed : Consumes before after brought
  pub appended : more ≡ bytes ++ brought
  pub counted : length brought ≡ count
  pub ended : count ≡ 0 → IsAtEnd after
