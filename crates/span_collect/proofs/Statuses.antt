-- The statuses of runs.
use Rattle.std.specs.{List.list_any, Option.is_some, Prelude.{if◌then◌else◌, ℕ}}
use Rattle.std.proofs.Common.{◌≡◌, ◌<◌, List, Bool, true, false, ◌||◌, refl, arith}
use Rattle.span_collect.specs.{Run.{is_cut, is_refused, status_of}, declared.{files.FileEnd.FileEnd, queries.Asked.Asked, sealing.Sealing.Sealing}}

abbrev status : Bool → Bool → ℕ
status cut refused = if cut then 2 else if refused then 1 else 0

status-lt : (cut refused : Bool) → (status cut refused ≡ 2 → ⊥) → status cut refused < 2
status-lt true refused none = absurd (none refl)
status-lt false true none = omega arith
status-lt false false none = omega arith

-- a status that is not 2 is 0 or 1
pub status_of-lt : (ends : List FileEnd) (asked : Asked) (sealing : Sealing) → (status_of ends asked sealing ≡ 2 → ⊥) → status_of ends asked sealing < 2
status_of-lt ends asked sealing none = status-lt (list_any is_cut ends || is_some asked.cause || is_some sealing.cause) (list_any is_refused ends) none
