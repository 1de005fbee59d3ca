-- How what is kept for many keys changes at one of them.
use Rattle.std.specs.{BTreeMap.insert_entry, List.Sorted.IsStrictlySortedBy, Map.keys_of, Prelude.{◌≡◌, ◌⊎◌, ℕ, List, Option, Result, Ok, Err, IfOk, IfErr, OnErr, IsOk}, declared.cmp.Ordering.Ordering}
use Rattle.span_keyed_tracks.specs.{Fault.Answers, Keyed.kept_at, declared.fault.TrackFault.TrackFault}

-- a call was made on what is kept at a key, `none` where nothing is. What it left is kept there then; where it was refused, or there is
-- no memory for the key, all stays. A fault is the call's own, unless it was taken at a key where nothing is kept
pub record ChangesAt {K V T : Type 0} (cmp : K → K → Ordering) (none : V) (call : V → Result T TrackFault → V → Type 0) (old new : List (K × V)) (key : K) (result : Result T TrackFault) : Type 0 where
  pub made : Result T TrackFault
  pub value : V
  pub called : call (kept_at cmp none old key) made value
  pub answers : (refusal : Option ℕ) → Answers made refusal → Answers result refusal
  pub ordered : IsStrictlySortedBy cmp (keys_of old)
  pub ok : IfOk result (λ answer. (made ≡ Ok answer) × (new ≡ insert_entry cmp old key value))
  pub err : OnErr result (new ≡ old)
  pub fault : IfErr result (λ fault. (made ≡ Err fault) ⊎ (IsOk made × (kept_at cmp none old key ≡ none)))
