-- To which span each tick belongs, and the segments of time that are of one span, whichever way they are kept.
pub mod Lengths
pub mod Lone
pub mod OwnTimes
pub mod SegmentStacks
pub mod TimeMap
pub mod Ways
use Rattle.std.specs.{Prelude.{◌≡◌, ◌≢◌, ℕ, nat_eq, ◌&&◌, Bool, true, false, if◌then◌else◌, ℤ, pos, ◌-ℤ◌, ◌≤ℤ◌, ◌<ℤ◌, int_lt, List, [], ◌∷◌, ◌++◌, Option, Some, None, fold, sum_by, unwrap_or}, declared.hash.{BuildHasherDefault.BuildHasherDefault, FoldHasher.FoldHasher}}
use Rattle.indexmap.specs.IndexMap.{IndexMap, get}
use Rattle.span_self_time.specs.{distance, least_time, Closed.{greatest_until, IsInTime}, Spans.{Span, covers, outranks}, declared.{segment.OwnedSegment.OwnedSegment, span.ClosedSpan.ClosedSpan}}

-- the one segment of a span that has all of its time
abbrev pub whole : ClosedSpan → OwnedSegment
whole s = record { segment = record { start = s.start; until = s.until; name = s.name; at = s.at }; span_start = s.start; span_until = s.until }

-- to which span each tick belongs; spans stand in it without their arguments
abbrev pub Owners : Type 0
Owners = ℤ → Option (Span ℕ)

abbrev pub bare : Span ℕ → Span ℕ
bare s = record { name = s.name; start = s.start; until = s.until; at = s.at; args = [] }

-- a span takes the ticks that it covers from no one and from the spans that it outranks
abbrev pub claims : Span ℕ → Option (Span ℕ) → Bool
claims s None = true
claims s (Some owner) = outranks s owner

abbrev pub taken : Span ℕ → Owners → Owners
taken s owners u = if covers s u && claims s (owners u) then Some s else owners u

-- the owners once the span has taken what is its own before t
abbrev pub taken_to : Span ℕ → ℤ → Owners → Owners
taken_to s t owners u = if int_lt u t then taken s owners u else owners u

-- to whom these spans leave each tick, when one after another takes its own
abbrev pub owners_of : List (Span ℕ) → Owners
owners_of spans u = fold (λ owner s. if covers s u && claims (bare s) owner then Some (bare s) else owner) None spans

-- the span of a segment
abbrev pub owner_of : OwnedSegment → Span ℕ
owner_of p = record { name = p.segment.name; start = p.span_start; until = p.span_until; at = p.segment.at; args = [] }

-- each tick from a to before b has this owner
abbrev pub Belong : Owners → ℤ → ℤ → Option (Span ℕ) → Type 0
Belong owners a b owner = (u : ℤ) → a ≤ℤ u → u <ℤ b → owners u ≡ owner

-- the segments, the first first, are the time from t on: each is as long as can be to its end
abbrev pub AreFuture : Owners → ℤ → List OwnedSegment → Type 0
AreFuture owners t [] = (t ≤ℤ greatest_until) × ((u : ℤ) → t ≤ℤ u → owners u ≡ None)
AreFuture owners t (p ∷ ps) =
    (t ≤ℤ p.segment.start) × Belong owners t p.segment.start None
    × (p.segment.start <ℤ p.segment.until) × Belong owners p.segment.start p.segment.until (Some (owner_of p))
    × (owners p.segment.until ≢ Some (owner_of p)) × AreFuture owners p.segment.until ps

-- the segments, in order, are the whole time
pub record AreOwnedSegments (owners : Owners) (segments : List OwnedSegment) : Type 0 where
  pub nothing : (u : ℤ) → u <ℤ least_time → owners u ≡ None
  pub each : AreFuture owners least_time segments

-- there are segments of these owners of which P holds
pub record HasOwnedSegments (owners : Owners) (P : List OwnedSegment → Type 0) : Type 0 where
  pub segments : List OwnedSegment
  pub are : AreOwnedSegments owners segments
  pub holds : P segments

-- the running self times of the names
abbrev pub SelfTimes : Type 0
SelfTimes = IndexMap ℕ ℕ (BuildHasherDefault FoldHasher)

abbrev pub own_in : SelfTimes → ℕ → ℕ
own_in own name = unwrap_or (get nat_eq own name) 0

-- no owner has the span's position
abbrev pub IsNew : Span ℕ → Owners → Type 0
IsNew s owners = (u : ℤ) (owner : Span ℕ) → owners u ≡ Some owner → owner.at ≢ s.at

-- an owner covers what he owns, and takes nothing more
pub record AreSettled (owners : Owners) : Type 0 where
  pub own : (u : ℤ) (o : Span ℕ) → owners u ≡ Some o → covers o u ≡ true
  pub no_claim : (u v : ℤ) (o : Span ℕ) → owners u ≡ Some o → covers o v ≡ true → claims o (owners v) ≡ false

-- some owners are such
pub record ForSome (P : Owners → Type 0) : Type 0 where
  pub owners : Owners
  pub holds : P owners

-- a new span may take its own from the owners of whom `Is` says what is kept
pub record CanAdd {T : Type 0} (Is : Owners → T → Type 0) (s : Span ℕ) (kept : T) : Type 0 where
  pub is : ForSome (λ owners. Is owners kept × IsNew s owners × AreSettled owners)
  pub forward : s.start ≤ℤ s.until
  pub in_time : IsInTime s

-- the span took its own from them
abbrev pub Adds : {T : Type 0} → (Owners → T → Type 0) → Span ℕ → T → T → Type 0
Adds Is s old new = (owners : Owners) → Is owners old → IsNew s owners → AreSettled owners → Is (taken s owners) new

-- the owners are the same
abbrev pub KeepsOwners : {T : Type 0} → (Owners → T → Type 0) → T → T → Type 0
KeepsOwners Is old new = (owners : Owners) → Is owners old → Is owners new

-- the same span's segment from a to before b
abbrev pub between : OwnedSegment → ℤ → ℤ → OwnedSegment
between p a b = record { segment = record { start = a; until = b; name = p.segment.name; at = p.segment.at }; span_start = p.span_start; span_until = p.span_until }
