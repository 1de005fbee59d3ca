-- Pending frames: the stack of each stands through a stretch of time, and on it may stand some of the spans in ascending rank.
use Rattle.std.specs.{Int.int_max, List.AllByRecursion, Ordering.{nat_cmp, ordering_then}, Prelude.{◌≡◌, ◌⊎◌, ℕ, ◌+◌, ◌<◌, ◌≤◌, ℤ, ◌≤ℤ◌, ◌<ℤ◌, All, false, if◌then◌else◌, List, [], ◌∷◌, ◌++◌, length, drop, take, sum_by, slice_index_or}, declared.cmp.Ordering.{Ordering, TheVariants.{Less, Greater}}}
use Rattle.span_report.specs.{least_time, Bytes, text_cmp, distance, greatest_until, Span, count_from, covers, Stacks.Ticks.{Stack, names_at, same_stack, stack_order}, declared.stacks.{ends.Link.Link, pending.{PendingFrame.PendingFrame, Stretch.Stretch}}}

-- from this time on none of the spans from the j-th to before the k-th covers a tick
abbrev pub NoneCovers : List (Span Bytes) → ℕ → ℕ → ℤ → Type 0
NoneCovers spans j k time = (i : ℕ) (d : Span Bytes) (u : ℤ) → j ≤ i → i < k → time ≤ℤ u → covers (slice_index_or spans i d) u ≡ false

-- a later place, before which none of the spans from the k-th on lasts longer than the one there
pub record IsJump (spans : List (Span Bytes)) (k next : ℕ) : Type 0 where
  pub behind : k < next
  pub within : next ≤ length spans
  pub rises : (d : Span Bytes) → next < length spans → (slice_index_or spans k d).until ≤ℤ (slice_index_or spans next d).until
  pub over : (d : Span Bytes) → next < length spans → NoneCovers spans k next (slice_index_or spans next d).until

-- a later place, before which none of the others from the k-th on lasts longer than the k-th
pub record IsLater (spans : List (Span Bytes)) (k next : ℕ) : Type 0 where
  pub behind : k < next
  pub within : next ≤ length spans
  pub over : (d : Span Bytes) → NoneCovers spans (k + 1) next (slice_index_or spans k d).until

-- the link of the k-th
abbrev pub IsLink : List (Span Bytes) → ℕ → Link → Type 0
IsLink spans k link = IsLater spans k link.later × IsJump spans k link.jump

-- the links of the spans from the n-th on, and one behind them
pub record AreLinks (n : ℕ) (spans : List (Span Bytes)) (links : List Link) : Type 0 where
  pub even : length links ≡ length spans + 1
  pub leads : (k : ℕ) (d : Link) → n ≤ k → k < length spans → IsLink spans k (slice_index_or links k d)
  pub end : (d : Link) → (slice_index_or links (length spans) d).jump ≡ length spans
  pub within : All (λ link. link.jump < length links) links

-- on to where the link jumps, if the span there ends by the time, or else leads
abbrev pub IsOnward : List (Span Bytes) → Link → ℤ → ℕ → Type 0
IsOnward spans link time next = (next ≡ link.later) ⊎ ((next ≡ link.jump) × (next < length spans) × ((d : Span Bytes) → (slice_index_or spans next d).until ≤ℤ time))

-- the link leads to the place, and jumps there, or as far as two jumps from there
pub record IsLinkTo (links : List Link) (later : ℕ) (link : Link) : Type 0 where
  pub is : link.later ≡ later
  pub jump : (d : Link) → (link.jump ≡ later) ⊎ (link.jump ≡ (slice_index_or links (slice_index_or links later d).jump d).jump)

-- the spans start one after the other
abbrev pub Rise : List (Span Bytes) → Type 0
Rise spans = (j k : ℕ) (d : Span Bytes) → j ≤ k → k < length spans → (slice_index_or spans j d).start ≤ℤ (slice_index_or spans k d).start

-- the first of the spans from the n-th on that covers a tick from the time on
pub record IsFirstBeyond (spans : List (Span Bytes)) (n : ℕ) (time : ℤ) (first : ℕ) : Type 0 where
  pub behind : n ≤ first
  pub within : first ≤ length spans
  pub over : NoneCovers spans n first time
  pub lasts : (d : Span Bytes) → first < length spans → int_max time (slice_index_or spans first d).start <ℤ (slice_index_or spans first d).until

-- the stack of a pending frame, where another one was visited before
abbrev pub pending_stack : Stack → PendingFrame → Stack
pending_stack last frame = take frame.below last ++ frame.name.now ∷ []

-- nearer are those on more frames, and of as many those of lesser names
abbrev pub nearness : PendingFrame → PendingFrame → Ordering
nearness a b = ordering_then (nat_cmp a.below b.below) (text_cmp b.name.now a.name.now)

-- none of the frames is nearer than one behind it
abbrev pub Near : List PendingFrame → Type 0
Near [] = Unit {0}
Near (p ∷ pending) = AllByRecursion (λ q. nearness p q ≡ Greater → ⊥) pending × Near pending

-- the frame's stack comes after another one, with which it begins but for the frame itself
abbrev pub IsAhead : Stack → PendingFrame → Type 0
IsAhead last frame = (frame.below ≤ length last) × (stack_order last (pending_stack last frame) ≡ Less)

module _ (spans : List (Span Bytes)) where
  -- the stretch has a tick, and lies within the times that spans can have
  pub record IsSound (s : Stretch) : Type 0 where
    pub from : least_time ≤ℤ s.from
    pub lasts : s.from <ℤ s.until
    pub until : s.until ≤ℤ greatest_until
    pub within : s.next ≤ length spans

  -- how many ticks of a stretch have this stack, where its spans stand on a base
  abbrev pub times_on : Stack → Stretch → Stack → ℕ
  times_on base s stack = count_from s.from (distance s.from s.until) (λ u. same_stack stack (base ++ names_at (drop s.next spans) u))

  -- how many ticks of the pending frames have this stack
  abbrev pub left : Stack → List PendingFrame → Stack → ℕ
  left last pending stack = sum_by (λ p. times_on (pending_stack last p) p.over stack) pending

  -- the frame is the first that stands in a stretch; behind its own spans go on those of the rest
  pub record IsFirstPending (s : Stretch) (frame : PendingFrame) : Type 0 where
    pub from : s.from ≤ℤ frame.over.from
    pub lasts : frame.over.from <ℤ frame.over.until
    pub until : frame.over.until ≤ℤ s.until
    pub behind : s.next < frame.over.next
    pub within : frame.over.next ≤ length spans
    pub before : (u : ℤ) → s.from ≤ℤ u → u <ℤ frame.over.from → names_at (drop s.next spans) u ≡ []
    pub through : (u : ℤ) → frame.over.from ≤ℤ u → u <ℤ frame.over.until → names_at (drop s.next spans) u ≡ frame.name.now ∷ names_at (drop frame.over.next spans) u
    pub rest : (u : ℤ) → frame.over.until ≤ℤ u → u <ℤ s.until → names_at (drop s.next spans) u ≡ names_at (drop frame.over.next spans) u

  -- no span stands in the stretch
  abbrev pub IsBare : Stretch → Type 0
  IsBare s = (u : ℤ) → s.from ≤ℤ u → u <ℤ s.until → names_at (drop s.next spans) u ≡ []

  -- the frames that stand in a stretch, on so many others, are put to those found, and the rest is its own time
  pub record IsSplit (below : ℕ) (s : Stretch) (time : ℕ) (old new : List PendingFrame) : Type 0 where
    pub counts : (base : Stack) → length base ≡ below → (stack : Stack)
        → left base new stack + (if same_stack stack base then time else 0) ≡ left base old stack + times_on base s stack
    pub sound : AllByRecursion (λ p. (p.below ≡ below) × IsSound p.over) old → AllByRecursion (λ p. (p.below ≡ below) × IsSound p.over) new
