-- To whom the spans leave a tick: to the one of those that cover it above which none of them ranks.
use Rattle.std.specs.List.{fold, list_any}
use Rattle.std.proofs.{Common.{◌≡◌, ◌≢◌, ℕ, Bool, true, false, not, ◌&&◌, cond, nat_eq, ℤ, ◌≤ℤ◌, ◌<ℤ◌, List, [], ◌∷◌, ◌++◌, Option, Some, None, ◌⊎◌, inl, inr, refl, sym, ap, ◌∙◌, true≢false, All, get_or, arith}, lemmas.{Grind.common_steps, Bool.{or_from, or_cases, and_from, and_parts, and_left, and_right, not_from_false, not-true, false_from_ne_true, cases_eq}, Int.{ints}, List.{Elements.{All-head, All-tail}, Folds.{list_any_none, list_any_at}, Sums.fold_push}, Option.same_Some}}
use Rattle.span_self_time.specs.{Division.{Owners, bare, claims, taken, taken_to, owners_of}, Segments.is_on_top, Spans.{Span, covers, outranks, is_outranked}}
use Rattle.span_self_time.proofs.{Counts.{covers-before, covers-after, int_lt-above, int_lt-below}, Ranks.{outranks-trans, outranks-either}}

-- the owner of u once the span has taken its own
abbrev owner_after : ℤ → Option (Span ℕ) → Span ℕ → Option (Span ℕ)
owner_after u owner s = cond (covers s u && claims (bare s) owner) (Some (bare s)) owner

pub owners_of-append : (spans : List (Span ℕ)) (s : Span ℕ) (u : ℤ) → owners_of (spans ++ s ∷ []) u ≡ taken (bare s) (owners_of spans) u
owners_of-append spans s u = fold_push (owner_after u) None spans s

-- a later owner ranks no lower
claims-owner_after : (x : Span ℕ) (u : ℤ) (owner : Option (Span ℕ)) (s : Span ℕ) → claims x owner ≡ false → claims x (owner_after u owner s) ≡ false
claims-owner_after x u None s h = absurd (true≢false h)
claims-owner_after x u (Some o) s h = by_test (covers s u) (outranks s o) refl
  where
    by_test : (c b : Bool) → outranks s o ≡ b → claims x (cond (c && b) (Some (bare s)) (Some o)) ≡ false
    by_test false b above = h
    by_test true false above = h
    by_test true true above =
        false_from_ne_true (outranks x s) (λ higher. true≢false (sym (outranks-trans x s o higher above) ∙ h))

claims-fold : (x : Span ℕ) (u : ℤ) (owner : Option (Span ℕ)) (spans : List (Span ℕ)) → claims x owner ≡ false → claims x (fold (owner_after u) owner spans) ≡ false
claims-fold x u owner [] h = h
claims-fold x u owner (s ∷ spans) h = claims-fold x u (owner_after u owner s) spans (claims-owner_after x u owner s h)

-- what a span has been offered it takes no more
claims-own : (s : Span ℕ) (u : ℤ) (owner : Option (Span ℕ)) → (covers s u && claims (bare s) (owner_after u owner s)) ≡ false
claims-own s u owner = grind (arith, ints, common_steps)

list_any-fold : (u : ℤ) (owner : Option (Span ℕ)) (spans : List (Span ℕ)) → list_any (λ s. covers s u && claims (bare s) (fold (owner_after u) owner spans)) spans ≡ false
list_any-fold u owner [] = refl
list_any-fold u owner (s ∷ spans) =
    or_from _ _ (by_test (covers s u) (claims-own s u owner)) (list_any-fold u (owner_after u owner s) spans)
  where
    by_test : (c : Bool) → (c && claims (bare s) (owner_after u owner s)) ≡ false → (c && claims (bare s) (fold (owner_after u) (owner_after u owner s) spans)) ≡ false
    by_test false h = refl
    by_test true h = claims-fold (bare s) u (owner_after u owner s) spans h

-- no span could take a tick from its owner
pub list_any-owners_of : (spans : List (Span ℕ)) (u : ℤ) → list_any (λ s. covers s u && claims (bare s) (owners_of spans u)) spans ≡ false
list_any-owners_of spans u = list_any-fold u None spans

-- a span that covers u stands without its arguments as o, and P holds of it
pub record IsOwnedBy (P : Span ℕ → Type 0) (o : Span ℕ) (u : ℤ) : Type 0 where
  pub span : Span ℕ
  pub holds : P span
  pub is : bare span ≡ o
  pub covers : covers span u ≡ true

owned_by-fold : (P : Span ℕ → Type 0) (u : ℤ) (owner : Option (Span ℕ)) (spans : List (Span ℕ)) → All P spans → (o : Span ℕ) → fold (owner_after u) owner spans ≡ Some o → (owner ≡ Some o) ⊎ IsOwnedBy P o u
owned_by-fold P u owner [] all o found = inl found
owned_by-fold P u owner (s ∷ spans) all o found =
    elim (owned_by-fold P u (owner_after u owner s) spans (All-tail P s spans all) o found) [
      | inl here ↦ by_test (covers s u) (claims (bare s) owner) refl here
      | inr there ↦ inr there
    ]
  where
    by_test : (c b : Bool) → covers s u ≡ c → cond (c && b) (Some (bare s)) owner ≡ Some o → (owner ≡ Some o) ⊎ IsOwnedBy P o u
    by_test false b here h = inl h
    by_test true false here h = inl h
    by_test true true here h =
        inr (record { span = s; holds = All-head P s spans all; is = same_Some (bare s) o h; covers = here })

-- the owner is one of the spans
pub owners_of-All : (P : Span ℕ → Type 0) (spans : List (Span ℕ)) → All P spans → (u : ℤ) (o : Span ℕ) → owners_of spans u ≡ Some o → IsOwnedBy P o u
owners_of-All P spans all u o found =
    elim (owned_by-fold P u None spans all o found) [ inl none ↦ absurd (cc) | inr owned ↦ owned ]

-- no span ranks above the owner of u
pub is_outranked-owners_of : (spans : List (Span ℕ)) (u : ℤ) (o : Span ℕ) → owners_of spans u ≡ Some o → is_outranked spans o u ≡ false
is_outranked-owners_of spans u o found =
    ap (λ owner. list_any (λ s. covers s u && claims (bare s) owner) spans) (sym found) ∙ list_any-owners_of spans u

-- where u has no owner, no span covers it
pub covers-owners_of : (spans : List (Span ℕ)) (u : ℤ) → owners_of spans u ≡ None → All (λ s. covers s u ≡ false) spans
covers-owners_of spans u none = λ k d within. false_from_ne_true _ (λ here.
    true≢false (sym (list_any_at (λ s. covers s u && claims (bare s) None) spans k d within (and_from _ _ here refl)) ∙ ap (λ owner. list_any (λ s. covers s u && claims (bare s) owner) spans) (sym none) ∙ list_any-owners_of spans u))

-- a span that covers u is the owner's, or is below another
pub at-owners_of : (spans : List (Span ℕ)) (u : ℤ) (o : Span ℕ) → owners_of spans u ≡ Some o → All (λ s. covers s u ≡ true → is_outranked spans s u ≡ false → s.at ≡ o.at) spans
at-owners_of spans u o found = λ k d within here top.
    let s = get_or spans k d in
    elim (cases_eq s.at o.at) [
      | inl same ↦ same
      | inr differs ↦ absurd (elim (or_cases (outranks s o) (outranks o s) (outranks-either s o differs)) [
        | inl above ↦ true≢false (sym (list_any_at (λ a. covers a u && outranks a o) spans k d within (and_from _ _ here above)) ∙ is_outranked-owners_of spans u o found)
        | inr below ↦ true≢false (sym (owner.holds s (and_from _ _ owner.covers (ap (λ x. outranks x s) owner.is ∙ below))) ∙ top)
      ])
    ]
  where
    owner : IsOwnedBy (λ z. (s : Span ℕ) → (covers z u && outranks z s) ≡ true → is_outranked spans s u ≡ true) o u
    owner = owners_of-All (λ z. (s : Span ℕ) → (covers z u && outranks z s) ≡ true → is_outranked spans s u ≡ true) spans (λ k d within s above. list_any_at (λ a. covers a u && outranks a s) spans k d within above) u o found

-- the owner is a span that was opened at this position
abbrev pub is_of : ℕ → Option (Span ℕ) → Bool
is_of at None = false
is_of at (Some o) = nat_eq o.at at

pub is_on_top-owners_of : (spans : List (Span ℕ)) (at : ℕ) (u : ℤ) → is_on_top spans at u ≡ is_of at (owners_of spans u)
is_on_top-owners_of spans at u = by_owner (owners_of spans u) refl
  where
    on_top : Span ℕ → Bool
    on_top s = nat_eq s.at at && (covers s u && not (is_outranked spans s u))

    by_place : (o : Span ℕ) → owners_of spans u ≡ Some o → (b : Bool) → nat_eq o.at at ≡ b → is_on_top spans at u ≡ b
    by_place o found true same =
        let owner = owners_of-All (λ z. on_top z ≡ true → is_on_top spans at u ≡ true) spans (λ k d within. list_any_at on_top spans k d within) u o found in
        owner.holds (and_from _ _ (ap (λ z. nat_eq z.at at) owner.is ∙ same) (and_from _ _ owner.covers (not_from_false _ (ap (λ z. is_outranked spans z u) owner.is ∙ is_outranked-owners_of spans u o found))))
    by_place o found false differs =
        list_any_none on_top spans (λ k d within. false_from_ne_true _ (λ top.
        let s = get_or spans k d in
        let here = and_parts (nat_eq s.at at) (covers s u && not (is_outranked spans s u)) top in
        let parts = and_parts (covers s u) (not (is_outranked spans s u)) here.1 in
        let same = at-owners_of spans u o found k d within parts.0 (not-true _ parts.1) in
        true≢false (sym here.0 ∙ ap (λ n. nat_eq n at) same ∙ differs)))

    by_owner : (o : Option (Span ℕ)) → owners_of spans u ≡ o → is_on_top spans at u ≡ is_of at o
    by_owner None none = list_any_none on_top spans (λ k d within. and_right _ _ (and_left _ _ (covers-owners_of spans u none k d within)))
    by_owner (Some o) found = by_place o found (nat_eq o.at at) refl

pub owners_of-apart : (spans : List (Span ℕ)) (at : ℕ) → All (λ s. s.at ≢ at) spans → (u : ℤ) (o : Span ℕ) → owners_of spans u ≡ Some o → o.at ≢ at
owners_of-apart spans at apart u o found =
    let owner = owners_of-All (λ s. s.at ≢ at) spans apart u o found in
    λ same. owner.holds (ap (λ (s : Span ℕ). s.at) owner.is ∙ same)

-- a span leaves the time before it and behind it to its owners
pub taken-before : (s : Span ℕ) (owners : Owners) (u : ℤ) → u <ℤ s.start → taken s owners u ≡ owners u
taken-before s owners u h = ap (λ b. cond (b && claims s (owners u)) (Some s) (owners u)) (covers-before s u h)

pub taken-after : (s : Span ℕ) (owners : Owners) (u : ℤ) → s.until ≤ℤ u → taken s owners u ≡ owners u
taken-after s owners u h = ap (λ b. cond (b && claims s (owners u)) (Some s) (owners u)) (covers-after s u h)

-- within the span the claim decides
pub taken-within : (s : Span ℕ) (owners : Owners) (u : ℤ) (owner : Option (Span ℕ)) (b : Bool) → s.start ≤ℤ u → u <ℤ s.until → owners u ≡ owner → claims s owner ≡ b → taken s owners u ≡ cond b (Some s) owner
taken-within s owners u owner b from before is claim = grind (arith, ints, common_steps)

-- nothing is taken where the span has no claim
pub taken-unclaimed : (s : Span ℕ) (owners : Owners) (u : ℤ) → claims s (owners u) ≡ false → taken s owners u ≡ owners u
taken-unclaimed s owners u none = grind (arith, ints, common_steps)

-- where the span has no claim on an owner, he stays
pub taken-kept : (s : Span ℕ) (owners : Owners) (u : ℤ) (owner : Span ℕ) → owners u ≡ Some owner → outranks s owner ≡ false → taken s owners u ≡ Some owner
taken-kept s owners u owner is below = taken-unclaimed s owners u (ap (claims s) is ∙ below) ∙ is

pub taken_to-before : (s : Span ℕ) (t : ℤ) (owners : Owners) (u : ℤ) → u <ℤ t → taken_to s t owners u ≡ taken s owners u
taken_to-before s t owners u h = ap (λ b. cond b (taken s owners u) (owners u)) (int_lt-below u t h)

pub taken_to-after : (s : Span ℕ) (t : ℤ) (owners : Owners) (u : ℤ) → t ≤ℤ u → taken_to s t owners u ≡ owners u
taken_to-after s t owners u h = ap (λ b. cond b (taken s owners u) (owners u)) (int_lt-above u t h)

-- to go on later where nothing is taken is to stay
pub taken_to-on : (s : Span ℕ) (t n : ℤ) (owners : Owners) → t ≤ℤ n → ((u : ℤ) → t ≤ℤ u → u <ℤ n → taken s owners u ≡ owners u) → taken_to s t owners ≡ taken_to s n owners
taken_to-on s t n owners on none = grind (arith, ints, common_steps)

-- before the span starts nothing is taken
pub taken_to-start : (s : Span ℕ) (owners : Owners) → owners ≡ taken_to s s.start owners
taken_to-start s owners = grind (arith, ints, common_steps)

pub taken_to-until : (s : Span ℕ) (owners : Owners) → taken_to s s.until owners ≡ taken s owners
taken_to-until s owners = grind (arith, ints, common_steps)

-- an empty span takes nothing
pub taken-empty : (s : Span ℕ) (owners : Owners) → s.until ≤ℤ s.start → owners ≡ taken s owners
taken-empty s owners empty = grind (arith, ints, common_steps)
