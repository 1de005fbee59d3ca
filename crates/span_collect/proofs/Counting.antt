-- How many entries a journal has of some callers.
use Rattle.std.proofs.{Common.{◌≡◌, ℕ, zero, suc, ◌+◌, ◌<◌, ◌≤◌, List, [], ◌∷◌, Bool, true, false, cond, eqb, eqb-true, eq-eqb, length, All, Contains, refl, sym, subst, arith}, lemmas.List.Elements.{All-cons, All-head, All-tail}}
use Rattle.span_share.proofs.CallersLists.{Contains-here, Contains-later}
use Rattle.span_collect.specs.{Entry, calls, AreDistinct, caller_of}

-- the entries of all these callers together
abbrev pub total : List ℕ → List Entry → ℕ
total [] journal = 0
total (c ∷ cs) journal = length (calls caller_of c journal) + total cs journal

-- how often a number stands in a list
abbrev hits : ℕ → List ℕ → ℕ
hits k [] = 0
hits k (c ∷ cs) = cond (eqb k c) 1 0 + hits k cs

hits-contains : (k : ℕ) (cs : List ℕ) → 0 < hits k cs → Contains cs k
hits-contains k [] some = absurd (omega (arith, some))
hits-contains k (c ∷ cs) some = by (eqb k c) refl some (hits-contains k cs)
  where
    by : (b : Bool) → eqb k c ≡ b → 0 < cond b 1 0 + hits k cs → (0 < hits k cs → Contains cs k) → Contains (c ∷ cs) k
    by true e some rest = subst (λ n. Contains (c ∷ cs) n) (sym (eqb-true k c e)) (Contains-here c cs)
    by false e some rest = Contains-later c cs k (rest (omega (arith, some)))

-- a number that stands in a list is hit
hits-some : (k : ℕ) (cs : List ℕ) → Contains cs k → 0 < hits k cs
hits-some k [] has = absurd (omega (arith, has.1))
hits-some k (c ∷ cs) (zero, lt, is) = let yes : eqb k c ≡ true = eq-eqb k c (sym is) in rw yes (omega arith)
hits-some k (c ∷ cs) (suc n, lt, is) = omega (arith, hits-some k cs (n, omega (arith, lt), is))

hits-once : (k : ℕ) (cs : List ℕ) → AreDistinct cs → hits k cs ≤ 1
hits-once k [] distinct = omega arith
hits-once k (c ∷ cs) distinct = by (eqb k c) refl (hits-once k cs distinct.1) (hits-contains k cs)
  where
    by : (b : Bool) → eqb k c ≡ b → hits k cs ≤ 1 → (0 < hits k cs → Contains cs k) → cond b 1 0 + hits k cs ≤ 1
    by true e once in_rest = none (hits k cs) (λ some. distinct.0 (subst (Contains cs) (eqb-true k c e) (in_rest some)))
      where
        none : (n : ℕ) → (0 < n → ⊥) → 1 + n ≤ 1
        none zero empty = omega arith
        none (suc n) empty = absurd (empty (omega arith))
    by false e once in_rest = omega (arith, once)

total-nil : (cs : List ℕ) → total cs [] ≡ 0
total-nil [] = refl
total-nil (c ∷ cs) = omega (arith, total-nil cs)

total-cons : (cs : List ℕ) (e : Entry) (journal : List Entry) → total cs (e ∷ journal) ≡ hits e.caller cs + total cs journal
total-cons [] e journal = refl
total-cons (c ∷ cs) e journal = omega (arith, one (eqb e.caller c) (calls caller_of c journal), total-cons cs e journal)
  where
    one : (b : Bool) (rest : List Entry) → length (cond b (e ∷ rest) rest) ≡ cond b 1 0 + length rest
    one true rest = omega arith
    one false rest = omega arith

-- entries of distinct callers are no more than there are
pub total-le : (cs : List ℕ) (journal : List Entry) → AreDistinct cs → total cs journal ≤ length journal
total-le cs [] distinct = omega (arith, total-nil cs)
total-le cs (e ∷ journal) distinct = omega (arith, total-cons cs e journal, hits-once e.caller cs distinct, total-le cs journal distinct)

-- where they are all that there are, every entry is of one of them
pub total-all : (cs : List ℕ) (journal : List Entry) → AreDistinct cs → total cs journal ≡ length journal → All (λ e. Contains cs e.caller) journal
total-all cs [] distinct all = λ k d lt. absurd (omega (arith, lt))
total-all cs (e ∷ journal) distinct all =
    let split = total-cons cs e journal in
    let once = hits-once e.caller cs distinct in
    let most = total-le cs journal distinct in
    All-cons (λ (x : Entry). Contains cs x.caller) e journal (hits-contains e.caller cs (omega (arith, all, split, once, most))) (total-all cs journal distinct (omega (arith, all, split, once, most)))

-- where every entry is of one of some distinct callers, theirs are all
pub total-length : (cs : List ℕ) (journal : List Entry) → AreDistinct cs → All (λ e. Contains cs e.caller) journal → total cs journal ≡ length journal
total-length cs [] distinct only = total-nil cs
total-length cs (e ∷ journal) distinct only =
    omega (
      arith,
      total-cons cs e journal,
      hits-once e.caller cs distinct,
      hits-some e.caller cs (All-head (λ (x : Entry). Contains cs x.caller) e journal only),
      total-length cs journal distinct (All-tail (λ (x : Entry). Contains cs x.caller) e journal only),
    )
