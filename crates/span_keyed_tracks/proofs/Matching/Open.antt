-- How the open begins change from one step to the next.
use Rattle.std.specs.Option.{option_or}
use Rattle.std.proofs.{Common.{◌≡◌, ℕ, zero, suc, pred, ◌+◌, ◌==◌, Bool, true, false, ◌&&◌, ◌||◌, cond, List, [], ◌∷◌, ◌++◌, length, Option, Some, None, is_none, not, refl, sym, ap, ap₂, ◌∙◌, arith, eq-eqb, ne_eqb}, lemmas.Bool.and_left}
use Rattle.span_keyed_tracks.specs.{Last.{last_of, without_last}, Matching.{Step, opens, closes, closes_all, other, begins, ends, has_end_of_all, opener, is_match, is_matched_after, open_of}}
use Rattle.span_keyed_tracks.proofs.Lists.Last.{option_or-some}

is_none-option_or : {A : Type 0} (o : Option A) (x : A) → is_none (option_or o (Some x)) ≡ false
is_none-option_or None x = refl
is_none-option_or (Some y) x = refl

-- there is one at least
abbrev is_positive : ℕ → Bool
is_positive zero = false
is_positive (suc n) = true

module _ {B : Type 0} where
  abbrev keep_unless : B → ℕ → List B → List B
  keep_unless b zero later = b ∷ later
  keep_unless b (suc n) later = later

  opener_of_begin : (b : B) (opened : List B) (n x y : ℕ) → x + n ≡ y + length opened → option_or (last_of opened) (cond (x == y) (Some b) None) ≡ last_of (keep_unless b n opened)
  opener_of_begin b [] zero x y h = rw (eq-eqb x y (omega arith))
  opener_of_begin b [] (suc n) x y h = rw (ne_eqb x y (λ same. omega arith))
  opener_of_begin b (o ∷ opened) zero x y h =
      option_or-some (last_of opened) o _ ∙ sym (option_or-some (last_of opened) o _)
  opener_of_begin b (o ∷ opened) (suc n) x y h = option_or-some (last_of opened) o _

  -- an end adds to the surplus where nothing is open
  abbrev after_end : List B → ℕ → ℕ
  after_end [] n = suc n
  after_end (b ∷ opened) n = n

  -- there is neither an open begin nor an end that matches none
  abbrev is_settled : List B → ℕ → Bool
  is_settled [] zero = true
  is_settled [] (suc n) = false
  is_settled (o ∷ opened) n = false

  -- there are more ends than open begins
  abbrev exceeds : ℕ → List B → Bool
  exceeds zero opened = false
  exceeds (suc n) [] = true
  exceeds (suc n) (o ∷ opened) = exceeds n opened

  exceeds-append : (n : ℕ) (opened : List B) (b : B) → exceeds n (opened ++ b ∷ []) ≡ exceeds (pred n) opened
  exceeds-append zero opened b = refl
  exceeds-append (suc n) [] b = refl
  exceeds-append (suc zero) (o ∷ opened) b = refl
  exceeds-append (suc (suc n)) (o ∷ opened) b = exceeds-append (suc n) opened b

  exceeds-without_last : (n : ℕ) (o : B) (opened : List B) → exceeds n (without_last (o ∷ opened)) ≡ exceeds n opened
  exceeds-without_last n o [] = refl
  exceeds-without_last zero o (p ∷ opened) = refl
  exceeds-without_last (suc n) o (p ∷ opened) = exceeds-without_last n p opened

option_or-none : {A : Type 0} (o : Option A) → option_or o None ≡ o
option_or-none None = refl
option_or-none (Some x) = refl

or_true : (a : Bool) → (a || true) ≡ true
or_true true = refl
or_true false = refl

module _ {B E A O : Type 0} where
  -- how many of the ends match no begin among these steps
  abbrev surplus : List (Step B E A O) → ℕ
  surplus [] = 0
  surplus (opens b ∷ later) = cond (has_end_of_all later) (surplus later) (pred (surplus later))
  surplus (closes e ∷ later) = suc (surplus later)
  surplus (closes_all a ∷ later) = surplus later
  surplus (other x ∷ later) = surplus later

  -- the open begins, found from the last step backwards
  abbrev unmatched : List (Step B E A O) → List B
  unmatched [] = []
  unmatched (opens b ∷ later) = cond (has_end_of_all later) (unmatched later) (keep_unless b (surplus later) (unmatched later))
  unmatched (closes e ∷ later) = unmatched later
  unmatched (closes_all a ∷ later) = unmatched later
  unmatched (other x ∷ later) = unmatched later

  -- begins and unmatched ends are as many as ends and unmatched begins, where nothing ends all
  begins-add-surplus : (steps : List (Step B E A O)) → has_end_of_all steps ≡ false → begins steps + surplus steps ≡ ends steps + length (unmatched steps)
  begins-add-surplus [] open_still = refl
  begins-add-surplus (opens b ∷ later) open_still =
      rw open_still (at_surplus (surplus later) (begins-add-surplus later open_still))
    where
      at_surplus : (n : ℕ) → begins later + n ≡ ends later + length (unmatched later) → (begins later + 1) + pred n ≡ ends later + length (keep_unless b n (unmatched later))
      at_surplus zero h = omega arith
      at_surplus (suc n) h = omega arith
  begins-add-surplus (closes e ∷ later) open_still = omega (arith, begins-add-surplus later open_still)
  begins-add-surplus (closes_all a ∷ later) open_still = absurd cc
  begins-add-surplus (other x ∷ later) open_still = begins-add-surplus later open_still

  opener-last_of : (steps : List (Step B E A O)) → opener steps ≡ last_of (unmatched steps)
  opener-last_of [] = refl
  opener-last_of (opens b ∷ later) = rw (opener-last_of later) (by (has_end_of_all later) refl)
    where
      by : (closed : Bool) → has_end_of_all later ≡ closed →
          option_or (last_of (unmatched later)) (cond (not closed && (begins later == ends later)) (Some b) None) ≡ last_of (cond closed (unmatched later) (keep_unless b (surplus later) (unmatched later)))
      by true h = option_or-none (last_of (unmatched later))
      by false h = opener_of_begin b (unmatched later) (surplus later) (begins later) (ends later) (begins-add-surplus later h)
  opener-last_of (closes e ∷ later) = opener-last_of later
  opener-last_of (closes_all a ∷ later) = opener-last_of later
  opener-last_of (other x ∷ later) = opener-last_of later

  -- an end of all stays one of the steps
  has_end_of_all-append : (steps more : List (Step B E A O)) → has_end_of_all more ≡ false → has_end_of_all (steps ++ more) ≡ has_end_of_all steps
  has_end_of_all-append [] more none = none
  has_end_of_all-append (opens c ∷ steps) more none = has_end_of_all-append steps more none
  has_end_of_all-append (closes e ∷ steps) more none = has_end_of_all-append steps more none
  has_end_of_all-append (closes_all a ∷ steps) more none = refl
  has_end_of_all-append (other x ∷ steps) more none = has_end_of_all-append steps more none

  surplus-opens : (steps : List (Step B E A O)) (b : B) → surplus (steps ++ opens b ∷ []) ≡ surplus steps
  surplus-opens [] b = refl
  surplus-opens (opens c ∷ steps) b = rw (has_end_of_all-append steps (opens b ∷ []) refl, surplus-opens steps b) refl
  surplus-opens (closes e ∷ steps) b = ap suc (surplus-opens steps b)
  surplus-opens (closes_all a ∷ steps) b = surplus-opens steps b
  surplus-opens (other x ∷ steps) b = surplus-opens steps b

  unmatched-opens : (steps : List (Step B E A O)) (b : B) → unmatched (steps ++ opens b ∷ []) ≡ unmatched steps ++ b ∷ []
  unmatched-opens [] b = refl
  unmatched-opens (opens c ∷ steps) b =
      rw (has_end_of_all-append steps (opens b ∷ []) refl, surplus-opens steps b, unmatched-opens steps b) (kept (has_end_of_all steps) (surplus steps))
    where
      kept : (closed : Bool) (n : ℕ) → cond closed (unmatched steps ++ b ∷ []) (keep_unless c n (unmatched steps ++ b ∷ [])) ≡ cond closed (unmatched steps) (keep_unless c n (unmatched steps)) ++ b ∷ []
      kept true n = refl
      kept false zero = refl
      kept false (suc n) = refl
  unmatched-opens (closes e ∷ steps) b = unmatched-opens steps b
  unmatched-opens (closes_all a ∷ steps) b = unmatched-opens steps b
  unmatched-opens (other x ∷ steps) b = unmatched-opens steps b

  surplus-other : (steps : List (Step B E A O)) (x : O) → surplus (steps ++ other x ∷ []) ≡ surplus steps
  surplus-other [] x = refl
  surplus-other (opens c ∷ steps) x = rw (has_end_of_all-append steps (other x ∷ []) refl, surplus-other steps x) refl
  surplus-other (closes e ∷ steps) x = ap suc (surplus-other steps x)
  surplus-other (closes_all a ∷ steps) x = surplus-other steps x
  surplus-other (other y ∷ steps) x = surplus-other steps x

  unmatched-other : (steps : List (Step B E A O)) (x : O) → unmatched (steps ++ other x ∷ []) ≡ unmatched steps
  unmatched-other [] x = refl
  unmatched-other (opens c ∷ steps) x = rw (has_end_of_all-append steps (other x ∷ []) refl, surplus-other steps x, unmatched-other steps x) refl
  unmatched-other (closes e ∷ steps) x = unmatched-other steps x
  unmatched-other (closes_all a ∷ steps) x = unmatched-other steps x
  unmatched-other (other y ∷ steps) x = unmatched-other steps x

  surplus-closes : (steps : List (Step B E A O)) (e : E) → surplus (steps ++ closes e ∷ []) ≡ after_end (unmatched steps) (surplus steps)
  surplus-closes [] e = refl
  surplus-closes (opens c ∷ steps) e =
      rw (has_end_of_all-append steps (closes e ∷ []) refl, surplus-closes steps e) (before (has_end_of_all steps) (unmatched steps) (surplus steps))
    where
      before : (closed : Bool) (opened : List B) (n : ℕ) → cond closed (after_end opened n) (pred (after_end opened n)) ≡ after_end (cond closed opened (keep_unless c n opened)) (cond closed n (pred n))
      before true opened n = refl
      before false [] zero = refl
      before false [] (suc n) = refl
      before false (b ∷ opened) zero = refl
      before false (b ∷ opened) (suc n) = refl
  surplus-closes (closes d ∷ steps) e = ap suc (surplus-closes steps e) ∙ after_suc (unmatched steps) (surplus steps)
    where
      after_suc : (opened : List B) (n : ℕ) → suc (after_end opened n) ≡ after_end opened (suc n)
      after_suc [] n = refl
      after_suc (b ∷ opened) n = refl
  surplus-closes (closes_all a ∷ steps) e = surplus-closes steps e
  surplus-closes (other x ∷ steps) e = surplus-closes steps e

  unmatched-closes : (steps : List (Step B E A O)) (e : E) → unmatched (steps ++ closes e ∷ []) ≡ without_last (unmatched steps)
  unmatched-closes [] e = refl
  unmatched-closes (opens c ∷ steps) e =
      rw (has_end_of_all-append steps (closes e ∷ []) refl, surplus-closes steps e, unmatched-closes steps e) (before (has_end_of_all steps) (unmatched steps) (surplus steps))
    where
      before : (closed : Bool) (opened : List B) (n : ℕ) → cond closed (without_last opened) (keep_unless c (after_end opened n) (without_last opened)) ≡ without_last (cond closed opened (keep_unless c n opened))
      before true opened n = refl
      before false [] zero = refl
      before false [] (suc n) = refl
      before false (b ∷ opened) zero = refl
      before false (b ∷ opened) (suc n) = refl
  unmatched-closes (closes d ∷ steps) e = unmatched-closes steps e
  unmatched-closes (closes_all a ∷ steps) e = unmatched-closes steps e
  unmatched-closes (other x ∷ steps) e = unmatched-closes steps e

  has_end_of_all-closes_all : (steps : List (Step B E A O)) (a : A) → has_end_of_all (steps ++ closes_all a ∷ []) ≡ true
  has_end_of_all-closes_all [] a = refl
  has_end_of_all-closes_all (opens c ∷ steps) a = has_end_of_all-closes_all steps a
  has_end_of_all-closes_all (closes e ∷ steps) a = has_end_of_all-closes_all steps a
  has_end_of_all-closes_all (closes_all d ∷ steps) a = refl
  has_end_of_all-closes_all (other x ∷ steps) a = has_end_of_all-closes_all steps a

  unmatched-closes_all : (steps : List (Step B E A O)) (a : A) → unmatched (steps ++ closes_all a ∷ []) ≡ []
  unmatched-closes_all [] a = refl
  unmatched-closes_all (opens c ∷ steps) a = rw (has_end_of_all-closes_all steps a, unmatched-closes_all steps a) refl
  unmatched-closes_all (closes e ∷ steps) a = unmatched-closes_all steps a
  unmatched-closes_all (closes_all d ∷ steps) a = unmatched-closes_all steps a
  unmatched-closes_all (other x ∷ steps) a = unmatched-closes_all steps a

  is_match-is_settled : (steps : List (Step B E A O)) → has_end_of_all steps ≡ false → is_match steps ≡ is_settled (unmatched steps) (surplus steps)
  is_match-is_settled steps open_still =
      rw (opener-last_of steps, open_still) (settled (unmatched steps) (surplus steps) (begins steps) (ends steps) (begins-add-surplus steps open_still))
    where
      settled : (opened : List B) (n x y : ℕ) → x + n ≡ y + length opened → (is_none (last_of opened) && (x == y)) ≡ is_settled opened n
      settled [] zero x y h = eq-eqb x y (omega arith)
      settled [] (suc n) x y h = ne_eqb x y (λ same. omega arith)
      settled (o ∷ opened) n x y h = and_left _ _ (is_none-option_or (last_of opened) o)

  -- a begin before which these are open is ended by the later steps: by an end of all, or since more of them end than are open
  abbrev is_ended : List (Step B E A O) → List B → Bool
  is_ended later opened = has_end_of_all later || exceeds (surplus later) opened

  matched_at_end : (between later : List (Step B E A O)) (e : E) → has_end_of_all between ≡ false → surplus between ≡ 0 →
      (surplus (between ++ closes e ∷ []) ≡ 0 → is_matched_after (between ++ closes e ∷ []) later ≡ is_ended later (unmatched (between ++ closes e ∷ []))) →
      (is_match between || is_matched_after (between ++ closes e ∷ []) later) ≡ (has_end_of_all later || exceeds (suc (surplus later)) (unmatched between))
  matched_at_end between later e open_still none rest =
      rw (is_match-is_settled between open_still, none) (by_opened (unmatched between) refl)
    where
      by_opened : (opened : List B) → unmatched between ≡ opened → (is_settled opened 0 || is_matched_after (between ++ closes e ∷ []) later) ≡ (has_end_of_all later || exceeds (suc (surplus later)) opened)
      by_opened [] h = sym (or_true (has_end_of_all later))
      by_opened (o ∷ opened) h =
          let still_none = surplus-closes between e ∙ ap₂ after_end h none in
          let popped = unmatched-closes between e ∙ ap without_last h in
          rest still_none ∙ ap (is_ended later) popped ∙ ap (λ t. has_end_of_all later || t) (exceeds-without_last (surplus later) o opened)

  is_matched_after-is_ended : (between later : List (Step B E A O)) → has_end_of_all between ≡ false → surplus between ≡ 0 → is_matched_after between later ≡ is_ended later (unmatched between)
  is_matched_after-is_ended between [] open_still none = refl
  is_matched_after-is_ended between (opens b ∷ later) open_still none =
      is_matched_after-is_ended (between ++ opens b ∷ []) later (has_end_of_all-append between (opens b ∷ []) refl ∙ open_still) (surplus-opens between b ∙ none)
      ∙ ap (is_ended later) (unmatched-opens between b)
      ∙ by (has_end_of_all later)
    where
      by : (closed : Bool) → (closed || exceeds (surplus later) (unmatched between ++ b ∷ [])) ≡ (closed || exceeds (cond closed (surplus later) (pred (surplus later))) (unmatched between))
      by true = refl
      by false = exceeds-append (surplus later) (unmatched between) b
  is_matched_after-is_ended between (closes e ∷ later) open_still none =
      matched_at_end between later e open_still none
      (is_matched_after-is_ended (between ++ closes e ∷ []) later (has_end_of_all-append between (closes e ∷ []) refl ∙ open_still))
  is_matched_after-is_ended between (closes_all a ∷ later) open_still none = refl
  is_matched_after-is_ended between (other x ∷ later) open_still none =
      is_matched_after-is_ended (between ++ other x ∷ []) later (has_end_of_all-append between (other x ∷ []) refl ∙ open_still) (surplus-other between x ∙ none)
      ∙ ap (is_ended later) (unmatched-other between x)

  -- a begin is matched where the steps after it have an end of all, or an end that matches none of them
  is_matched_after-surplus : (later : List (Step B E A O)) → is_matched_after [] later ≡ (has_end_of_all later || is_positive (surplus later))
  is_matched_after-surplus later = is_matched_after-is_ended [] later refl refl ∙ ap (λ t. has_end_of_all later || t) (alone (surplus later))
    where
      alone : (n : ℕ) → exceeds {B = B} n [] ≡ is_positive n
      alone zero = refl
      alone (suc n) = refl

  open_of-unmatched : (steps : List (Step B E A O)) → open_of steps ≡ unmatched steps
  open_of-unmatched [] = refl
  open_of-unmatched (opens b ∷ later) =
      rw (is_matched_after-surplus later, open_of-unmatched later) (kept (has_end_of_all later) (surplus later))
    where
      kept : (closed : Bool) (n : ℕ) → cond (closed || is_positive n) (unmatched later) (b ∷ unmatched later) ≡ cond closed (unmatched later) (keep_unless b n (unmatched later))
      kept true n = refl
      kept false zero = refl
      kept false (suc n) = refl
  open_of-unmatched (closes e ∷ later) = open_of-unmatched later
  open_of-unmatched (closes_all a ∷ later) = open_of-unmatched later
  open_of-unmatched (other x ∷ later) = open_of-unmatched later

  -- the begin that an end matches is the last that is open
  pub opener-open_of : (steps : List (Step B E A O)) → opener steps ≡ last_of (open_of steps)
  opener-open_of steps = opener-last_of steps ∙ ap last_of (sym (open_of-unmatched steps))

  -- a begin is open after itself
  pub open_of-opens : (steps : List (Step B E A O)) (b : B) → open_of (steps ++ opens b ∷ []) ≡ open_of steps ++ b ∷ []
  open_of-opens steps b =
      open_of-unmatched (steps ++ opens b ∷ []) ∙ unmatched-opens steps b ∙ ap (λ l. l ++ b ∷ []) (sym (open_of-unmatched steps))

  -- an end takes the last open begin, if there is one
  pub open_of-closes : (steps : List (Step B E A O)) (e : E) → open_of (steps ++ closes e ∷ []) ≡ without_last (open_of steps)
  open_of-closes steps e =
      open_of-unmatched (steps ++ closes e ∷ []) ∙ unmatched-closes steps e ∙ ap without_last (sym (open_of-unmatched steps))

  -- nothing is open after an end of all
  pub open_of-closes_all : (steps : List (Step B E A O)) (a : A) → open_of (steps ++ closes_all a ∷ []) ≡ []
  open_of-closes_all steps a = open_of-unmatched (steps ++ closes_all a ∷ []) ∙ unmatched-closes_all steps a

  -- a step that is none of these changes nothing that is open
  pub open_of-other : (steps : List (Step B E A O)) (x : O) → open_of (steps ++ other x ∷ []) ≡ open_of steps
  open_of-other steps x =
      open_of-unmatched (steps ++ other x ∷ []) ∙ unmatched-other steps x ∙ sym (open_of-unmatched steps)
