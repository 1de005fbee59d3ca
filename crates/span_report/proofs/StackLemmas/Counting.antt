-- How a descent stands against the spans: what was visited and what is left, and that in the end all frames were visited.
use Rattle.std.specs.{List.{count_by, list_any}, Ordering.is_lt, Prelude.nat_lt, declared.cmp.Ordering.{Ordering, TheVariants.{Less, Equal, Greater}}}
use Rattle.std.proofs.{Common.{◌≡◌, ℕ, ◌+◌, ◌<◌, ◌≤◌, true, false, ◌&&◌, cond, List, [], ◌∷◌, ◌++◌, length, map, flat_map, take, get_or, refl, sym, ap, subst, ◌∙◌, arith, inl, inr, true≢false}, lemmas.{Bool.Decides.nat_tests, Cmp.tied_itself, List.Sums.fold_push}}
use Rattle.span_self_time.proofs.{Counts.count_from-none, Mapped.sum_by-map}
use Rattle.span_journal.proofs.Sorted.{AllByRecursion-map, ascending-sorted}
use Rattle.span_report.specs.{Bytes, distance, Span, earliest, latest, ascending, Stacks.{Bounds.{beginnings, frame_count, frames_of, names_in}, Descent.{IsReady, StartsWith, VisitsFrame, last_visited, left_of}, Framed.{AreAscending, Framed, folded_after, last_stack, stack_after}, Ticks.{Folded, Stack, folded, folded_stacks, has_frames, same_stack, stack_at, stack_order, stacks_of}}, declared.stacks.descent.Descent.Descent}
use Rattle.span_report.proofs.StackLemmas.{Beginnings.{any-has, has-beginning, list_any-flat_map}, Members.{Has, HasEach, HasEach-append, HasEach-cons, HasEach-none, StandOnce-sorted, any-index, has-at, length-le-each, or-either, same-true, sum_by-le-each}, Tallies.{list_any-ascending, sorted-same}, Times.{count_by-cons, count_by-stacks_of, stack_order-same, stack_order-total}, Visiting.{AreAscending-push, count-any, has-visited, length-visited_stacks, rows-folded, rows-timed, stacks-sorted, tally-any, tally-empty, tally-own, visited-begun, visited-sorted, visited_stacks, visited_stacks-push, visited_ticks, visited_ticks-push}}

-- how many ticks of the spans have the stack
abbrev pub count_of : List (Span Bytes) → Stack → ℕ
count_of spans stack = count_by (same_stack stack) (stacks_of spans)

-- these frames of the spans were visited, and the descent goes on behind them
pub record AreVisited (spans : List (Span Bytes)) (frames : List Framed) (descent : Descent) : Type 0 where
  pub ready : IsReady descent
  pub last : last_visited descent ≡ last_stack frames
  pub ascending : AreAscending [] frames
  pub times : (name : Bytes) (names : Stack) → visited_ticks frames (name ∷ names) + left_of descent (name ∷ names) ≡ count_of spans (name ∷ names)
  pub begun : HasEach (frames_of spans) (visited_stacks [] frames)

-- how many of the stacks are above one
abbrev pub above : Stack → List Stack → ℕ
above stack stacks = count_by (λ s. is_lt (stack_order stack s)) stacks

above-le : (low high : Stack) (stacks : List Stack) → stack_order low high ≡ Less → above high stacks ≤ above low stacks
above-le low high [] up = omega arith
above-le low high (x ∷ xs) up = omega (arith, above-le low high xs up, count_by-cons (λ s. is_lt (stack_order low s)) x xs, count_by-cons (λ s. is_lt (stack_order high s)) x xs, one (stack_order high x) refl)
  where
    one : (r : Ordering) → stack_order high x ≡ r → cond (is_lt (stack_order high x)) 1 0 ≤ cond (is_lt (stack_order low x)) 1 0
    one Less tie = rw (tie, stack_order-total.trans low high x up tie) (omega arith)
    one Equal tie = rw tie (omega arith)
    one Greater tie = rw tie (omega arith)

-- above one of them that is higher are fewer
above-less : (low high : Stack) (stacks : List Stack) → stack_order low high ≡ Less → Has stacks high → (new : Stack) → new ≡ high → above new stacks < above low stacks
above-less low high stacks up has new same = subst (λ (s : Stack). above s stacks < above low stacks) (sym same) (by stacks has)
  where
    by : (xs : List Stack) → Has xs high → above high xs < above low xs
    by [] has = absurd (true≢false (sym has))
    by (x ∷ xs) has = elim (or-either (same_stack high x) (list_any (same_stack high) xs) has) [
      | inl own ↦
          let is = same-true high x own in
          let lost = ap {B = ℕ} (λ o. cond (is_lt o) 1 0) (ap (stack_order high) (sym is) ∙ tied_itself stack_order-total high) in
          let had = ap {B = ℕ} (λ o. cond (is_lt o) 1 0) (ap (stack_order low) (sym is) ∙ up) in
          omega (arith, above-le low high xs up, count_by-cons (λ s. is_lt (stack_order low s)) x xs, count_by-cons (λ s. is_lt (stack_order high s)) x xs, lost, had)
      | inr later ↦
          let rest = by xs later in
          let one = above-le low high (x ∷ []) up in
          omega (arith, rest, one, count_by-cons (λ s. is_lt (stack_order low s)) x xs, count_by-cons (λ s. is_lt (stack_order high s)) x xs, count_by-cons (λ s. is_lt (stack_order low s)) x [], count_by-cons (λ s. is_lt (stack_order high s)) x [])
    ]

some-lt : (n : ℕ) → 0 < n → nat_lt 0 n ≡ true
some-lt n h = grind (arith, nat_tests)

lt-some : (n : ℕ) → nat_lt 0 n ≡ true → 0 < n
lt-some n h = grind (arith, nat_tests)

module _ (spans : List (Span Bytes)) where
  has-counted : (k : Stack) → 0 < count_of spans k → Has (stacks_of spans) k
  has-counted k some = sym (count-any k (stacks_of spans)) ∙ some-lt (count_of spans k) some

  count-empty : count_of spans [] ≡ 0
  count-empty = count_by-stacks_of (same_stack []) spans ∙ count_from-none (λ u. has_frames (stack_at spans u) && same_stack [] (stack_at spans u)) (earliest spans) (distance (earliest spans) (latest spans)) (λ u since before. never (stack_at spans u))
    where
      never : (s : Stack) → (has_frames s && same_stack [] s) ≡ false
      never [] = refl
      never (x ∷ xs) = refl

  -- what stacks of the spans begin with are frames of them
  has-frame : (k s : Stack) → Has (beginnings s) k → Has (stacks_of spans) s → Has (frames_of spans) k
  has-frame k s begins has =
      list_any-ascending stack_order-total stack_order-same (same_stack k) (flat_map beginnings (stacks_of spans))
      ∙ list_any-flat_map (same_stack k) beginnings (stacks_of spans)
      ∙ any-has (λ (t : Stack). list_any (same_stack k) (beginnings t)) s (stacks_of spans) has begins

  -- and each frame is what one of them begins with
  frame-begun : (k : Stack) → Has (frames_of spans) k → (s : Stack) × Has (beginnings s) k × Has (stacks_of spans) s
  frame-begun k has =
      let found = sym (list_any-ascending stack_order-total stack_order-same (same_stack k) (flat_map beginnings (stacks_of spans)) ∙ list_any-flat_map (same_stack k) beginnings (stacks_of spans)) ∙ has in
      let at = any-index (λ (s : Stack). list_any (same_stack k) (beginnings s)) (stacks_of spans) found in
      (get_or (stacks_of spans) at.0 [], at.2, has-at (stacks_of spans) at.0 at.1)

  -- nothing was visited yet
  pub AreVisited-none : (d : Descent) → IsReady d → StartsWith spans d → AreVisited spans [] d
  AreVisited-none d ready starts = record { ready = ready; last = starts.last; ascending = tt; times = λ name names. zero_add (starts.left name names); begun = HasEach-none (frames_of spans) }
    where
      zero_add : {m n : ℕ} → m ≡ n → 0 + m ≡ n
      zero_add same = omega (arith, same)

  module _ (frames : List Framed) (d : Descent) (is : AreVisited spans frames d) where
    -- a stack of which any is left is one of the spans
    left-counted : (start : Stack) (name : Bytes) (rest : Stack) → 0 < left_of d (start ++ name ∷ rest) → Has (stacks_of spans) (start ++ name ∷ rest)
    left-counted [] name rest some = has-counted (name ∷ rest) (omega (arith, some, is.times name rest))
    left-counted (x ∷ start) name rest some = has-counted (x ∷ (start ++ name ∷ rest)) (omega (arith, some, is.times x (start ++ name ∷ rest)))

    visited_ticks-le : (k : Stack) → visited_ticks frames k ≤ count_of spans k
    visited_ticks-le [] = omega (arith, tally-empty [] frames)
    visited_ticks-le (name ∷ names) = omega (arith, is.times name names)

    -- one more frame is visited
    module _ (new : Descent) (f : Framed) (visits : VisitsFrame d new f) where
      own-frame : Has (frames_of spans) (stack_after (last_visited d) f)
      own-frame =
          let start = take f.below (last_visited d) in
          has-frame (start ++ f.name ∷ []) (start ++ f.name ∷ visits.begun.0) (has-beginning start f.name visits.begun.0) (left-counted start f.name visits.begun.0 visits.begun.1)

      next-stack : stack_after (last_visited d) f ≡ stack_after (last_stack frames) f
      next-stack = ap (λ (l : Stack). stack_after l f) is.last

      pub AreVisited-next : IsReady new → AreVisited spans (frames ++ f ∷ []) new
      AreVisited-next ready = record {
        ready = ready;
        last = visits.last ∙ next-stack ∙ sym (fold_push stack_after [] frames f);
        ascending = AreAscending-push [] frames f is.ascending (subst (λ (l : Stack). f.below ≤ length l) is.last visits.within) (subst (λ (l : Stack). stack_order l (stack_after l f) ≡ Less) is.last visits.above);
        times = λ name names.
            let own = ap (λ (s : Stack). cond (same_stack (name ∷ names) s) f.time 0) next-stack in
            omega (arith, is.times name names, visits.left (name ∷ names), visited_ticks-push frames f (name ∷ names), own);
        begun = subst (HasEach (frames_of spans)) (sym (visited_stacks-push [] frames f))
            (HasEach-append (frames_of spans) (visited_stacks [] frames) (stack_after (last_stack frames) f ∷ []) is.begun
            (HasEach-cons (frames_of spans) (stack_after (last_stack frames) f) [] (subst (Has (frames_of spans)) next-stack own-frame) (HasEach-none (frames_of spans))));
      }

      -- fewer frames are above it then
      pub above-next : above (last_visited new) (frames_of spans) < above (last_visited d) (frames_of spans)
      above-next = above-less (last_visited d) (stack_after (last_visited d) f) (frames_of spans) visits.above own-frame (last_visited new) visits.last

    -- frames that were visited are no more than there are
    pub visited-fewer : length frames ≤ frame_count spans
    visited-fewer =
        let fewer = length-le-each (visited_stacks [] frames) (frames_of spans) (StandOnce-sorted (visited_stacks [] frames) (visited-sorted [] frames is.ascending)) is.begun in
        omega (arith, fewer, length-visited_stacks [] frames)

    -- and their names no more than those of all stacks
    pub visited-names : names_in (folded_after [] frames) ≤ names_in (folded_stacks spans)
    visited-names =
        let stacks = stacks_of spans in
        let rows = folded_after [] frames in
        let keys = ascending stack_order stacks in
        let each = λ (k : Stack) (has : Has (map (λ (f : Folded). f.stack) rows) k).
        let some : 0 < visited_ticks frames k = lt-some (visited_ticks frames k) (sym (tally-any rows k (rows-timed [] frames)) ∙ has) in
        list_any-ascending stack_order-total stack_order-same (same_stack k) stacks ∙ has-counted k (omega (arith, some, visited_ticks-le k)) in
        let le = sum_by-le-each (λ (s : Stack). length s) (map (λ (f : Folded). f.stack) rows) keys (StandOnce-sorted (map (λ (f : Folded). f.stack) rows) (stacks-sorted [] frames is.ascending)) each in
        omega (arith, le, sum_by-map (λ (s : Stack). length s) (λ (f : Folded). f.stack) rows, sum_by-map (λ (f : Folded). length f.stack) (folded stacks) keys)

    -- in the end all were visited
    module _ (none : (stack : Stack) → left_of d stack ≡ 0) where
      visited_ticks-all : (k : Stack) → visited_ticks frames k ≡ count_of spans k
      visited_ticks-all [] = tally-empty [] frames ∙ sym count-empty
      visited_ticks-all (name ∷ names) = omega (arith, is.times name names, none (name ∷ names))

      pub folded-all : folded_after [] frames ≡ folded_stacks spans
      folded-all =
          let stacks = stacks_of spans in
          let rows = folded_after [] frames in
          let sorted = stacks-sorted [] frames is.ascending in
          let member = λ (k : Stack). tally-any rows k (rows-timed [] frames) ∙ ap (nat_lt 0) (visited_ticks-all k) ∙ count-any k stacks ∙ sym (list_any-ascending stack_order-total stack_order-same (same_stack k) stacks) in
          let keys : map (λ (f : Folded). f.stack) rows ≡ ascending stack_order stacks = sorted-same stack_order-total stack_order-same (map (λ (f : Folded). f.stack) rows) (ascending stack_order stacks) sorted (ascending-sorted stack_order-total stacks) member in
          let counted = AllByRecursion-map (λ (f : Folded). f.time ≡ visited_ticks frames f.stack) (λ (f : Folded). f.time ≡ count_of spans f.stack) (λ (f : Folded) (timed : f.time ≡ visited_ticks frames f.stack). timed ∙ visited_ticks-all f.stack) rows (tally-own rows sorted) in
          rows-folded stacks rows counted ∙ ap (map (folded stacks)) keys

      pub count-all : length frames ≡ frame_count spans
      count-all =
          let more = length-le-each (frames_of spans) (visited_stacks [] frames) (StandOnce-sorted (frames_of spans) (ascending-sorted stack_order-total (flat_map beginnings (stacks_of spans)))) each in
          omega (arith, more, visited-fewer, length-visited_stacks [] frames)
        where
          each : HasEach (visited_stacks [] frames) (frames_of spans)
          each k has =
              let begun = frame-begun k has in
              let rows = folded_after [] frames in
              let row : Has (map (λ (f : Folded). f.stack) rows) begun.0 = tally-any rows begun.0 (rows-timed [] frames) ∙ ap (nat_lt 0) (visited_ticks-all begun.0) ∙ count-any begun.0 (stacks_of spans) ∙ begun.2 in
              visited-begun [] [] frames (HasEach-none []) begun.0 (has-visited [] frames begun.0 row) k begun.1
