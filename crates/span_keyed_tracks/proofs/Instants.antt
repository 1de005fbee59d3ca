-- What is kept of instants, from one instant to the next.
use Rattle.std.specs.{BTreeMap.insert_entry, Cmp.{tied_itself, Lexicographic.{nat_list_eq_equiv, texts_ties}}, List.{cons_option, Sorted.IsStrictlySortedBy}, Map.keys_of, Ordering.{is_eq, match_ordering}, Prelude.{flat_map, unwrap_or}}
use Rattle.std.proofs.{Common.{◌≡◌, ◌+◌, ◌≤◌, ◌<◌, ◌^◌, ◌-◌, List, [], ◌∷◌, ◌++◌, length, cond, true, false, Option, Some, None, refl, sym, ap, subst, ◌∙◌, arith, append-nil, append_assoc}, lemmas.{Cmp.nat_list_cmp_total, Grind.flat_map-append, List.{Elements.filter_map-append, Sums.{sum_by-append, count_by-le-length}}}}
use Rattle.span_event.specs.declared.event.{Phase.TheVariants.Meta, Reach.TheVariants.Thread as OneThread}
use Rattle.span_event.proofs.Orders.{text_same, thread_cmp-same}
pub use Rattle.span_event.proofs.Orders.{thread_cmp-total}
use Rattle.span_keyed_tracks.specs.{Event, Instant, Reach, Global, Process, Thread, reach_cmp, thread_cmp, Bytes, same_text, text_cmp, Instants.{InstantStep, NamesCounted, InstantsKept, ReachCounts, TakesName, HasNameRoom, HasInstantRoom, names_counted, instants_counted, instant_of, instants_in, is_instant, instants_of, count_of, counts_of}, InstantsKept.{count_at, with_reach}, Keyed.{kept_at, steps_at}}
use Rattle.span_keyed_tracks.proofs.Keyed.{entries_in-insert_entry, kept_at-entries_in, length-steps_at}

count_of-push : (reach : Reach) (rs : List Reach) (r : Reach) → count_of reach (rs ++ r ∷ []) ≡ count_of reach rs + cond (is_eq (reach_cmp r reach)) 1 0
count_of-push reach rs r = omega (arith, sum_by-append (λ (x : Reach). cond (is_eq (reach_cmp x reach)) 1 0) rs (r ∷ []))

-- the counts, once there is one more instant
pub counts_of-push : (rs : List Reach) (r : Reach) → counts_of (rs ++ r ∷ []) ≡ with_reach (counts_of rs) r
counts_of-push rs Global =
    let global : count_of Global (rs ++ Global ∷ []) ≡ count_of Global rs + 1 = count_of-push Global rs Global in
    let process : count_of Process (rs ++ Global ∷ []) ≡ count_of Process rs = omega (arith, count_of-push Process rs Global) in
    let thread : count_of OneThread (rs ++ Global ∷ []) ≡ count_of OneThread rs = omega (arith, count_of-push OneThread rs Global) in
    λ i. record { global = global i; process = process i; thread = thread i }
counts_of-push rs Process =
    let global : count_of Global (rs ++ Process ∷ []) ≡ count_of Global rs = omega (arith, count_of-push Global rs Process) in
    let process : count_of Process (rs ++ Process ∷ []) ≡ count_of Process rs + 1 = count_of-push Process rs Process in
    let thread : count_of OneThread (rs ++ Process ∷ []) ≡ count_of OneThread rs = omega (arith, count_of-push OneThread rs Process) in
    λ i. record { global = global i; process = process i; thread = thread i }
counts_of-push rs OneThread =
    let global : count_of Global (rs ++ OneThread ∷ []) ≡ count_of Global rs = omega (arith, count_of-push Global rs OneThread) in
    let process : count_of Process (rs ++ OneThread ∷ []) ≡ count_of Process rs = omega (arith, count_of-push Process rs OneThread) in
    let thread : count_of OneThread (rs ++ OneThread ∷ []) ≡ count_of OneThread rs + 1 = count_of-push OneThread rs OneThread in
    λ i. record { global = global i; process = process i; thread = thread i }

pub count_at-counts_of : (reach : Reach) (rs : List Reach) → count_at reach (counts_of rs) ≡ count_of reach rs
count_at-counts_of Global rs = refl
count_at-counts_of Process rs = refl
count_at-counts_of OneThread rs = refl

-- there is room for the number of one more instant of each reach
pub few_reaches : (kept : NamesCounted) (name : Bytes) (reach : Reach) → HasNameRoom kept → count_at reach (kept_at text_cmp (counts_of []) kept name) < 2 ^ 32 - 1
few_reaches kept name reach room =
    let rs = steps_at text_cmp name room.steps in
    let found : count_at reach (kept_at text_cmp (counts_of []) kept name) ≡ count_of reach rs =
    ap (λ k. count_at reach (kept_at text_cmp (counts_of []) k name)) room.stands
    ∙ ap (count_at reach) (kept_at-entries_in nat_list_cmp_total text_same counts_of room.steps name)
    ∙ count_at-counts_of reach rs in
    omega (arith, found, count_by-le-length (λ r. is_eq (reach_cmp r reach)) rs, length-steps_at text_cmp name room.steps, room.few)

-- one more instant of a name
pub TakesName-inserted : (kept : NamesCounted) (name : Bytes) (reach : Reach) → IsStrictlySortedBy text_cmp (keys_of kept) → TakesName kept (insert_entry text_cmp kept name (with_reach (kept_at text_cmp (counts_of []) kept name) reach)) (record { key = name; step = reach })
TakesName-inserted kept name reach sorted = λ ss stands.
    let counts = ap (λ k. kept_at text_cmp (counts_of []) k name) stands ∙ kept_at-entries_in nat_list_cmp_total text_same counts_of ss name in
    entries_in-insert_entry nat_list_cmp_total text_same counts_of ss (record { key = name; step = reach }) kept _ stands sorted
    (ap (λ c. with_reach c reach) counts ∙ sym (counts_of-push (steps_at text_cmp name ss) reach))

-- the same of the first name
pub TakesName-first : (name : Bytes) (reach : Reach) → TakesName [] ((name, with_reach (counts_of []) reach) ∷ []) (record { key = name; step = reach })
unfolding IsStrictlySortedBy
TakesName-first name reach = TakesName-inserted [] name reach tt

-- what is kept at a name, where there is only one
pub kept_at-only : (only name : Bytes) (counts none : ReachCounts) → kept_at text_cmp none ((only, counts) ∷ []) name ≡ cond (same_text only name) counts none
kept_at-only only name counts none =
    ap (λ b. unwrap_or (cond b (Some counts) None) none) (sym (texts_ties name only) ∙ nat_list_eq_equiv.symm name only)
    ∙ elim (same_text only name) as (λ b. unwrap_or (cond b (Some counts) None) none ≡ cond b counts none) [ true ↦ refl | false ↦ refl ]

-- one more of the only name
pub TakesName-only : (name : Bytes) (counts : ReachCounts) (reach : Reach) → TakesName ((name, counts) ∷ []) ((name, with_reach counts reach) ∷ []) (record { key = name; step = reach })
unfolding IsStrictlySortedBy
TakesName-only name counts reach =
    let same = tied_itself nat_list_cmp_total name in
    subst (λ r. TakesName ((name, counts) ∷ []) (match_ordering r ((name, with_reach (unwrap_or (cond (is_eq r) (Some counts) None) (counts_of [])) reach) ∷ (name, counts) ∷ []) ((name, with_reach (unwrap_or (cond (is_eq r) (Some counts) None) (counts_of [])) reach) ∷ []) ((name, counts) ∷ (name, with_reach (unwrap_or (cond (is_eq r) (Some counts) None) (counts_of [])) reach) ∷ [])) (record { key = name; step = reach }))
    same (TakesName-inserted ((name, counts) ∷ []) name reach (tt, tt))

-- a thread has room where all have
pub few_names : (kept : InstantsKept) (thread : Thread) → HasInstantRoom kept → HasNameRoom (kept_at thread_cmp [] kept thread)
few_names kept thread room = record {
  steps = steps_at thread_cmp thread room.steps;
  stands = ap (λ k. kept_at thread_cmp [] k thread) room.stands ∙ kept_at-entries_in thread_cmp-total thread_cmp-same names_counted room.steps thread;
  few = omega (arith, length-steps_at thread_cmp thread room.steps, room.few);
}

length-instants_in : (es : List Event) → length (instants_in es) ≤ length es
length-instants_in [] = omega arith
length-instants_in (e ∷ es) = by (cond (is_instant e.phase) (instant_of e) None) (length-instants_in es)
  where
    by : (o : Option InstantStep) → length (instants_in es) ≤ length es → length (cons_option o (instants_in es)) ≤ length (e ∷ es)
    by None rest = omega (arith, rest)
    by (Some s) rest = omega (arith, rest)

-- few events have few instants
pub few_instants : (kept : InstantsKept) (es : List Event) → kept ≡ instants_counted (instants_in es) → length es ≤ 2 ^ 32 - 2 → HasInstantRoom kept
few_instants kept es stands few = record { steps = instants_in es; stands = stands; few = omega (arith, length-instants_in es, few) }

-- the count at a thread, a name and a reach is that of the instants
pub count_at-instants_of : (kept : InstantsKept) (es : List Event) (thread : Thread) (name : Bytes) (reach : Reach) → kept ≡ instants_counted (instants_in es) →
    count_at reach (kept_at text_cmp (counts_of []) (kept_at thread_cmp [] kept thread) name) ≡ instants_of es thread name reach
count_at-instants_of kept es thread name reach stands =
    ap (λ k. count_at reach (kept_at text_cmp (counts_of []) k name))
    (ap (λ k. kept_at thread_cmp [] k thread) stands ∙ kept_at-entries_in thread_cmp-total thread_cmp-same names_counted (instants_in es) thread)
    ∙ ap (count_at reach) (kept_at-entries_in nat_list_cmp_total text_same counts_of (steps_at thread_cmp thread (instants_in es)) name)
    ∙ count_at-counts_of reach (steps_at text_cmp name (steps_at thread_cmp thread (instants_in es)))

-- the instants, once there is one more event
pub instants_in-push : (es : List Event) (event : Event) → instants_in (es ++ event ∷ []) ≡ instants_in es ++ cons_option (cond (is_instant event.phase) (instant_of event) None) []
instants_in-push es event = filter_map-append (λ (e : Event). cond (is_instant e.phase) (instant_of e) None) es (event ∷ [])

-- a metadata event is none
pub instants_in-meta : (es : List Event) (event : Event) → event.phase ≡ Meta → instants_in (es ++ event ∷ []) ≡ instants_in es
instants_in-meta es event phase = instants_in-push es event ∙ ap (λ p. instants_in es ++ cons_option (cond (is_instant p) (instant_of event) None) []) phase ∙ append-nil (instants_in es)

-- an instant comes last
pub instants_in-instant : (es : List Event) (event : Event) (step : InstantStep) → event.phase ≡ Instant → instant_of event ≡ Some step → instants_in (es ++ event ∷ []) ≡ instants_in es ++ step ∷ []
instants_in-instant es event step phase is =
    instants_in-push es event
    ∙ ap (λ p. instants_in es ++ cons_option (cond (is_instant p) (instant_of event) None) []) phase
    ∙ ap (λ o. instants_in es ++ cons_option o []) is

-- what one more element gives comes last
pub flat_map-push : {A B : Type 0} (f : A → List B) (before : List B) (xs : List A) (x : A) → (before ++ flat_map f xs) ++ f x ≡ before ++ flat_map f (xs ++ x ∷ [])
flat_map-push f before xs x =
    append_assoc before (flat_map f xs) (f x) ∙ ap (λ l. before ++ l) (sym (flat_map-append f xs (x ∷ []) ∙ ap (λ l. flat_map f xs ++ l) (append-nil (f x))))
