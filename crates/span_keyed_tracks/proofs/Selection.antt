-- What events give a key, a process or a thread is what those of them give that have to do with it.
use Rattle.std.specs.{Option.{option_cmp, option_map}, Ordering.{int_cmp, int_eq, is_eq, ordering_then}, Prelude.{filter, filter_map}, declared.cmp.Ordering.{Ordering, TheVariants.{Less, Equal, Greater}}}
use Rattle.std.proofs.{Common.{◌≡◌, ℤ, List, Bool, true, false, cond, codes, map, Option, Some, None, refl, sym, ap, subst, ◌∙◌}, lemmas.Option.same_Some}
use Rattle.span_keyed_tracks.specs.{Event, Reach, Thread, thread_cmp, same_text, thread_of, Counters.{series_rows, series_rows_of}, Instants.{InstantStep, instant_of, instant_rows_of, is_instant, names_counted, rows_of_thread}, Keyed.{Keyed, steps_at}, Meta.{Holder, Setting, holder_cmp, is_meta, names_in, names_of, set_name, set_labels, set_sort_index, setting_of, text_at, whole_at}}
use Rattle.span_keyed_tracks.proofs.Lists.Filters.{filter-filter, filter-filter_map}

module _ {K A : Type 0} (cmp : K → K → Ordering) (key : K) where
  -- the same of steps that selected elements give
  pub steps_at-filter_map : {E : Type 0} (h : E → Option (Keyed K A)) (p : E → Bool) → ((x : E) (e : Keyed K A) → h x ≡ Some e → is_eq (cmp e.key key) ≡ true → p x ≡ true) → (xs : List E) → steps_at cmp key (filter_map h (filter p xs)) ≡ steps_at cmp key (filter_map h xs)
  steps_at-filter_map h p own xs = ap (map (λ (e : Keyed K A). e.step)) (filter-filter_map h p (λ e. is_eq (cmp e.key key)) own xs)

-- of two orders in turn the first decides first
is_eq-first : (r s : Ordering) → is_eq (ordering_then r s) ≡ true → is_eq r ≡ true
is_eq-first Less s h = h
is_eq-first Equal s h = refl
is_eq-first Greater s h = h

-- what an event gives by a test
given_by : {A : Type 0} (b : Bool) (o : Option A) (x : A) → cond b o None ≡ Some x → o ≡ Some x
given_by true o x given = given
given_by false o x given = absurd cc

-- what is set is of this process, or of a thread of it
abbrev IsOfProcess : ℤ → Option (Keyed Holder Setting) → Type 0
IsOfProcess pid None = Unit {0}
IsOfProcess pid (Some s) = s.key.0 ≡ pid

module _ (pid : ℤ) where
  either_of_process : (b : Bool) (x y : Option (Keyed Holder Setting)) → IsOfProcess pid x → IsOfProcess pid y → IsOfProcess pid (cond b x y)
  either_of_process true x y here there = here
  either_of_process false x y here there = there

  set_of_process : {A : Type 0} (tid : Option ℤ) (set : A → Setting) (o : Option A) → IsOfProcess pid (option_map (λ w. record { key = (pid, tid); step = set w }) o)
  set_of_process tid set None = tt
  set_of_process tid set (Some w) = refl

-- an event sets something of its own process, or of a thread of it
IsOfProcess-setting_of : (e : Event) → IsOfProcess e.pid (setting_of e)
IsOfProcess-setting_of e =
    let name = λ (tid : Option ℤ). set_of_process e.pid tid set_name (text_at (codes "name") e) in
    let labels = λ (tid : Option ℤ). set_of_process e.pid tid set_labels (text_at (codes "labels") e) in
    let sort = λ (tid : Option ℤ). set_of_process e.pid tid set_sort_index (whole_at (codes "sort_index") e) in
    either_of_process e.pid (same_text e.name (codes "thread_name")) _ _ (name (Some e.tid))
    (either_of_process e.pid (same_text e.name (codes "thread_sort_index")) _ _ (sort (Some e.tid))
    (either_of_process e.pid (same_text e.name (codes "process_name")) _ _ (name None)
    (either_of_process e.pid (same_text e.name (codes "process_labels")) _ _ (labels None)
    (either_of_process e.pid (same_text e.name (codes "process_sort_index")) _ _ (sort None) tt))))

-- an instant is one of the event's thread
key-instant_of : (e : Event) (s : InstantStep) → instant_of e ≡ Some s → s.key ≡ thread_of e
key-instant_of e s given = by e.reach given
  where
    by : (reach : Option Reach) → option_map (λ r. record { key = thread_of e; step = record { key = e.name; step = r } }) reach ≡ Some s → s.key ≡ thread_of e
    by None given = absurd cc
    by (Some r) given = ap (λ (x : InstantStep). x.key) (sym (same_Some (record { key = thread_of e; step = record { key = e.name; step = r } }) s given))

module _ (p : Event → Bool) where
  -- the names of a process or thread are those that the events of its process give
  pub names_in-filter : (holder : Holder) → ((e : Event) → int_eq e.pid holder.0 ≡ true → p e ≡ true) → (es : List Event) → names_in (filter p es) holder ≡ names_in es holder
  names_in-filter holder own es =
      ap names_of (steps_at-filter_map holder_cmp holder (λ e. cond (is_meta e.phase) (setting_of e) None) p
      (λ (e : Event) (s : Keyed Holder Setting) given (h : is_eq (holder_cmp s.key holder) ≡ true).
      let of_process : s.key.0 ≡ e.pid = subst (IsOfProcess e.pid) (given_by (is_meta e.phase) (setting_of e) s given) (IsOfProcess-setting_of e) in
      own e (ap (λ pid. int_eq pid holder.0) (sym of_process) ∙ is_eq-first (int_cmp s.key.0 holder.0) (option_cmp int_cmp s.key.1 holder.1) h)) es)

  -- the instants of a thread are those among the events of its process
  pub instant_rows_of-filter : (thread : Thread) → ((e : Event) → int_eq e.pid thread.pid ≡ true → p e ≡ true) → (es : List Event) → instant_rows_of thread (filter p es) ≡ instant_rows_of thread es
  instant_rows_of-filter thread own es =
      ap (λ steps. rows_of_thread (thread, names_counted steps)) (steps_at-filter_map thread_cmp thread (λ e. cond (is_instant e.phase) (instant_of e) None) p
      (λ (e : Event) (s : InstantStep) given (h : is_eq (thread_cmp s.key thread) ≡ true).
      let of_thread = key-instant_of e s (given_by (is_instant e.phase) (instant_of e) s given) in
      own e (is_eq-first (int_cmp e.pid thread.pid) (int_cmp e.tid thread.tid) (ap (λ t. is_eq (thread_cmp t thread)) (sym of_thread) ∙ h))) es)

  -- the series of a process are those of its events
  pub series_rows_of-filter : (pid : ℤ) → ((e : Event) → int_eq e.pid pid ≡ true → p e ≡ true) → (es : List Event) → series_rows_of pid (filter p es) ≡ series_rows_of pid es
  series_rows_of-filter pid own es = ap series_rows (filter-filter (λ e. int_eq e.pid pid) p own es)
