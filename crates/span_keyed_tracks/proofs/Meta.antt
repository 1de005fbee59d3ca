-- What is kept of the names of a process or thread: from one setting to the next, and after all.
use Rattle.std.specs.{BTreeMap.is_at, Cmp.{IsTotalOrder, Lexicographic.options_total}, FinMap.int_cmp-IsAntisymmetric, List.cons_option, Map.lookup, Option.{option_cmp, option_map}, Ordering.int_cmp, Prelude.filter_map}
use Rattle.std.proofs.{Common.{◌≡◌, ℤ, List, [], ◌∷◌, ◌++◌, Bool, true, false, cond, is_some, codes, Option, Some, None, option_and_then, Equal, refl, sym, ap, ◌∙◌, append-nil}, lemmas.{Cmp.{then_total, on_total, int_cmp_total}, List.Elements.filter_map-append}}
use Rattle.span_event.specs.declared.event.Phase.TheVariants.{Meta}
use Rattle.span_event.proofs.Orders.{both_equal, option_same}
use Rattle.span_keyed_tracks.specs.{Event, Instant, same_text, Keyed.{Keyed, entries_in}, Last.last_of, Meta.{Holder, holder_cmp, MetaKept, MetaStandsFor, Names, NamesKept, Setting, set_name, set_labels, set_sort_index, names_in, names_of, as_name, as_labels, as_sort_index, text_at, whole_at, name_setting, labels_setting, sort_setting, setting_of, settings_in, is_meta}, MetaKept.with_setting}
use Rattle.span_keyed_tracks.proofs.{Keyed.{lookup-entries_in, steps_at-absent}, Lists.Last.last_of-append}

-- the order of processes and threads is total
pub holder_cmp-total : IsTotalOrder holder_cmp
holder_cmp-total = then_total (on_total (λ h. h.0) int_cmp_total) (on_total (λ h. h.1) (options_total int_cmp_total))

-- those that it doesn't distinguish are the same
pub holder_cmp-same : (a b : Holder) → holder_cmp a b ≡ Equal → a ≡ b
holder_cmp-same a b e =
    let parts = both_equal (int_cmp a.0 b.0) (option_cmp int_cmp a.1 b.1) e in
    let pid = int_cmp-IsAntisymmetric a.0 b.0 parts.0 in
    let tid = option_same int_cmp-IsAntisymmetric a.1 b.1 parts.1 in
    λ i. (pid i, tid i)

module _ {A B : Type 0} (f : A → Option B) (xs : List A) (x : A) where
  last-none : f x ≡ None → last_of (filter_map f (xs ++ x ∷ [])) ≡ last_of (filter_map f xs)
  last-none none = ap last_of (filter_map-append f xs (x ∷ []) ∙ ap (λ o. filter_map f xs ++ cons_option o []) none ∙ append-nil (filter_map f xs))

  last-some : (y : B) → f x ≡ Some y → last_of (filter_map f (xs ++ x ∷ [])) ≡ Some y
  last-some y some = ap last_of (filter_map-append f xs (x ∷ []) ∙ ap (λ o. filter_map f xs ++ cons_option o []) some) ∙ last_of-append (filter_map f xs) y

-- the last setting holds
pub names_of-push : (settings : List Setting) (s : Setting) → names_of (settings ++ s ∷ []) ≡ with_setting (names_of settings) s
names_of-push ss (set_name w) =
    let name = last-some as_name ss (set_name w) w refl in
    let labels = last-none as_labels ss (set_name w) refl in
    let sort_index = last-none as_sort_index ss (set_name w) refl in
    λ i. record { name = name i; labels = labels i; sort_index = sort_index i }
names_of-push ss (set_labels w) =
    let name = last-none as_name ss (set_labels w) refl in
    let labels = last-some as_labels ss (set_labels w) w refl in
    let sort_index = last-none as_sort_index ss (set_labels w) refl in
    λ i. record { name = name i; labels = labels i; sort_index = sort_index i }
names_of-push ss (set_sort_index n) =
    let name = last-none as_name ss (set_sort_index n) refl in
    let labels = last-none as_labels ss (set_sort_index n) refl in
    let sort_index = last-some as_sort_index ss (set_sort_index n) n refl in
    λ i. record { name = name i; labels = labels i; sort_index = sort_index i }

-- what is set is of a thread
abbrev pub is_of_thread : Option (Keyed Holder Setting) → Bool
is_of_thread s = is_some (option_and_then (λ (k : Keyed Holder Setting). k.key.1) s)

pick : (b : Bool) (x y : Option (Keyed Holder Setting)) → is_of_thread x ≡ false → is_of_thread y ≡ false → is_of_thread (cond b x y) ≡ false
pick true x y p q = p
pick false x y p q = q

of_process : {A : Type 0} (pid : ℤ) (f : A → Setting) (o : Option A) → is_of_thread (option_map (λ w. record { key = (pid, None); step = f w }) o) ≡ false
of_process pid f None = refl
of_process pid f (Some w) = refl

-- what a metadata event sets of its process, if it has an effect
abbrev process_setting : Event → Option (Keyed Holder Setting)
process_setting event =
    cond (same_text event.name (codes "process_name")) (name_setting event None)
    (cond (same_text event.name (codes "process_labels")) (labels_setting event None) (cond (same_text event.name (codes "process_sort_index")) (sort_setting event None) None))

-- an event that names no thread by its own name sets nothing of one
pub is_of_thread-other : (event : Event) → same_text event.name (codes "thread_name") ≡ false → same_text event.name (codes "thread_sort_index") ≡ false → is_of_thread (setting_of event) ≡ false
is_of_thread-other event name sort =
    ap (λ b. is_of_thread (cond b (name_setting event (Some event.tid)) (cond (same_text event.name (codes "thread_sort_index")) (sort_setting event (Some event.tid)) (process_setting event)))) name
    ∙ ap (λ b. is_of_thread (cond b (sort_setting event (Some event.tid)) (process_setting event))) sort
    ∙ pick (same_text event.name (codes "process_name")) (name_setting event None) _ (of_process event.pid set_name (text_at (codes "name") event))
    (pick (same_text event.name (codes "process_labels")) (labels_setting event None) _ (of_process event.pid set_labels (text_at (codes "labels") event))
    (pick (same_text event.name (codes "process_sort_index")) (sort_setting event None) None (of_process event.pid set_sort_index (whole_at (codes "sort_index") event)) refl))

-- what the events set, once there is one more metadata event
pub settings_in-push : (es : List Event) (event : Event) → event.phase ≡ Meta → settings_in (es ++ event ∷ []) ≡ settings_in es ++ cons_option (setting_of event) []
settings_in-push es event phase =
    filter_map-append (λ (e : Event). cond (is_meta e.phase) (setting_of e) None) es (event ∷ [])
    ∙ ap (λ p. settings_in es ++ cons_option (cond (is_meta p) (setting_of event) None) []) phase

-- an instant sets nothing
pub settings_in-instant : (es : List Event) (event : Event) → event.phase ≡ Instant → settings_in (es ++ event ∷ []) ≡ settings_in es
settings_in-instant es event phase =
    filter_map-append (λ (e : Event). cond (is_meta e.phase) (setting_of e) None) es (event ∷ [])
    ∙ ap (λ p. settings_in es ++ cons_option (cond (is_meta p) (setting_of event) None) []) phase
    ∙ append-nil (settings_in es)

module _ (track : MetaKept) (kept : NamesKept) (es : List Event) (holder key : Holder) (view : kept ≡ track.names) (stands : MetaStandsFor track es) (same : key ≡ holder) where
  lookup-kept : lookup (is_at (holder_cmp holder)) (entries_in holder_cmp names_of (settings_in es)) ≡ lookup (is_at (holder_cmp key)) kept
  lookup-kept = ap (lookup (is_at (holder_cmp holder))) (sym (view ∙ stands.names)) ∙ ap (λ h. lookup (is_at (holder_cmp h)) kept) (sym same)

  -- the names that are kept of a process or thread are those that the events give
  pub names_in-kept : (names : Names) → Some names ≡ lookup (is_at (holder_cmp key)) kept → names ≡ names_in es holder
  names_in-kept names found = lookup-entries_in holder_cmp-total holder_cmp-same names_of (settings_in es) holder names (lookup-kept ∙ sym found)

  -- where none are kept, the events give none
  pub names_in-none : None ≡ lookup (is_at (holder_cmp key)) kept → names_of [] ≡ names_in es holder
  names_in-none none = sym (ap names_of (steps_at-absent holder_cmp-total holder_cmp-same names_of (settings_in es) holder (lookup-kept ∙ sym none)))
