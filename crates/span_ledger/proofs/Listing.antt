-- What is listed: the process of each listed thread is.
use Rattle.std.specs.{BTreeSet.insert_key, Cmp.{int_cmp_total, signed_Decides}, List.{list_all, list_any}, Ordering.{int_cmp, int_eq, is_eq}, declared.cmp.Ordering.TheVariants.Equal}
use Rattle.std.proofs.Common.{◌≡◌, ℤ, List, [], ◌∷◌, ◌++◌, Bool, true, false, ◌||◌, cond, refl, sym, ap, ◌∙◌}
use Rattle.indexmap.specs.IndexSet.{insert_key as add_key}
use Rattle.span_event.proofs.Orders.{thread_cmp-same, thread_cmp-total}
use Rattle.span_keyed_tracks.proofs.{Ascending.ascending-add_key, Keyed.same_from_is_eq, Matching.Closed.{both_true, and_true}}
use Rattle.span_ledger.specs.{Thread, thread_cmp, same_thread, ascending}
use Rattle.span_ledger.proofs.Threads.{same_thread-cmp}

-- a process added to those listed, in ascending order
pub ascending-process : (processes : List ℤ) (pid : ℤ) → ascending int_cmp (add_key int_eq processes pid) ≡ insert_key int_cmp (ascending int_cmp processes) pid
ascending-process = ascending-add_key int_cmp_total (λ a b e. (signed_Decides a b).0 (ap is_eq e)) int_eq (λ a b e. (signed_Decides a b).0 e)

same_thread-same : (a b : Thread) → same_thread a b ≡ true → a ≡ b
same_thread-same a b e = same_from_is_eq thread_cmp-total thread_cmp-same a b (sym (same_thread-cmp a b) ∙ e)

-- a thread added to those listed, in ascending order
pub ascending-thread : (threads : List Thread) (thread : Thread) → ascending thread_cmp (add_key same_thread threads thread) ≡ insert_key thread_cmp (ascending thread_cmp threads) thread
ascending-thread = ascending-add_key thread_cmp-total (λ (a : Thread) (b : Thread) (e : thread_cmp a b ≡ Equal). thread_cmp-same a b e) same_thread same_thread-same

list_any-before : {A : Type 0} (p : A → Bool) (xs ys : List A) → list_any p xs ≡ true → list_any p (xs ++ ys) ≡ true
list_any-before p [] ys h = cc
list_any-before p (x ∷ xs) ys h =
    (elim (p x) as (λ b. (b || list_any p xs) ≡ true → (b || list_any p (xs ++ ys)) ≡ true) [ true ↦ (λ h. refl) | false ↦ (λ h. list_any-before p xs ys h) ]) h

list_any-last : {A : Type 0} (p : A → Bool) (xs : List A) (x : A) → p x ≡ true → list_any p (xs ++ x ∷ []) ≡ true
list_any-last p [] x h = ap (λ b. b || false) h
list_any-last p (y ∷ xs) x h = elim (p y) as (λ b. (b || list_any p (xs ++ x ∷ [])) ≡ true) [ true ↦ refl | false ↦ list_any-last p xs x h ]

-- the process is listed
abbrev has_process : List ℤ → ℤ → Bool
has_process processes pid = list_any (int_eq pid) processes

abbrev pub have_processes : List ℤ → List Thread → Bool
have_processes processes threads = list_all (λ thread. has_process processes thread.pid) threads

has_process-added : (processes : List ℤ) (pid other : ℤ) → has_process processes other ≡ true → has_process (add_key int_eq processes pid) other ≡ true
has_process-added processes pid other h =
    elim (list_any (int_eq pid) processes) as (λ b. list_any (int_eq other) (cond b processes (processes ++ pid ∷ [])) ≡ true) [ true ↦ h | false ↦ list_any-before (int_eq other) processes (pid ∷ []) h ]

has_process-own : (processes : List ℤ) (pid : ℤ) → has_process (add_key int_eq processes pid) pid ≡ true
has_process-own processes pid = by (list_any (int_eq pid) processes) refl
  where
    by : (b : Bool) → list_any (int_eq pid) processes ≡ b → list_any (int_eq pid) (cond b processes (processes ++ pid ∷ [])) ≡ true
    by true e = e
    by false e = list_any-last (int_eq pid) processes pid ((signed_Decides pid pid).1 refl)

-- one more process is listed
pub have_processes-process : (processes : List ℤ) (pid : ℤ) (threads : List Thread) → have_processes processes threads ≡ true → have_processes (add_key int_eq processes pid) threads ≡ true
have_processes-process processes pid [] h = refl
have_processes-process processes pid (t ∷ threads) h =
    let parts = both_true (has_process processes t.pid) (have_processes processes threads) h in
    and_true (has_process (add_key int_eq processes pid) t.pid) (have_processes (add_key int_eq processes pid) threads) (has_process-added processes pid t.pid parts.0) (have_processes-process processes pid threads parts.1)

have_processes-push : (processes : List ℤ) (threads : List Thread) (thread : Thread) → have_processes processes threads ≡ true → has_process processes thread.pid ≡ true → have_processes processes (threads ++ thread ∷ []) ≡ true
have_processes-push processes [] thread h own = and_true (has_process processes thread.pid) true own refl
have_processes-push processes (t ∷ threads) thread h own =
    let parts = both_true (has_process processes t.pid) (have_processes processes threads) h in
    and_true (has_process processes t.pid) (have_processes processes (threads ++ thread ∷ [])) parts.0 (have_processes-push processes threads thread parts.1 own)

-- one more thread is listed, with its process
pub have_processes-thread : (processes : List ℤ) (threads : List Thread) (thread : Thread) → have_processes processes threads ≡ true → have_processes (add_key int_eq processes thread.pid) (add_key same_thread threads thread) ≡ true
have_processes-thread processes threads thread h =
    let more = add_key int_eq processes thread.pid in
    let old = have_processes-process processes thread.pid threads h in
    elim (list_any (same_thread thread) threads) as (λ b. have_processes more (cond b threads (threads ++ thread ∷ [])) ≡ true) [ true ↦ old | false ↦ have_processes-push more threads thread old (has_process-own processes thread.pid) ]

-- the process of a listed thread is listed
has_process-listed : (processes : List ℤ) (threads : List Thread) (thread : Thread) → have_processes processes threads ≡ true → list_any (same_thread thread) threads ≡ true → has_process processes thread.pid ≡ true
has_process-listed processes [] thread h listed = cc
has_process-listed processes (t ∷ threads) thread h listed = by (same_thread thread t) refl (has_process-listed processes threads thread parts.1) listed
  where
    parts : (has_process processes t.pid ≡ true) × (have_processes processes threads ≡ true)
    parts = both_true (has_process processes t.pid) (have_processes processes threads) h

    by : (b : Bool) → same_thread thread t ≡ b → (list_any (same_thread thread) threads ≡ true → has_process processes thread.pid ≡ true) → (b || list_any (same_thread thread) threads) ≡ true → has_process processes thread.pid ≡ true
    by true e rest listed = ap (λ (x : Thread). has_process processes x.pid) (same_thread-same thread t e) ∙ parts.0
    by false e rest listed = rest listed

-- where a thread is listed already, nothing is to be added
pub add_key-listed : (processes : List ℤ) (threads : List Thread) (thread : Thread) → have_processes processes threads ≡ true → list_any (same_thread thread) threads ≡ true → add_key int_eq processes thread.pid ≡ processes
add_key-listed processes threads thread h listed = ap (λ b. cond b processes (processes ++ thread.pid ∷ [])) (has_process-listed processes threads thread h listed)

-- a thread that is listed adds nothing
pub ascending-listed_thread : (threads : List Thread) (thread : Thread) → list_any (same_thread thread) threads ≡ true → ascending thread_cmp threads ≡ insert_key thread_cmp (ascending thread_cmp threads) thread
ascending-listed_thread threads thread listed = ap (λ b. ascending thread_cmp (cond b threads (threads ++ thread ∷ []))) (sym listed) ∙ ascending-thread threads thread

-- nor does its process
pub ascending-listed_process : (processes : List ℤ) (threads : List Thread) (thread : Thread) → have_processes processes threads ≡ true → list_any (same_thread thread) threads ≡ true → ascending int_cmp processes ≡ insert_key int_cmp (ascending int_cmp processes) thread.pid
ascending-listed_process processes threads thread h listed = ap (ascending int_cmp) (sym (add_key-listed processes threads thread h listed)) ∙ ascending-process processes thread.pid
