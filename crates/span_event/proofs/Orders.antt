-- The orders of ids, threads and texts are total, and what they don't distinguish is the same.
use Rattle.std.specs.{Cmp.{IsTotalOrder, Lexicographic.options_total}, FinMap.{int_cmp-IsAntisymmetric, slice_cmp-IsAntisymmetric, nat_cmp-IsAntisymmetric}, Option.option_cmp, Ordering.{int_cmp, ordering_then}}
use Rattle.std.proofs.{Common.{◌≡◌, Ordering, Less, Equal, Greater, Option, Some, None, ap, refl}, lemmas.Cmp.{then_total, on_total, int_cmp_total, nat_list_cmp_total}}
use Rattle.span_event.specs.{Orders.{id_cmp, thread_cmp}, Text.{Bytes, text_cmp}, declared.{event.IdKey.IdKey, thread.Thread.Thread}}

pub both_equal : (r s : Ordering) → ordering_then r s ≡ Equal → (r ≡ Equal) × (s ≡ Equal)
both_equal Less s e = cc
both_equal Equal s e = (refl, e)
both_equal Greater s e = cc

pub option_same : {A : Type 0} {cmp : A → A → Ordering} → ((a b : A) → cmp a b ≡ Equal → a ≡ b) → (a b : Option A) → option_cmp cmp a b ≡ Equal → a ≡ b
option_same same None None e = refl
option_same same None (Some y) e = cc
option_same same (Some x) None e = cc
option_same same (Some x) (Some y) e = ap Some (same x y e)

pub text_same : (a b : Bytes) → text_cmp a b ≡ Equal → a ≡ b
text_same a b e = slice_cmp-IsAntisymmetric nat_cmp-IsAntisymmetric a b e

pub id_cmp-total : IsTotalOrder id_cmp
id_cmp-total = then_total (on_total (λ k. k.home) (options_total int_cmp_total)) (on_total (λ k. k.id) nat_list_cmp_total)

pub id_cmp-same : (a b : IdKey) → id_cmp a b ≡ Equal → a ≡ b
id_cmp-same a b e =
    let parts = both_equal (option_cmp int_cmp a.home b.home) (text_cmp a.id b.id) e in
    let home = option_same int_cmp-IsAntisymmetric a.home b.home parts.0 in
    let id = text_same a.id b.id parts.1 in
    λ i. record { home = home i; id = id i }

pub thread_cmp-total : IsTotalOrder thread_cmp
thread_cmp-total = then_total (on_total (λ t. t.pid) int_cmp_total) (on_total (λ t. t.tid) int_cmp_total)

pub thread_cmp-same : (a b : Thread) → thread_cmp a b ≡ Equal → a ≡ b
thread_cmp-same a b e =
    let parts = both_equal (int_cmp a.pid b.pid) (int_cmp a.tid b.tid) e in
    let pid = int_cmp-IsAntisymmetric a.pid b.pid parts.0 in
    let tid = int_cmp-IsAntisymmetric a.tid b.tid parts.1 in
    λ i. record { pid = pid i; tid = tid i }
