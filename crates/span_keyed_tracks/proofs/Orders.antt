-- The orders of keys are total, and equal keys are the same.
use Rattle.std.specs.{Cmp.{IsTotalOrder, Lexicographic.options_total}, FinMap.int_cmp-IsAntisymmetric, Option.option_cmp, Ordering.{int_cmp, ordering_then}}
use Rattle.std.proofs.{Common.{◌≡◌, Equal}, lemmas.Cmp.{then_total, on_total, int_cmp_total, nat_list_cmp_total}}
use Rattle.span_event.proofs.Orders.{both_equal, id_cmp-total, id_cmp-same, option_same, text_same}
use Rattle.span_keyed_tracks.specs.{id_cmp, text_cmp, Async.async_cmp, Counters.series_cmp, Flow.flow_cmp, declared.keys.{AsyncKey.AsyncKey, FlowKey.FlowKey, SeriesKey.SeriesKey}}

-- the order of asynchronous keys is total
pub async_cmp-total : IsTotalOrder async_cmp
async_cmp-total =
    then_total (on_total (λ k. k.cat) nat_list_cmp_total)
    (then_total (on_total (λ k. k.scope) nat_list_cmp_total) (then_total (on_total (λ k. k.id) id_cmp-total) (on_total (λ k. k.name) nat_list_cmp_total)))

-- asynchronous keys that it doesn't distinguish are the same
pub async_cmp-same : (a b : AsyncKey) → async_cmp a b ≡ Equal → a ≡ b
async_cmp-same a b e =
    let first = both_equal (text_cmp a.cat b.cat) (ordering_then (text_cmp a.scope b.scope) (ordering_then (id_cmp a.id b.id) (text_cmp a.name b.name))) e in
    let second = both_equal (text_cmp a.scope b.scope) (ordering_then (id_cmp a.id b.id) (text_cmp a.name b.name)) first.1 in
    let third = both_equal (id_cmp a.id b.id) (text_cmp a.name b.name) second.1 in
    let cat = text_same a.cat b.cat first.0 in
    let scope = text_same a.scope b.scope second.0 in
    let id = id_cmp-same a.id b.id third.0 in
    let name = text_same a.name b.name third.1 in
    λ i. record { cat = cat i; scope = scope i; id = id i; name = name i }

-- the order of flow keys is total
pub flow_cmp-total : IsTotalOrder flow_cmp
flow_cmp-total = then_total (on_total (λ k. k.cat) nat_list_cmp_total) (then_total (on_total (λ k. k.name) nat_list_cmp_total) (on_total (λ k. k.id) id_cmp-total))

-- flow keys that it doesn't distinguish are the same
pub flow_cmp-same : (a b : FlowKey) → flow_cmp a b ≡ Equal → a ≡ b
flow_cmp-same a b e =
    let first = both_equal (text_cmp a.cat b.cat) (ordering_then (text_cmp a.name b.name) (id_cmp a.id b.id)) e in
    let second = both_equal (text_cmp a.name b.name) (id_cmp a.id b.id) first.1 in
    let cat = text_same a.cat b.cat first.0 in
    let name = text_same a.name b.name second.0 in
    let id = id_cmp-same a.id b.id second.1 in
    λ i. record { cat = cat i; name = name i; id = id i }

-- the order of series is total
pub series_cmp-total : IsTotalOrder series_cmp
series_cmp-total =
    then_total (on_total (λ k. k.pid) int_cmp_total)
    (then_total (on_total (λ k. k.name) nat_list_cmp_total) (then_total (on_total (λ k. k.id) (options_total id_cmp-total)) (on_total (λ k. k.series) nat_list_cmp_total)))

-- series that it doesn't distinguish are the same
pub series_cmp-same : (a b : SeriesKey) → series_cmp a b ≡ Equal → a ≡ b
series_cmp-same a b e =
    let first = both_equal (int_cmp a.pid b.pid) (ordering_then (text_cmp a.name b.name) (ordering_then (option_cmp id_cmp a.id b.id) (text_cmp a.series b.series))) e in
    let second = both_equal (text_cmp a.name b.name) (ordering_then (option_cmp id_cmp a.id b.id) (text_cmp a.series b.series)) first.1 in
    let third = both_equal (option_cmp id_cmp a.id b.id) (text_cmp a.series b.series) second.1 in
    let pid = int_cmp-IsAntisymmetric a.pid b.pid first.0 in
    let name = text_same a.name b.name second.0 in
    let id = option_same id_cmp-same a.id b.id third.0 in
    let series = text_same a.series b.series third.1 in
    λ i. record { pid = pid i; name = name i; id = id i; series = series i }
