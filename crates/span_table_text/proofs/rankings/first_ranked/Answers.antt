use Rattle.std.proofs.{Common.{rules, arith, ap, sym, take, ◌∙◌}, lemmas.List.take_all}
use Rattle.span_keyed_tracks.proofs.Sorting.{IsSorted-from_sort_by, sorted-ascending}
use Rattle.span_table_text.specs.Ranks.{ranked}
use Rattle.span_table_text.proofs.{Ranked.ranking_order-total, Selected.{IsSplitAround-from_select_by, take-ascending}}
use Rattle.span_table_text.proofs.rankings.first_ranked.Goals as goal

pub returns-then-rows-most : goal.returns-then-rows-most
returns-then-rows-most c =
    let total = ranking_order-total c.args.by in
    let sorted = c.sort_unstable_by.new.self in
    let all = sorted-ascending total c.args.rows.now sorted c.requires c.sort_unstable_by.ensures.permutation (IsSorted-from_sort_by total sorted c.sort_unstable_by.ensures.sorted (λ a r f' call. search rules)) in
    sym (take_all c.args.most sorted (omega (arith, c.if-rows-most.true, c.sort_unstable_by.ensures.len))) ∙ ap (take c.args.most) all

pub returns : goal.returns
returns c =
    let total = ranking_order-total c.args.by in
    let front = c.select_nth_unstable_by-first.result.0.now in
    let x = c.select_nth_unstable_by-first.result.1.now in
    let back = c.select_nth_unstable_by-first.result.2.now in
    let selected = c.select_nth_unstable_by-first.ensures in
    let sorted = c.sort_unstable_by-2.new.self in
    let split = IsSplitAround-from_select_by total front x back selected.partitioned (λ a r f' call. search rules) in
    let rise = IsSorted-from_sort_by total sorted c.sort_unstable_by-2.ensures.sorted (λ a r f' call. search rules) in
    take-ascending total c.args.rows.now front x back sorted c.requires selected.permutation split c.sort_unstable_by-2.ensures.permutation rise
    ∙ ap (λ n. take n (ranked c.args.by c.args.rows.now)) selected.front_len
