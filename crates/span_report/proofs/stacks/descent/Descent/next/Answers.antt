use Rattle.std.specs.Prelude.{slice_get}
use Rattle.std.proofs.{Common.{◌≡◌, ◌-◌, ◌∷◌, [], ◌++◌, Bor, List, Some, length, map, take, rules, refl, sym, ap, subst, ◌∙◌}, lemmas.List.{map_push, take-map}}
use Rattle.span_keyed_tracks.proofs.Lists.Last.{take-last}
use Rattle.span_ledger.proofs.Sorting.{IsSorted-from_sort_by}
use Rattle.span_report.specs.{Bytes, Stacks.{Descent.last_visited, Pending.pending_stack}, declared.stacks.{descent.Descent.Descent, pending.PendingFrame.PendingFrame}}
use Rattle.span_report.proofs.StackLemmas.{Descending.{IsReady-next, VisitsFrame-next}, Nearing.nearness-total}
use Rattle.span_report.proofs.stacks.descent.Descent.next.Goals as goal

pub returns-clause-ready : goal.returns-clause-ready
returns-clause-ready c =
    let old = c.args.self.now in
    let first = c.in-Some.first.now in
    let mid = c.split_next.new.self in
    let new : Descent = record { spans = mid.spans; pending = c.append.new.self; found = c.append.new.other; stack = c.push.new.self } in
    let lent = λ (name : Bor Bytes). name.now in
    let read = subst (λ (xs : List PendingFrame). Some first ≡ slice_get xs (length xs - 1)) c.deref.ensures.value c.in-Some.ensures.value in
    let whole = take-last old.pending.items first read in
    let visited : last_visited new ≡ pending_stack (last_visited old) first =
    ap (map lent) (c.in_ok-push.ensures.items ∙ ap (λ (names : List (Bor Bytes)). names ++ first.name ∷ []) (c.truncate.ensures.items ∙ ap (take first.below) c.in_ok-time.ensures.stack))
    ∙ map_push lent (take first.below old.stack.items) first.name
    ∙ ap (λ (names : List Bytes). names ++ first.name.now ∷ []) (sym (take-map lent first.below old.stack.items)) in
    IsReady-next old mid new first (take (length old.pending.items - 1) old.pending.items) c.sort_unstable_by.new.self.items c.in_ok-time.time c.requires whole c.in_ok-time.ensures c.sort_unstable_by.ensures.permutation
    (IsSorted-from_sort_by nearness-total c.sort_unstable_by.new.self.items c.sort_unstable_by.ensures.sorted (λ a r f' call. search rules)) refl c.in_ok-append.ensures.items visited c.in_ok-append.ensures.other_items

pub returns-clause-visits : goal.returns-clause-visits
returns-clause-visits c =
    let old = c.args.self.now in
    let first = c.in-Some.first.now in
    let mid = c.split_next.new.self in
    let new : Descent = record { spans = mid.spans; pending = c.append.new.self; found = c.append.new.other; stack = c.push.new.self } in
    let lent = λ (name : Bor Bytes). name.now in
    let read = subst (λ (xs : List PendingFrame). Some first ≡ slice_get xs (length xs - 1)) c.deref.ensures.value c.in-Some.ensures.value in
    let whole = take-last old.pending.items first read in
    let visited : last_visited new ≡ pending_stack (last_visited old) first =
    ap (map lent) (c.in_ok-push.ensures.items ∙ ap (λ (names : List (Bor Bytes)). names ++ first.name ∷ []) (c.truncate.ensures.items ∙ ap (take first.below) c.in_ok-time.ensures.stack))
    ∙ map_push lent (take first.below old.stack.items) first.name
    ∙ ap (λ (names : List Bytes). names ++ first.name.now ∷ []) (sym (take-map lent first.below old.stack.items)) in
    VisitsFrame-next old mid new first (take (length old.pending.items - 1) old.pending.items) c.sort_unstable_by.new.self.items c.in_ok-time.time c.requires whole c.in_ok-time.ensures c.sort_unstable_by.ensures.permutation
    (IsSorted-from_sort_by nearness-total c.sort_unstable_by.new.self.items c.sort_unstable_by.ensures.sorted (λ a r f' call. search rules)) refl c.in_ok-append.ensures.items visited
