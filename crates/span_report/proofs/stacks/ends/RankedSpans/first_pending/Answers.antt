use Rattle.std.specs.Int.{int_max, int_min}
use Rattle.std.proofs.{Common.{◌≡◌, ◌+◌, ◌<◌, ◌≤ℤ◌, ◌<ℤ◌, List, length, arith, rules, refl, ap, subst, ◌∙◌, to_z, of_z, w64}, lemmas.Int.{clamps, ints}}
use Rattle.span_report.specs.{Bytes, Span, Stacks.Pending.{IsBare, IsFirstBeyond, IsFirstPending}, declared.stacks.pending.PendingFrame.PendingFrame}
use Rattle.span_report.proofs.StackLemmas.Standing.{IsBare-end, IsBare-late, IsFirstPending-first}
use Rattle.span_report.proofs.stacks.ends.RankedSpans.first_pending.Goals as goal

pub returns-then-at-len-clause-bare : goal.returns-then-at-len-clause-bare
returns-then-at-len-clause-bare c = λ none.
    let spans = c.self.inside.spans.items in
    let s = c.args.stretch.now in
    let at = c.first_beyond-at.result in
    let from : to_z w64 (of_z w64 s.from) ≡ s.from = search rules in
    let beyond = subst (λ (l : List (Span Bytes)). IsFirstBeyond l s.next s.from at) c.deref.ensures.value (rw from at c.first_beyond-at.ensures) in
    let count : c.len.result ≡ length spans = search rules in
    subst (λ (l : List (Span Bytes)). IsBare l s) c.self.view_is (IsBare-end spans c.self.invariant.1 s at beyond (omega (arith, c.if-at-len.true, count)))

pub returns-then-from-stretch-clause-bare : goal.returns-then-from-stretch-clause-bare
returns-then-from-stretch-clause-bare c = λ none.
    let spans = c.self.inside.spans.items in
    let s = c.args.stretch.now in
    let x = c.index-named.result.now in
    let at = c.first_beyond-at.result in
    let from : to_z w64 (of_z w64 s.from) ≡ s.from = search rules in
    let until : to_z w64 (of_z w64 s.until) ≡ s.until = search rules in
    let start : to_z w64 (of_z w64 c.named.inside.span.now.start) ≡ c.named.inside.span.now.start = search rules in
    let most : to_z w64 (of_z w64 c.max-from.result) ≡ c.max-from.result = search rules in
    let beyond = subst (λ (l : List (Span Bytes)). IsFirstBeyond l s.next s.from at) c.deref.ensures.value (rw from at c.first_beyond-at.ensures) in
    let count : c.len.result ≡ length spans = search rules in
    let within : at < length spans = omega (arith, c.if-at-len.false, count) in
    let test = rw (until, most) at c.if-from-stretch.true in
    let past : s.until ≤ℤ c.max-from.result = grind (arith, ints) in
    let late : s.until ≤ℤ int_max x.start s.from = omega (arith, ints, clamps, past, rw (start, from) at c.max-from.ensures.value, ap (λ (n : Span Bytes). n.start) c.named.view_is) in
    subst (λ (l : List (Span Bytes)). IsBare l s) c.self.view_is (IsBare-late spans c.self.invariant.1 s at beyond x within c.index-named.ensures late)

pub returns-clause-first : goal.returns-clause-first
returns-clause-first c =
    let spans = c.self.inside.spans.items in
    let s = c.args.stretch.now in
    let x = c.index-named.result.now in
    let at = c.first_beyond-at.result in
    let from : to_z w64 (of_z w64 s.from) ≡ s.from = search rules in
    let until : to_z w64 (of_z w64 s.until) ≡ s.until = search rules in
    let start : to_z w64 (of_z w64 c.named.inside.span.now.start) ≡ c.named.inside.span.now.start = search rules in
    let end : to_z w64 (of_z w64 c.named.inside.span.now.until) ≡ c.named.inside.span.now.until = search rules in
    let most : to_z w64 (of_z w64 c.max-from.result) ≡ c.max-from.result = search rules in
    let least : to_z w64 (of_z w64 c.min-until.result) ≡ c.min-until.result = search rules in
    let beyond = subst (λ (l : List (Span Bytes)). IsFirstBeyond l s.next s.from at) c.deref.ensures.value (rw from at c.first_beyond-at.ensures) in
    let count : c.len.result ≡ length spans = search rules in
    let within : at < length spans = omega (arith, c.if-at-len.false, count) in
    let first : c.max-from.result ≡ int_max x.start s.from = (rw (start, from) at c.max-from.ensures.value) ∙ ap (λ (n : Span Bytes). int_max n.start s.from) c.named.view_is in
    let last : c.min-until.result ≡ int_min x.until s.until = (rw (end, until) at c.min-until.ensures.value) ∙ ap (λ (n : Span Bytes). int_min n.until s.until) c.named.view_is in
    let test = rw (until, most) at c.if-from-stretch.false in
    let early : c.max-from.result <ℤ s.until = grind (arith, ints) in
    let frame : PendingFrame = record { below = c.args.below; name = c.named.inside.name; over = record { from = c.max-from.result; until = c.min-until.result; next = at + 1 } } in
    rw (most, least) (subst (λ (l : List (Span Bytes)). IsFirstPending l s frame) c.self.view_is
    (IsFirstPending-first spans c.self.invariant.1 s at beyond x within c.index-named.ensures frame first last refl (ap (λ (n : Span Bytes). n.name) c.named.view_is) (omega (arith, ints, first, early))))
