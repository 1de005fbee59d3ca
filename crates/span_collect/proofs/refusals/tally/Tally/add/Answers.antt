use Rattle.std.specs.Ordering.{nat_cmp}
use Rattle.std.proofs.Common.{◌≡◌, ◌-◌, ◌^◌, ◌+◌, ◌<◌, ◌∙◌, [], sym, ap, subst, arith}
use Rattle.span_collect.specs.{counted, kept_at, Refusals.{refused_at, Tallies.Tallied}, declared.refusals.tally.{Refused.Refused, Tally.TheInside.Inside}}
use Rattle.span_journal.specs.Rows.{CanGrow}
use Rattle.span_collect.proofs.{RefusalLemmas.Counted.CanGrow-counts_in, RefusalLemmas.Tallying.{Takes-other, Takes-refusal, count-kept_at}, refusals.tally.Tally.add.Goals.{in-Some+in_ok-insert, in_default}}
use Rattle.span_collect.proofs.refusals.tally.Tally.add.Goals as goal

pub and-refused-requires : goal.and-refused-requires
and-refused-requires c = subst (λ (r : Refused). r.count < 2 ^ 32 - 1) (sym c.refused_with.ensures) (count-kept_at c.args.self.now _ c.requires)

-- none of the counts is more than the items
pub count-requires : goal.count-requires
count-requires c =
    let answers = c.requires.0 in
    let kept : c.match-number_in.self-inside.counts ≡ c.self.inside.counts = elim c.match-number_in.branch [
      | in-Some+in_ok-insert w ↦ ap (λ (inside : Inside). inside.counts) w.self-inside-is
      | in_default w ↦ ap (λ (inside : Inside). inside.counts) w.self-inside-is
    ] in
    subst CanGrow (sym (kept ∙ ap (λ (tally : Tallied). tally.counts) (c.self.view_is ∙ c.requires.1))) (CanGrow-counts_in answers (omega (arith, c.requires.2)))

pub returns : goal.returns
returns c = λ answers is. elim c.match-number_in.branch [
  | in-Some+in_ok-insert w ↦ Takes-refusal answers c.args.answer.now _ _ w.in-Some.code w.and-refused.result (sym c.number_in.ensures ∙ w.in-Some.is) (c.self.view_is ∙ is) w.in_ok-insert.ensures.was_ordered
      (λ places kept. w.and-refused.ensures places (w.refused_with.ensures ∙ ap (λ (t : Tallied). kept_at nat_cmp (refused_at []) t.refused w.in-Some.code) (sym c.self.view_is) ∙ kept))
      (ap (λ (inside : Inside). inside.items + 1) w.self-inside-is)
      (c.count.ensures ∙ ap (λ (inside : Inside). counted inside.counts c.args.answer.now) w.self-inside-is)
      (ap (λ (inside : Inside). inside.refused.entries) w.self-inside-is ∙ w.in_ok-insert.ensures.entries)
  | in_default w ↦ Takes-other answers c.args.answer.now _ _ (sym c.number_in.ensures ∙ w.in_default.is) (c.self.view_is ∙ is)
      (ap (λ (inside : Inside). inside.items + 1) w.self-inside-is)
      (c.count.ensures ∙ ap (λ (inside : Inside). counted inside.counts c.args.answer.now) w.self-inside-is)
      (ap (λ (inside : Inside). inside.refused.entries) w.self-inside-is)
]
