use Rattle.std.specs.Prelude.{Err}
use Rattle.std.proofs.{Common.{◌≡◌, ◌+◌, ◌∷◌, [], List, Bor, suc, drop, map, rules, sym, ap, ap₂, subst, ◌∙◌, arith}, Math.Seq.drop-cons, lemmas.List.{drop_all, map-append}}
use Rattle.span_stack_sums.specs.{Framed, Stack, TooLarge, folded_after, folded_if, stack_after, Kept.{Exceeds, TakesSums}, Stacks.keyed_stack}
use Rattle.span_stack_sums.proofs.Taking.{Exceeds-first, Exceeds-later, TakesSums-both, TakesSums-none}
use Rattle.span_stack_sums.proofs.threads.add_frames.Goals as goal

pub loop-frame-init : goal.loop-frame-init
loop-frame-init c =
    let keyed = keyed_stack c.args.owner.now.process c.args.owner.now.thread in
    let none : ◌≡◌ {A = Stack} (map (λ name. name.now) c.new-stack.result.items) [] = ap (map (λ (name : Bor _). name.now)) c.new-stack.ensures.items in
    record {
      rows = λ newer taken. subst (λ (s : Stack). TakesSums c.args.rows.now newer (map keyed (folded_after s c.args.frames.now))) none taken;
      full = λ exceeds. subst (λ (s : Stack). Exceeds c.args.rows.now (map keyed (folded_after s c.args.frames.now))) none exceeds;
    }

pub returns-clause-rows : goal.returns-clause-rows
returns-clause-rows c =
    let names = map (λ (name : Bor _). name.now) in
    let keyed = keyed_stack c.args.owner.now.process c.args.owner.now.thread in
    let rows = c.loop-frame.rows in
    c.loop-frame.invariant.rows rows (subst (λ (fs : List Framed). TakesSums rows rows (map keyed (folded_after (names c.loop-frame.stack.items) fs))) (sym (drop_all c.loop-frame.frame-index c.args.frames.now c.loop-frame-test.false)) (TakesSums-none rows))

-- the frame is the first of the rest
pub loop-frame-preserved : goal.loop-frame-preserved
loop-frame-preserved c =
    let names = map (λ (name : Bor _). name.now) in
    let keyed = keyed_stack c.args.owner.now.process c.args.owner.now.thread in
    let frames = c.args.frames.now in
    let index = c.loop-frame.frame-index in
    let f : Framed = c.frame-item.result in
    let later = drop (index + 1) frames in
    let stack = names c.loop-frame.stack.items in
    let own = stack_after stack f in
    let one : index + 1 ≡ suc index = omega arith in
    let rest : drop index frames ≡ f ∷ later = drop-cons frames index f c.loop-frame-test.true ∙ ap₂ (λ (g : Framed) n. g ∷ drop n frames) (sym c.frame-item.is) (sym one) in
    let followed : names c.follow.new.stack.items ≡ own = c.in_ok-follow.ensures.ok in
    let mine = map keyed (folded_if own f.time) in
    let others = map keyed (folded_after own later) in
    let all = sym (map-append keyed (folded_if own f.time) (folded_after own later)) ∙ ap (λ (fs : List Framed). map keyed (folded_after stack fs)) (sym rest) in
    let same = ap names c.deref.ensures.value ∙ followed in
    let time : c.frame.inside.time ≡ f.time = ap (λ (g : Framed). g.time) c.frame.view_is in
    let old = c.loop-frame.rows in
    let mid = c.add_stack.new.rows in
    let taken : TakesSums old mid mine = subst (λ (s : Stack). TakesSums old mid (map keyed (folded_if s f.time))) same (subst (λ n. TakesSums old mid (map keyed (folded_if (names c.deref.result.now) n))) time c.in_ok-add_stack.ensures.rows) in
    record {
      rows = λ newer more. c.loop-frame.invariant.rows newer (subst (TakesSums old newer) all (TakesSums-both old mid newer mine others taken (subst (λ (s : Stack). TakesSums mid newer (map keyed (folded_after s later))) followed more)));
      full = λ exceeds. c.loop-frame.invariant.full (subst (Exceeds old) all (Exceeds-later old mid mine others taken (subst (λ (s : Stack). Exceeds mid (map keyed (folded_after s later))) followed exceeds)));
    }

-- where a stack exceeds, all do
pub returns-in_err-add_stack-clause-full : goal.returns-in_err-add_stack-clause-full
returns-in_err-add_stack-clause-full c = λ large.
    let names = map (λ (name : Bor _). name.now) in
    let keyed = keyed_stack c.args.owner.now.process c.args.owner.now.thread in
    let frames = c.args.frames.now in
    let index = c.loop-frame.frame-index in
    let f : Framed = c.frame-item.result in
    let later = drop (index + 1) frames in
    let stack = names c.loop-frame.stack.items in
    let own = stack_after stack f in
    let one : index + 1 ≡ suc index = omega arith in
    let rest : drop index frames ≡ f ∷ later = drop-cons frames index f c.loop-frame-test.true ∙ ap₂ (λ (g : Framed) n. g ∷ drop n frames) (sym c.frame-item.is) (sym one) in
    let followed : names c.follow.new.stack.items ≡ own = c.in_ok-follow.ensures.ok in
    let all = sym (map-append keyed (folded_if own f.time) (folded_after own later)) ∙ ap (λ (fs : List Framed). map keyed (folded_after stack fs)) (sym rest) in
    let same = ap names c.deref.ensures.value ∙ followed in
    let time : c.frame.inside.time ≡ f.time = ap (λ (g : Framed). g.time) c.frame.view_is in
    let old = c.loop-frame.rows in
    let failed : c.add_stack.result ≡ Err TooLarge = search rules in
    let exceeds = subst (λ (s : Stack). Exceeds old (map keyed (folded_if s f.time))) same (subst (λ n. Exceeds old (map keyed (folded_if (names c.deref.result.now) n))) time (c.add_stack.ensures.full failed)) in
    c.loop-frame.invariant.full (subst (Exceeds old) all (Exceeds-first old (map keyed (folded_if own f.time)) (map keyed (folded_after own later)) exceeds))
