use Rattle.std.proofs.{Common.{◌≡◌, ◌∷◌, [], ◌++◌, List, length, arith, sym, ap, subst, rules}, lemmas.List.length_push}
use Rattle.span_report.specs.Stacks.{Descent.Visits, Framed.Framed}
use Rattle.span_report.proofs.StackLemmas.Counting.{AreVisited, AreVisited-next, AreVisited-none, count-all, folded-all, visited-fewer}
use Rattle.span_report.proofs.stacks.framed.frames_of.Goals as goal

pub loop-frames-init : goal.loop-frames-init
loop-frames-init c =
    let none = c.new-frames.ensures.items in
    record {
      visited = subst (λ (frames : List Framed). AreVisited c.args.spans.items frames c.in_ok-descent.descent) (sym none) (AreVisited-none c.args.spans.items c.in_ok-descent.descent c.in_ok-descent.ensures.ready c.in_ok-descent.ensures.starts);
      fits = omega (arith, ap (λ (frames : List Framed). length frames) none);
    }

-- one more frame than may be is one of the frames that there are
pub returns-then-len-most-clause-full : goal.returns-then-len-most-clause-full
returns-then-len-most-clause-full c = λ large.
    let spans = c.args.spans.items in
    let frames = c.loop-frames.frames.items in
    let f = c.in-Some.frame in
    let visits = subst (Visits c.loop-frames.descent c.next.new.self) c.in-Some.is c.in_ok-frame.ensures.visits in
    let visited = AreVisited-next spans frames c.loop-frames.descent c.loop-frames.invariant.visited c.next.new.self f visits c.in_ok-frame.ensures.ready in
    let count : c.len.result ≡ length frames = search rules in
    omega (arith, visited-fewer spans (frames ++ f ∷ []) c.next.new.self visited, length_push frames f, count, c.if-len-most.true)

pub loop-frames-preserved : goal.loop-frames-preserved
loop-frames-preserved c =
    let spans = c.args.spans.items in
    let frames = c.loop-frames.frames.items in
    let f = c.in-Some.frame in
    let visits = subst (Visits c.loop-frames.descent c.next.new.self) c.in-Some.is c.in_ok-frame.ensures.visits in
    let visited = AreVisited-next spans frames c.loop-frames.descent c.loop-frames.invariant.visited c.next.new.self f visits c.in_ok-frame.ensures.ready in
    let pushed = c.in_ok-push.ensures.items in
    let count : c.len.result ≡ length frames = search rules in
    record {
      visited = subst (λ (fs : List Framed). AreVisited spans fs c.next.new.self) (sym pushed) visited;
      fits = omega (arith, ap (λ (fs : List Framed). length fs) pushed, length_push frames f, count, c.if-len-most.false);
    }

pub returns-clause-stacks : goal.returns-clause-stacks
returns-clause-stacks c =
    let none = subst (Visits c.loop-frames.descent c.next.new.self) c.in_default.is c.in_ok-frame.ensures.visits in
    folded-all c.args.spans.items c.loop-frames.frames.items c.loop-frames.descent c.loop-frames.invariant.visited none

pub returns-clause-count : goal.returns-clause-count
returns-clause-count c =
    let none = subst (Visits c.loop-frames.descent c.next.new.self) c.in_default.is c.in_ok-frame.ensures.visits in
    count-all c.args.spans.items c.loop-frames.frames.items c.loop-frames.descent c.loop-frames.invariant.visited none
