use Rattle.std.specs.Prelude.{Err}
use Rattle.std.proofs.{Common.{◌≡◌, ◌+◌, ◌<◌, ◌∷◌, [], ◌++◌, Bor, List, length, map, arith, add-zero, rules, sym, ap, subst, ◌∙◌, append-nil, append_assoc}, lemmas.{Grind.flat_map-append, List.Sums.sum_by-append}}
use Rattle.span_report.specs.{Bytes, Stacks.{Bounds.names_in, Descent.{Visits, last_visited}, Folded.{stack_line, stack_lines}, Framed.{Framed, folded_after, folded_if, last_stack, stack_after}, Ticks.{Folded, Stack}}, declared.stacks.fault.StacksFault.TheVariants.TooLarge}
use Rattle.span_report.proofs.StackLemmas.{Counting.{AreVisited-next, AreVisited-none, above-next, folded-all, visited-names}, Visiting.folded_after-push}
use Rattle.span_report.proofs.stacks.text.put_stacks.Goals as goal

pub loop-descent-init : goal.loop-descent-init
loop-descent-init c =
    ([], AreVisited-none c.args.spans.items c.in_ok-descent.descent c.in_ok-descent.ensures.ready c.in_ok-descent.ensures.starts, sym (append-nil c.args.out.now.items), add-zero c.args.left.now)

pub loop-descent-smaller : goal.loop-descent-smaller
loop-descent-smaller c =
    let visits = subst (Visits c.loop-descent.descent c.next.new.self) c.in-Some.is c.in_ok-frame.ensures.visits in
    above-next c.args.spans.items c.loop-descent.invariant.0 c.loop-descent.descent c.loop-descent.invariant.1 c.next.new.self c.in-Some.frame visits

pub loop-descent-preserved : goal.loop-descent-preserved
loop-descent-preserved c =
    let spans = c.args.spans.items in
    let old = c.loop-descent.descent in
    let new = c.next.new.self in
    let before = c.loop-descent.invariant in
    let frames = before.0 in
    let f = c.in-Some.frame in
    let visits = subst (Visits old new) c.in-Some.is c.in_ok-frame.ensures.visits in
    let visited = AreVisited-next spans frames old before.1 new f visits c.in_ok-frame.ensures.ready in
    let own : last_visited new ≡ stack_after (last_stack frames) f = visits.last ∙ ap (λ (s : Stack). stack_after s f) before.1.last in
    let rows = folded_after-push [] frames f ∙ ap (λ (s : Stack). folded_after [] frames ++ folded_if s f.time) (sym own) in
    let row = ap (λ (names : List (Bor Bytes)). folded_if (map (λ name. name.now) names) c.frame.inside.time) c.deref.ensures.value ∙ ap (λ (g : Framed). folded_if (last_visited new) g.time) c.frame.view_is in
    let text = c.in_ok-put_timed.ensures.text ∙ ap (λ rows. c.loop-descent.out.items ++ stack_lines c.args.start.now rows) row in
    let taken = sym (ap (λ rows. c.put_timed.new.left + names_in rows) row) ∙ c.in_ok-put_timed.ensures.fits in
    let lines = ap (stack_lines c.args.start.now) rows ∙ flat_map-append (stack_line c.args.start.now) (folded_after [] frames) (folded_if (last_visited new) f.time) in
    let names = ap names_in rows ∙ sum_by-append (λ (folded : Folded). length folded.stack) (folded_after [] frames) (folded_if (last_visited new) f.time) in (
      frames ++ f ∷ [],
      visited,
      text ∙ ap (λ l. l ++ stack_lines c.args.start.now (folded_if (last_visited new) f.time)) before.2 ∙ append_assoc c.args.out.now.items (stack_lines c.args.start.now (folded_after [] frames)) (stack_lines c.args.start.now (folded_if (last_visited new) f.time))
          ∙ ap (λ l. c.args.out.now.items ++ l) (sym lines),
      omega (arith, taken, before.3, names),
    )

pub returns-clause-text : goal.returns-clause-text
returns-clause-text c =
    let before = c.loop-descent.invariant in
    let none = subst (Visits c.loop-descent.descent c.next.new.self) c.in_default.is c.in_ok-frame.ensures.visits in
    before.2 ∙ ap (λ rows. c.args.out.now.items ++ stack_lines c.args.start.now rows) (folded-all c.args.spans.items before.0 c.loop-descent.descent before.1 none)

pub returns-clause-fits : goal.returns-clause-fits
returns-clause-fits c =
    let before = c.loop-descent.invariant in
    let none = subst (Visits c.loop-descent.descent c.next.new.self) c.in_default.is c.in_ok-frame.ensures.visits in
    sym (ap (λ rows. c.loop-descent.left + names_in rows) (folded-all c.args.spans.items before.0 c.loop-descent.descent before.1 none)) ∙ before.3

-- the names of the stacks so far and of this one are some of those of all stacks
pub returns-in_err-put_timed-clause-full : goal.returns-in_err-put_timed-clause-full
returns-in_err-put_timed-clause-full c = λ large.
    let spans = c.args.spans.items in
    let old = c.loop-descent.descent in
    let new = c.next.new.self in
    let before = c.loop-descent.invariant in
    let frames = before.0 in
    let f = c.in-Some.frame in
    let visits = subst (Visits old new) c.in-Some.is c.in_ok-frame.ensures.visits in
    let visited = AreVisited-next spans frames old before.1 new f visits c.in_ok-frame.ensures.ready in
    let own : last_visited new ≡ stack_after (last_stack frames) f = visits.last ∙ ap (λ (s : Stack). stack_after s f) before.1.last in
    let rows = folded_after-push [] frames f ∙ ap (λ (s : Stack). folded_after [] frames ++ folded_if s f.time) (sym own) in
    let failed : c.put_timed.result ≡ Err TooLarge = search rules in
    let row = ap (λ (names : List (Bor Bytes)). folded_if (map (λ name. name.now) names) c.frame.inside.time) c.deref.ensures.value ∙ ap (λ (g : Framed). folded_if (last_visited new) g.time) c.frame.view_is in
    let over = subst (λ rows. c.loop-descent.left < names_in rows) row (c.put_timed.ensures.full failed) in
    let names = ap names_in rows ∙ sum_by-append (λ (folded : Folded). length folded.stack) (folded_after [] frames) (folded_if (last_visited new) f.time) in
    omega (arith, over, before.3, names, visited-names spans (frames ++ f ∷ []) new visited)
