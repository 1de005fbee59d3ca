use Rattle.std.specs.Int.{int_max}
use Rattle.std.proofs.{Common.{◌≡◌, ◌<◌, ◌≤ℤ◌, int_le, true, get_or, arith, rules, sym, subst, ◌∙◌, to_z, of_z, w64, inl, inr}, lemmas.Int.ints}
use Rattle.span_report.specs.{Stacks.Pending.{IsOnward, NoneCovers}, declared.stacks.ends.Link.Link}
use Rattle.span_report.proofs.StackLemmas.{Links.NoneCovers-jump, Standing.NoneCovers-later}
use Rattle.span_report.proofs.stacks.ends.first_beyond.Goals as goal

-- a span that ends by then leads to the next that may not, or jumps to one that does too
pub loop-at-preserved : goal.loop-at-preserved
loop-at-preserved c =
    let spans = c.args.spans.now in
    let x = c.index-spans-at.result in
    let at = c.loop-at.at in
    let next = c.onward-at.result in
    let nowhere : Link = record { later = 0; jump = 0; depth = 0 } in
    let link = get_or c.args.links.now at nowhere in
    let time : to_z w64 (of_z w64 c.args.time) ≡ c.args.time = search rules in
    let leads = c.requires.links.leads at nowhere c.loop-at.invariant.behind c.loop-at-test.true in
    let ended : int_le x.until (int_max c.args.time x.start) ≡ true = sym (rw time at c.ends_by.ensures) ∙ c.if-ends_by.true in
    let ends : x.until ≤ℤ int_max c.args.time x.start = grind (arith, ints) in
    let over : NoneCovers spans c.args.next at c.args.time = rw time at c.loop-at.invariant.over in
    let past = NoneCovers-later spans c.requires.rise c.args.next at link.later c.args.time x c.loop-at-test.true c.index-spans-at.is ends leads.0 over in
    let onward : IsOnward spans link c.args.time next = rw time at c.onward-at.ensures in
    rw time (elim onward [
      | inl later ↦ record {
        behind = omega (arith, later, leads.0.behind, c.loop-at.invariant.behind);
        within = omega (arith, later, leads.0.within);
        over = subst (λ n. NoneCovers spans c.args.next n c.args.time) (sym later) past;
      }
      | inr (jump, there, sooner) ↦ record {
        behind = omega (arith, jump, leads.1.behind, c.loop-at.invariant.behind);
        within = omega (arith, there);
        over = subst (λ n. NoneCovers spans c.args.next n c.args.time) (sym jump)
            (NoneCovers-jump spans c.args.next at link.jump c.args.time x leads.1 (omega (arith, jump, there)) (subst (λ n. (get_or spans n x).until ≤ℤ c.args.time) jump (sooner x)) over);
      }
    ])

pub loop-at-smaller : goal.loop-at-smaller
loop-at-smaller c =
    let spans = c.args.spans.now in
    let nowhere : Link = record { later = 0; jump = 0; depth = 0 } in
    let link = get_or c.args.links.now c.loop-at.at nowhere in
    let time : to_z w64 (of_z w64 c.args.time) ≡ c.args.time = search rules in
    let leads = c.requires.links.leads c.loop-at.at nowhere c.loop-at.invariant.behind c.loop-at-test.true in
    let onward : IsOnward spans link c.args.time c.onward-at.result = rw time at c.onward-at.ensures in
    let further : c.loop-at.at < c.onward-at.result = elim onward [
      | inl later ↦ omega (arith, later, leads.0.behind)
      | inr (jump, there, sooner) ↦ omega (arith, jump, leads.1.behind)
    ] in
    omega (arith, further, c.loop-at-test.true)
