use Rattle.std.proofs.Common.{◌≡◌, ◌+◌, ◌-◌, ◌<◌, List, length, arith, rules, sym, subst, to_z, of_z, w64}
use Rattle.span_report.specs.{Stacks.Pending.{AreLinks, IsFirstBeyond, IsLinkTo}, declared.stacks.ends.Link.Link}
use Rattle.span_report.proofs.StackLemmas.Links.{AreLinks-set}
use Rattle.span_report.proofs.stacks.ends.links_of.Goals as goal

-- one more link
pub loop-at-preserved : goal.loop-at-preserved
loop-at-preserved c =
    let spans = c.args.spans.now in
    let at = c.loop-at.at - 1 in
    let x = c.index-spans-at.result in
    let links = c.loop-at.links.items in
    let later = c.first_beyond-later.result in
    let next : at + 1 ≡ c.loop-at.at = omega (arith, c.loop-at-test.true) in
    let within : at < length spans = omega (arith, c.loop-at-test.true, c.loop-at.invariant.within) in
    let until : to_z w64 (of_z w64 c.until_of.result) ≡ c.until_of.result = search rules in
    let beyond = subst (λ u. IsFirstBeyond spans (at + 1) u later) c.until_of.ensures (rw until at c.first_beyond-later.ensures) in
    let to = subst (λ (l : List Link). IsLinkTo l later c.link_to.result) c.deref-in-loop-at.ensures.value c.link_to.ensures in
    record {
      within = omega (arith, within);
      links = AreLinks-set spans at later x within c.index-spans-at.is beyond links c.link_to.result (subst (λ n. AreLinks n spans links) (sym next) c.loop-at.invariant.links) to;
    }
