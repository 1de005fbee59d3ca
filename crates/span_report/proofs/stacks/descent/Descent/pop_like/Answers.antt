use Rattle.std.specs.{Cmp.Lexicographic.nat_list_eq_equiv, Prelude.slice_get}
use Rattle.std.proofs.Common.{◌≡◌, ◌-◌, List, Some, length, sym, ap, subst, ◌∙◌, take, refl, true≢false}
use Rattle.span_keyed_tracks.proofs.Lists.Last.{last_of-append, take-last}
use Rattle.span_report.specs.{same_text, last_of, declared.stacks.pending.PendingFrame.PendingFrame}
use Rattle.span_report.proofs.{StackLemmas.Nearing.tied-pending, stacks.descent.Descent.pop_like.Goals.{else-frame-first-via-then-frame-first+else-eq, else-frame-first-via-else-frame-first}}
use Rattle.span_report.proofs.stacks.descent.Descent.pop_like.Goals as goal

pub returns-else-frame-first : goal.returns-else-frame-first
returns-else-frame-first c =
    let pending = c.args.self.now.pending.items in
    let frame = c.in_ok-frame.frame.now in
    let read = subst (λ (xs : List PendingFrame). Some frame ≡ slice_get xs (length xs - 1)) c.deref.ensures.value c.in_ok-frame.ensures.value in
    let last : last_of pending ≡ Some frame = ap last_of (take-last pending frame read) ∙ last_of-append (take (length pending - 1) pending) frame in
    (refl, λ p is tie. differ p (sym is ∙ last) (tied-pending p c.args.first.now tie))
  where
    differ : (p : PendingFrame) → Some p ≡ Some c.in_ok-frame.frame.now → (p.below ≡ c.args.first.now.below) × (p.name.now ≡ c.args.first.now.name.now) → ⊥
    differ p found same =
        let own : p ≡ c.in_ok-frame.frame.now = cc in
        let name = ap (λ (q : PendingFrame). q.name.now) (sym own) ∙ same.1 in
        elim c.else-frame-first.branch [
          | else-frame-first-via-then-frame-first+else-eq w ↦ true≢false (sym (ap (λ text. same_text text c.args.first.now.name.now) name ∙ nat_list_eq_equiv.refl c.args.first.now.name.now) ∙ sym w.eq.ensures ∙ w.if-eq.false)
          | else-frame-first-via-else-frame-first w ↦ w.if-frame-first.false (ap (λ (q : PendingFrame). q.below) (sym own) ∙ same.0)
        ]
