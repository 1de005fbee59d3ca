use Rattle.std.specs.{Cmp.tied_itself, Ordering.{eq_by_cmp, is_eq}, Prelude.IsTrue}
use Rattle.std.proofs.Common.{◌≡◌, Bool, true, false, refl, sym, ap, subst, ap₂, ◌∙◌}
use Rattle.span_table.specs.{KeyLaws.{key_cmp_total, key_eq-same}, Keys.{TableKey, key_cmp}}
use Rattle.span_table.proofs.key.KeyPartialEq.eq.Goals as goal

-- what is true just where keys are the same is what their order says
decided : (same : Bool) (a b : TableKey) → (IsTrue same → a ≡ b) → (a ≡ b → IsTrue same) → same ≡ eq_by_cmp key_cmp a b
decided true a b are is = subst (λ k. true ≡ eq_by_cmp key_cmp a k) (are refl) (sym (ap is_eq (tied_itself key_cmp_total a)))
decided false a b are is = by (eq_by_cmp key_cmp a b) refl
  where
    by : (e : Bool) → eq_by_cmp key_cmp a b ≡ e → false ≡ e
    by true e = is (key_eq-same a b e)
    by false e = refl

pub returns : goal.returns
returns c =
    decided c.are_same.result c.deref.result.now c.deref-2.result.now c.are_same.ensures.0 c.are_same.ensures.1
    ∙ ap₂ (eq_by_cmp key_cmp) (c.deref.ensures.value ∙ c.self.view_is) (c.deref-2.ensures.value ∙ c.other.view_is)
