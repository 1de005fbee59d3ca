-- That links lead past spans that end sooner, and how the link of one more span is made.
use Rattle.std.proofs.{Common.{◌≡◌, ◌≢◌, ℕ, ◌+◌, ◌<◌, All, ℤ, ◌≤ℤ◌, List, length, get_or, set, sym, ap, subst, ◌∙◌, arith, inl, inr, length-set}, lemmas.{Bool.{cases_eq, cases_lt}, Int.{clamps, ints}, List.{get_or_default, get_or-set_other, get_or-set_same, Elements.All-set}}}
use Rattle.span_self_time.proofs.Counts.{covers-after}
use Rattle.span_report.specs.{Bytes, Span, covers, Stacks.Pending.{AreLinks, IsFirstBeyond, IsJump, IsLater, IsLink, IsLinkTo, NoneCovers}, declared.stacks.ends.Link.Link}

module _ (spans : List (Span Bytes)) where
  -- past a jump to a span that ends by the time
  pub NoneCovers-jump : (n at next : ℕ) (time : ℤ) (d : Span Bytes) → IsJump spans at next → next < length spans → (get_or spans next d).until ≤ℤ time → NoneCovers spans n at time → NoneCovers spans n next time
  NoneCovers-jump n at next time d jump within ends over = λ i e u from before since. elim (cases_lt i at) [
    | inl earlier ↦ over i e u from earlier since
    | inr later ↦ jump.over d within i e u later before (omega (arith, ints, ends, since))
  ]

  -- over both of two jumps
  IsJump-trans : (k p q : ℕ) → p < length spans → IsJump spans k p → IsJump spans p q → IsJump spans k q
  IsJump-trans k p q within first then = record {
    behind = omega (arith, first.behind, then.behind);
    within = then.within;
    rises = λ d more. omega (arith, ints, first.rises d within, then.rises d more);
    over = λ d more i e u from before since. elim (cases_lt i p) [
      | inl earlier ↦ first.over d within i e u from earlier (omega (arith, ints, then.rises d more, since))
      | inr later ↦ then.over d more i e u later before since
    ];
  }

  module _ (at first : ℕ) (x : Span Bytes) (within : at < length spans) (is : x ≡ get_or spans at x) (beyond : IsFirstBeyond spans (at + 1) x.until first) where
    end-at : (d : Span Bytes) → (get_or spans at d).until ≡ x.until
    end-at d = ap (λ (s : Span Bytes). s.until) (get_or_default spans at d x within ∙ sym is)

    -- the first that ends later
    IsLater-first : IsLater spans at first
    IsLater-first = record {
      behind = omega (arith, beyond.behind);
      within = beyond.within;
      over = λ d i e u from before since. beyond.over i e u from before (omega (arith, ints, since, end-at d));
    }

    IsJump-first : IsJump spans at first
    IsJump-first = record {
      behind = omega (arith, beyond.behind);
      within = beyond.within;
      rises = λ d more. omega (arith, ints, clamps, end-at d, beyond.lasts d more);
      over = λ d more i e u from before since. elim (cases_eq i at) [
        | inl same ↦ ap (λ m. covers (get_or spans m e) u) same ∙ covers-after (get_or spans at e) u (omega (arith, ints, clamps, end-at e, beyond.lasts d more, since))
        | inr apart ↦ beyond.over i e u (omega (arith, from, apart)) before (omega (arith, ints, clamps, beyond.lasts d more, since))
      ];
    }

    module _ (links : List Link) (link : Link) (are : AreLinks (at + 1) spans links) (to : IsLinkTo links first link) where
      -- as far as two jumps from the first that ends later
      IsJump-both : (d : Link) → IsJump spans at (get_or links (get_or links first d).jump d).jump
      IsJump-both d = elim (cases_eq first (length spans)) [
        | inl last ↦
            let near = ap (λ n. (get_or links n d).jump) last ∙ are.end d in
            let far = ap (λ n. (get_or links n d).jump) near ∙ are.end d in
            subst (IsJump spans at) (last ∙ sym far) IsJump-first
        | inr apart ↦
            let inside : first < length spans = omega (arith, apart, beyond.within) in
            let near = (are.leads first d beyond.behind inside).1 in
            let one = IsJump-trans at first (get_or links first d).jump inside IsJump-first near in
            elim (cases_eq (get_or links first d).jump (length spans)) [
              | inl last ↦ subst (IsJump spans at) (last ∙ sym (ap (λ n. (get_or links n d).jump) last ∙ are.end d)) one
              | inr more ↦
                  let there : (get_or links first d).jump < length spans = omega (arith, more, near.within) in
                  let far = (are.leads (get_or links first d).jump d (omega (arith, beyond.behind, near.behind)) there).1 in
                  IsJump-trans at (get_or links first d).jump (get_or links (get_or links first d).jump d).jump there one far
            ]
      ]

      IsJump-link : IsJump spans at link.jump
      IsJump-link = elim (to.jump link) [
        | inl one ↦ subst (IsJump spans at) (sym one) IsJump-first
        | inr both ↦ subst (IsJump spans at) (sym both) (IsJump-both link)
      ]

      -- the link of one more span
      pub AreLinks-set : AreLinks at spans (set links at link)
      AreLinks-set = record {
        even = length-set links at link ∙ are.even;
        leads = λ k d from before. elim (cases_eq k at) [
          | inl same ↦
              let own : get_or (set links at link) k d ≡ link = ap (λ m. get_or (set links at link) m d) same ∙ get_or-set_same links at link d (omega (arith, within, are.even)) in
              let leads : IsLink spans at link = (subst (IsLater spans at) (sym to.is) IsLater-first, IsJump-link) in
              subst (IsLink spans k) (sym own) (subst (λ m. IsLink spans m link) (sym same) leads)
          | inr apart ↦ subst (IsLink spans k) (sym (get_or-set_other links at k link d apart)) (are.leads k d (omega (arith, from, apart)) before)
        ];
        end = λ d. let apart : length spans ≢ at = λ same. absurd (omega (arith, same, within)) in ap (λ (l : Link). l.jump) (get_or-set_other links at (length spans) link d apart) ∙ are.end d;
        within = subst (λ n. All (λ (l : Link). l.jump < n) (set links at link)) (sym (length-set links at link)) (All-set (λ (l : Link). l.jump < length links) links at link (omega (arith, IsJump-link.within, are.even)) are.within);
      }
