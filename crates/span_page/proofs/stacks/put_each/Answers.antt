use Rattle.std.specs.{List.join_with_byte, Ordering.{nat_cmp, ord_min}}
use Rattle.std.proofs.{Common.{◌≡◌, ◌⊎◌, ◌++◌, ◌∷◌, [], ◌+◌, ◌-◌, ℕ, suc, List, Bor, drop, length, map, rules, string_bytes, take, refl, sym, ap, ap₂, subst, ◌∙◌, inl, inr, arith}, Math.Seq.drop-cons, lemmas.List.{drop-map, length-drop, length-map, take_all}}
use Rattle.span_page.specs.{Bytes, Stack, AreAscending, Framed, stack_after, Coded.Coded, Data.stack_json}
use Rattle.span_page.proofs.{Appending.{coded_frame, with_frames, with_frames-none, with_frames-some}, Coding.{coded_frames, coded_frames-all}, Joined.joined_after-nothing, stacks.put_each.Goals.{then-frame-gt0+in_ok-push_str+in_ok-put_coded, else-frame-gt0}}
use Rattle.span_page.proofs.stacks.put_each.Goals as goal

abbrev coded_as : ℕ → Stack → ℕ → Coded
coded_as n others time = record { shared = n; others = others; time = time }

pub loop-frame-init : goal.loop-frame-init
loop-frame-init c =
    let names = map (λ (name : Bor Bytes). name.now) in
    let none : names c.new-stack.result.items ≡ [] = ap names c.new-stack.ensures.items in
    let frames = c.args.frames.now in
    record {
      ascending = subst (λ (s : Stack). AreAscending s frames) (sym none) c.requires;
      comma = inl refl;
      all = ap (λ (s : Stack). with_frames (string_bytes c.args.out.now) [] 0 s frames) none
          ∙ ap (λ (bytes : List ℕ). string_bytes c.args.out.now ++ bytes) (joined_after-nothing (map stack_json (coded_frames 0 [] frames)) ∙ ap (λ (cs : List Coded). join_with_byte 44 (map stack_json cs)) (coded_frames-all frames c.requires));
    }

-- nothing, or a comma
pub push_str-requires-text-string : goal.push_str-requires-text-string
unfolding lib.Utf8.encode
push_str-requires-text-string c = elim c.loop-frame.invariant.comma [
  | inl none ↦ λ lifetimes. ([], (refl, sym none))
  | inr comma ↦ λ lifetimes. (44 ∷ [], (refl, sym comma))
]

-- the frame is the first of the rest
pub loop-frame-preserved : goal.loop-frame-preserved
loop-frame-preserved c =
    let names = map (λ (name : Bor Bytes). name.now) in
    let frames = c.args.frames.now in
    let index = c.loop-frame.frame-index in
    let f : Framed = c.frame-item.result in
    let later = drop (index + 1) frames in
    let stack = names c.loop-frame.stack.items in
    let own = stack_after stack f in
    let out = string_bytes c.loop-frame.out in
    let comma = c.loop-frame.comma.now in
    let one : index + 1 ≡ suc index = omega arith in
    let rest : drop index frames ≡ f ∷ later = drop-cons frames index f c.loop-frame-test.true ∙ ap₂ (λ (g : Framed) n. g ∷ drop n frames) (sym c.frame-item.is) (sym one) in
    let are = subst (λ (fs : List Framed). AreAscending stack fs) rest c.loop-frame.invariant.ascending in
    let followed : names c.follow.new.stack.items ≡ own = c.in_ok-follow.ensures.ok in
    let n = ord_min nat_cmp c.loop-frame.shared f.below in
    let least : c.min-shared.result ≡ n = c.min-shared.ensures ∙ ap (λ (g : Framed). ord_min nat_cmp c.loop-frame.shared g.below) c.frame.view_is in
    let time : c.frame.inside.time ≡ f.time = ap (λ (g : Framed). g.time) c.frame.view_is in
    let ascending = subst (λ (s : Stack). AreAscending s later) (sym followed) are.2 in
    let before = ap (with_frames out comma c.loop-frame.shared stack) (sym rest) ∙ c.loop-frame.invariant.all in
    elim c.if-frame-gt0.branch [
      | then-frame-gt0+in_ok-push_str+in_ok-put_coded w ↦
          let d = w.deref.result.now in
          let m = c.min-shared.result in
          let items : d ≡ c.follow.new.stack.items = w.deref.ensures.value in
          let behind = take_all (length d - m) (drop m d) (omega (arith, length-drop m d)) in
          let others : names (take (length d - m) (drop m d)) ≡ drop n own = ap names behind ∙ sym (drop-map (λ (name : Bor Bytes). name.now) m d) ∙ ap₂ drop least (ap names items ∙ followed) in
          let coded : coded_as m (names (take (length d - m) (drop m d))) c.frame.inside.time ≡ coded_frame n own f.time =
          ap₂ (λ k (frames : Stack). coded_as k frames c.frame.inside.time) least others ∙ ap (coded_as n (drop n own)) time in
          let put : string_bytes c.if-frame-gt0.out ≡ (out ++ comma) ++ stack_json (coded_frame n own f.time) =
          ap string_bytes w.out-is ∙ w.in_ok-put_coded.ensures ∙ ap₂ (λ (bytes : List ℕ) (k : Coded). bytes ++ stack_json k) w.in_ok-push_str.ensures.bytes coded in
          let many : w.len-shared.result ≡ length c.follow.new.stack.items = search rules in
          let shared : c.if-frame-gt0.shared ≡ length own = w.shared-is ∙ many ∙ sym (length-map c.follow.new.stack.items (λ (name : Bor Bytes). name.now)) ∙ ap length followed in
          record {
            ascending = ascending;
            comma = inr (ap (λ (b : Bor (List ℕ)). b.now) w.comma-is);
            all = ap (λ (bytes : List ℕ). with_frames bytes c.if-frame-gt0.comma.now c.if-frame-gt0.shared (names c.follow.new.stack.items) later) put
                ∙ ap (λ (b : Bor (List ℕ)). with_frames ((out ++ comma) ++ stack_json (coded_frame n own f.time)) b.now c.if-frame-gt0.shared (names c.follow.new.stack.items) later) w.comma-is
                ∙ ap₂ (λ k (s : Stack). with_frames ((out ++ comma) ++ stack_json (coded_frame n own f.time)) (44 ∷ []) k s later) shared followed
                ∙ sym (with_frames-some out comma c.loop-frame.shared stack f later (omega (arith, w.if-frame-gt0.true, time)))
                ∙ before;
          }
      | else-frame-gt0 w ↦ record {
        ascending = ascending;
        comma = subst (λ (b : Bor (List ℕ)). (b.now ≡ []) ⊎ (b.now ≡ 44 ∷ [])) (sym w.comma-is) c.loop-frame.invariant.comma;
        all = ap (λ (bytes : List ℕ). with_frames bytes c.if-frame-gt0.comma.now c.if-frame-gt0.shared (names c.follow.new.stack.items) later) (ap string_bytes w.out-is)
            ∙ ap (λ (b : Bor (List ℕ)). with_frames out b.now c.if-frame-gt0.shared (names c.follow.new.stack.items) later) w.comma-is
            ∙ ap₂ (λ k (s : Stack). with_frames out comma k s later) (w.shared-is ∙ least) followed
            ∙ sym (with_frames-none out comma c.loop-frame.shared stack f later (omega (arith, w.if-frame-gt0.false, time)))
            ∙ before;
      }
    ]
