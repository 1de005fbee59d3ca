use Rattle.std.proofs.{Common.{◌≡◌, ℕ, List, [], ◌∷◌, map, take, get_or, refl, sym, ap, ap₂, ◌∙◌, subst, take_all, arith, All, OnOk}, lemmas.{List.Elements.{All-head, All-tail}, Simd.map-map}}
use Rattle.span_self_time.specs.{Closed.span_of, Division.{owners_of, Lengths.{time_at, Gains}}, Spans.{Span, self_time}, declared.span.ClosedSpan.ClosedSpan}
use Rattle.span_self_time.proofs.Lengths.{length_at-self_time}
use Rattle.span_self_time.proofs.division.Division.self_times.Goals as goal

map-same : {X Y : Type 0} (f g : X → Y) (xs : List X) → All (λ x. f x ≡ g x) xs → map f xs ≡ map g xs
map-same f g [] same = refl
map-same f g (x ∷ xs) same = ap₂ (λ y ys. y ∷ ys) (All-head (λ y. f y ≡ g y) x xs same) (map-same f g xs (All-tail (λ y. f y ≡ g y) x xs same))

pub returns : goal.returns
returns c =
    let list = c.args.spans.now in
    let spans = map span_of list in
    let none = c.in_ok-lengths.lengths in
    let gained = c.add_lengths.new.times in
    let time : Span ℕ → ℕ = λ s. time_at gained s.at in
    let has = c.add_lengths.ensures (owners_of spans) c.requires.division in
    let gains : Gains none has.segments gained = subst (λ r. OnOk r (Gains none has.segments gained)) c.in_ok-add_lengths.was has.holds in
    let own : All (λ s. time s ≡ self_time spans s) spans = λ k d within.
    let at = (get_or spans k d).at in
    omega (arith, gains at, c.in_ok-lengths.ensures at, length_at-self_time spans has.segments c.requires.closed has.are k d within) in
    let all : take c.loop-span.span-index list ≡ list = take_all c.loop-span.span-index list c.loop-span-test.false in
    c.loop-span.invariant ∙ ap (map (λ (s : ClosedSpan). time (span_of s))) all ∙ sym (map-map time span_of list)
    ∙ map-same time (self_time spans) spans own
