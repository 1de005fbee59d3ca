use Rattle.std.proofs.{Common.{◌≡◌, ℕ, List, ◌++◌, map, take, length, sym, ap, ◌∙◌, subst, arith}, Math.Seq.take-append_seam, lemmas.List.{take-map, length-map}}
use Rattle.span_self_time.proofs.Apart.{AreClosed-join}
use Rattle.span_closed_spans.specs.{span_of, AreClosed, CanJoin, Span, ClosedSpan, Totals.{Totals, AreTotals}}
use Rattle.span_closed_spans.proofs.closed.ClosedSpans.add_all.Goals.{After-truncate}
use Rattle.span_closed_spans.proofs.closed.ClosedSpans.add_all.Goals as goal

map-take : {X Y : Type 0} (f : X → Y) (n : ℕ) (xs : List X) (ys more : List Y) → map f xs ≡ ys ++ more → n ≡ length ys → map f (take n xs) ≡ ys
map-take f n xs ys more grown counted =
    sym (take-map f n xs) ∙ ap (take n) grown ∙ ap (λ m. take m (ys ++ more)) counted ∙ take-append_seam ys more

-- cut to its former length, the list has the former spans
restored : (c : After-truncate) → map span_of c.truncate.new.self.items ≡ c.args.self.now
restored c =
    let counted : c.len-count.result ≡ length c.args.self.now = omega (arith, c.len-count.ensures, c.self.inside.list.ok.0, length-map c.self.inside.list.items span_of, ap length c.self.view_is) in
    ap (map span_of) c.truncate.ensures.items ∙ map-take span_of c.len-count.result c.self-2.inside.list.items c.args.self.now _ (c.self-2.view_is ∙ c.in-Err.ensures.err.2) counted

pub invariant_of-self : goal.invariant_of-self
invariant_of-self c =
    let at = (goal.at.invariant_of-self c).After-truncate in
    rw (restored at, ← c.self.view_is) (
      c.self.invariant.0,
      subst (λ (t : Totals). AreTotals t (map span_of c.self.inside.list.items)) (sym c.in_ok-totals.ensures) c.self.invariant.1,
      c.in_ok-division.ensures (map span_of c.self.inside.list.items) c.self.invariant.2,
    )

pub returns-in-Err-clause-err : goal.returns-in-Err-clause-err
returns-in-Err-clause-err c = restored (goal.at.returns-in-Err-clause-err c).After-truncate

-- the spans so far are closed, and so with those that can join them
joined : (list : List ClosedSpan) (spans : List (Span ℕ)) (more : List (Span ℕ)) → map span_of list ≡ spans → AreClosed (map span_of list) → CanJoin spans more → AreClosed (spans ++ more)
joined list spans more view closed can = AreClosed-join spans more (subst (λ (l : List (Span ℕ)). AreClosed l) view closed) can

pub add_each-requires : goal.add_each-requires
add_each-requires c = joined c.self.inside.list.items c.args.self.now _ c.self.view_is c.self.invariant.0 c.requires

pub add_each-requires-2 : goal.add_each-requires-2
add_each-requires-2 c = joined c.self.inside.list.items c.args.self.now _ c.self.view_is c.self.invariant.0 c.requires
