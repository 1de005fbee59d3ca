use Rattle.std.proofs.Common.{◌≡◌, ℕ, Bool, cond, nat_eq, Option, Some, List, eq-eqb, ne_eqb, refl, sym, ap, ◌∙◌, subst}
use Rattle.span_self_time.specs.{Closed.AreClosed, Division.{owners_of, Lone.IsLone, OwnTimes.{has_name, time_of}, SegmentStacks.segment_length}, Spans.{Span, self_of}, declared.segment.OwnedSegment.OwnedSegment}
use Rattle.span_self_time.proofs.{Lone.time_of-alone, SpanTimes.time_of-self_of, Times.time_of-none}
use Rattle.span_self_time.proofs.division.lone.self_of.Goals as goal

-- the segment counts where it has the name
of_name : (held : Option OwnedSegment) (owned : OwnedSegment) (name : ℕ) (b : Bool) (spans : List (Span ℕ)) → held ≡ Some owned → nat_eq owned.segment.name name ≡ b → AreClosed spans → IsLone (owners_of spans) held → cond b (segment_length owned) 0 ≡ self_of nat_eq name spans
of_name held owned name b spans some named closed is =
    ap (λ b. cond b (segment_length owned) 0) (sym named)
    ∙ sym (time_of-alone (has_name name) refl (owners_of spans) owned (subst (IsLone (owners_of spans)) some is)) ∙ time_of-self_of spans closed name

pub returns-in-Some : goal.returns-in-Some
returns-in-Some c = λ spans closed is.
    c.length.ensures ∙ of_name _ c.in-Some.owned c.args.name _ spans c.in-Some.is (eq-eqb c.in-Some.owned.segment.name c.args.name c.if-owned-name.true) closed is

pub returns-in_default : goal.returns-in_default
returns-in_default c = λ spans closed is.
    of_name _ c.in-Some.owned c.args.name _ spans c.in-Some.is (ne_eqb c.in-Some.owned.segment.name c.args.name c.if-owned-name.false) closed is

pub returns-in_default-2 : goal.returns-in_default-2
returns-in_default-2 c = λ spans closed is.
    sym (ap (time_of (has_name c.args.name)) (subst (IsLone (owners_of spans)) c.in_default.is is) ∙ time_of-none (has_name c.args.name) refl) ∙ time_of-self_of spans closed c.args.name
