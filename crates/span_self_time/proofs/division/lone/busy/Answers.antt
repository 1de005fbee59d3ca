use Rattle.std.specs.Option.{is_some}
use Rattle.std.proofs.Common.{refl, sym, ap, ◌∙◌, subst}
use Rattle.span_self_time.specs.Division.{owners_of, Lone.IsLone, OwnTimes.time_of}
use Rattle.span_self_time.proofs.{Lone.time_of-alone, SpanTimes.time_of-busy_time, Times.time_of-none}
use Rattle.span_self_time.proofs.division.lone.busy.Goals as goal

pub returns-in-Some : goal.returns-in-Some
returns-in-Some c = λ spans closed is.
    c.length.ensures ∙ sym (time_of-alone is_some refl (owners_of spans) c.in-Some.owned (subst (IsLone (owners_of spans)) c.in-Some.is is)) ∙ time_of-busy_time spans closed

pub returns-in-None : goal.returns-in-None
returns-in-None c = λ spans closed is.
    sym (ap (time_of is_some) (subst (IsLone (owners_of spans)) c.in-None.is is) ∙ time_of-none is_some refl) ∙ time_of-busy_time spans closed
