use Rattle.std.proofs.Common.{sym, ap, ◌∙◌}
use Rattle.serde_json.specs.Data.{put}
use Rattle.span_read.specs.{Fields.fields_of, Slots.{slots, names, put_at}}
use Rattle.span_read.proofs.Slots.{places, put_at-places, slots_injective}
use Rattle.span_read.proofs.token_fields.FieldsKeptMembers.keep.Goals as goal

pub returns-clause-kept : goal.returns-clause-kept
returns-clause-kept c =
    let taken = c.in_ok-value.ensures.value in (
      taken.0,
      taken.1,
      λ ms before. slots_injective c.put.new.self (fields_of (put c.args.name.now taken.0 ms)) (
          c.put.ensures ∙ ap (λ f. put_at c.args.name.now c.in_ok-value.value names (slots f)) before ∙ ap (λ v. put_at c.args.name.now v names (places names ms)) (sym taken.2) ∙ put_at-places c.args.name.now taken.0 ms names),
    )
