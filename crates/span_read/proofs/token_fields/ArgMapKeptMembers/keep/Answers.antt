use Rattle.std.specs.BTreeMap.{insert_entry}
use Rattle.std.proofs.Common.{◌≡◌, ℕ, List, sym, ap, ap₂, ◌∙◌}
use Rattle.span_read.specs.{text_cmp, Fields.pairs_of}
use Rattle.span_read.proofs.NameOrder.{pairs_of-put}
use Rattle.span_read.proofs.token_fields.ArgMapKeptMembers.keep.Goals as goal

pub returns-clause-kept : goal.returns-clause-kept
returns-clause-kept c =
    let taken = c.in_ok-value.ensures.value in
    let name = c.args.name.now in
    let copied : c.in_ok-name.name ≡ name = c.in_ok-name.ensures in (
      taken.0,
      taken.1,
      λ ms before.
          c.in_ok-put.ensures ∙ ap (λ ps. insert_entry text_cmp ps c.in_ok-name.name c.in_ok-value.value) before
          ∙ ap₂ (λ (n : List ℕ) v. insert_entry text_cmp (pairs_of ms) n v) copied (sym taken.2) ∙ sym (pairs_of-put name taken.0 ms),
    )
