use Rattle.std.proofs.Common.{◌≡◌, List, [], ◌∷◌, ◌++◌, append_assoc, sym, ap, subst, ◌∙◌}
use Rattle.span_event.proofs.Merged.{insert_entry-below}
use Rattle.span_read.specs.{IsBelowAll, IsInNameOrder}
use Rattle.span_read.proofs.ArgMaps.{Pair, IsBelowAll-behind}
use Rattle.span_read.proofs.arg_map.map_of.Goals as goal

pub pairs-preserved : goal.pairs-preserved
pairs-preserved c =
    let left : List Pair = c.pop.new.self.items in
    let last : Pair = (c.in-Some.name, c.in-Some.value) in
    let entries : List Pair = c.pairs.map.entries in
    let whole : left ++ last ∷ entries ≡ c.args.pairs.items =
    sym (append_assoc left (last ∷ []) entries) ∙ ap (λ l. l ++ entries) (sym c.in-Some.ensures.items) ∙ c.pairs.invariant in
    let below : IsBelowAll last.0 entries = IsBelowAll-behind left last entries (subst IsInNameOrder (sym whole) c.requires) in
    ap (λ l. left ++ l) (c.in_ok-insert.ensures.entries ∙ insert_entry-below last entries below) ∙ whole
