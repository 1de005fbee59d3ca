use Rattle.std.specs.{Map.lookup, Prelude.unwrap_or}
use Rattle.std.proofs.Common.{rules, ◌≡◌, Some, None, sym, ap, ap₂, ◌∙◌}
use Rattle.indexmap.specs.IndexMap.{insert_entry as put_entry}
use Rattle.span_keyed_tracks.specs.Keyed.{in_key_order, kept_at}
use Rattle.span_keyed_tracks.proofs.{InKeyOrder.{found-in_key_order, in_key_order-put, in_key_order-sorted, in_key_order-written}, KeyChange.{ChangesAt-found, ChangesAt-first}}
use Rattle.span_keyed_tracks.proofs.hashed.change_at.Goals as goal

pub change-requires : goal.change-requires
change-requires g c =
    let found = found-in_key_order g.met.K.Ord.total c.requires.same g.met.K.Ord.matches_eq c.args.kept.now.entries c.args.key.now (Some c.in-Some.value.now) c.requires.distinct c.in-Some.ensures.value in
    let at : c.in-Some.value.now ≡ kept_at g.K.Ord.cmp c.args.none (in_key_order g.K.Ord.cmp c.args.kept.now.entries) c.args.key.now = sym (ap (λ f. unwrap_or f c.args.none) found) in
    search rules

pub change-requires-2 : goal.change-requires-2
change-requires-2 g c =
    let found = found-in_key_order g.met.K.Ord.total c.requires.same g.met.K.Ord.matches_eq c.args.kept.now.entries c.args.key.now None c.requires.distinct c.in_default.ensures.value in
    let at : c.args.none ≡ kept_at g.K.Ord.cmp c.args.none (in_key_order g.K.Ord.cmp c.args.kept.now.entries) c.args.key.now = sym (ap (λ f. unwrap_or f c.args.none) found) in
    search rules

pub returns-in-Some-clause-changes : goal.returns-in-Some-clause-changes
returns-in-Some-clause-changes g c =
    let holds = c.get_mut.follows.holds c.change.new.arg2 in
    let updates = holds.3 (search rules) in
    ChangesAt-found g.met.K.Ord.total c.args.none _ _ _ c.args.key.now c.change.new.arg2 c.in-Some.value.now c.change.result
    (in_key_order-sorted g.met.K.Ord.total c.requires.same c.args.none c.args.kept.now.entries c.requires.distinct)
    (found-in_key_order g.met.K.Ord.total c.requires.same g.met.K.Ord.matches_eq c.args.kept.now.entries c.args.key.now (Some c.in-Some.value.now) c.requires.distinct c.in-Some.ensures.value)
    (in_key_order-written g.met.K.Ord.total c.requires.same g.met.K.Ord.matches_eq c.args.kept.now.entries (c.get_mut.follows.lender c.change.new.arg2).entries c.args.key.now c.change.new.arg2 c.requires.distinct holds.4 updates.1 updates.2
    c.in-Some.value.now c.in-Some.ensures.value holds.1)
    (search rules) c.requires.stays

pub returns-in_err-answer-clause-changes : goal.returns-in_err-answer-clause-changes
returns-in_err-answer-clause-changes g c =
    ChangesAt-first g.met.K.Ord.total c.args.none _ _ _ c.args.key.now c.change-2.new.arg2 c.change-2.result _
    (in_key_order-sorted g.met.K.Ord.total c.requires.same c.args.none c.args.kept.now.entries c.requires.distinct)
    (found-in_key_order g.met.K.Ord.total c.requires.same g.met.K.Ord.matches_eq c.args.kept.now.entries c.args.key.now None c.requires.distinct c.in_default.ensures.value)
    (search rules) (search rules) (search rules) (search rules) (search rules)

pub returns-in_default-copied-clause-changes : goal.returns-in_default-copied-clause-changes
returns-in_default-copied-clause-changes g c =
    ChangesAt-first g.met.K.Ord.total c.args.none _ _ _ c.args.key.now c.change-2.new.arg2 c.change-2.result _
    (in_key_order-sorted g.met.K.Ord.total c.requires.same c.args.none c.args.kept.now.entries c.requires.distinct)
    (found-in_key_order g.met.K.Ord.total c.requires.same g.met.K.Ord.matches_eq c.args.kept.now.entries c.args.key.now None c.requires.distinct c.in_default.ensures.value)
    (search rules) (search rules) (search rules) (search rules) (search rules)

pub returns-in-Ok-insert-clause-changes : goal.returns-in-Ok-insert-clause-changes
returns-in-Ok-insert-clause-changes g c =
    let start = c.get_mut.follows.holds-at-none in
    let eq = g.K.PartialEq.eq in
    let same : c.in-Ok.key ≡ c.args.key.now = search rules in
    let updates = c.in-Ok-insert.ensures.updates in
    let here = ap (λ (k : g.row.K.Denot). lookup (eq k) c.insert.new.self.entries) (sym same) ∙ updates.1 in
    let put = c.in-Ok-insert.ensures.entries ∙ ap₂ (λ m (k : g.row.K.Denot). put_entry eq m.entries k c.change-2.new.arg2) start same in
    let changed = in_key_order-put g.met.K.Ord.total c.requires.same g.met.K.Ord.matches_eq c.args.kept.now.entries c.insert.new.self.entries c.args.key.now c.change-2.new.arg2 c.requires.distinct
    c.in-Ok-insert.ensures.unique here
    (λ q apart. updates.2 q (ap (λ (k : g.row.K.Denot). eq k q) same ∙ apart) ∙ ap (λ m. lookup (eq q) m.entries) start) put in
    ChangesAt-first g.met.K.Ord.total c.args.none _ _ _ c.args.key.now c.change-2.new.arg2 c.change-2.result _
    (in_key_order-sorted g.met.K.Ord.total c.requires.same c.args.none c.args.kept.now.entries c.requires.distinct)
    (found-in_key_order g.met.K.Ord.total c.requires.same g.met.K.Ord.matches_eq c.args.kept.now.entries c.args.key.now None c.requires.distinct c.in_default.ensures.value)
    (search rules) (search rules) (search rules) (search rules) (search rules)

pub returns-clause-changes : goal.returns-clause-changes
returns-clause-changes g c =
    ChangesAt-first g.met.K.Ord.total c.args.none _ _ _ c.args.key.now c.change-2.new.arg2 c.change-2.result _
    (in_key_order-sorted g.met.K.Ord.total c.requires.same c.args.none c.args.kept.now.entries c.requires.distinct)
    (found-in_key_order g.met.K.Ord.total c.requires.same g.met.K.Ord.matches_eq c.args.kept.now.entries c.args.key.now None c.requires.distinct c.in_default.ensures.value)
    (search rules) (search rules) (search rules) (search rules) (search rules)
