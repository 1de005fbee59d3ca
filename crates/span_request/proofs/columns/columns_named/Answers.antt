use Rattle.std.proofs.Common.{Bor, [], slice_index_or, subst}
use Rattle.std.specs.Prelude.{MatchOption}
use Rattle.span_request.specs.{Bytes, Columns.{IsNamed, NamesNone}}
use Rattle.span_request.proofs.ColumnNames.{AreEach-at, AreEach-next}
use Rattle.span_request.proofs.columns.columns_named.Goals as goal

pub returns-in_default : goal.returns-in_default
returns-in_default c = λ columns each.
    let none : Bor Bytes = record { ref_ptr = (0, 0); now = [] } in
    let name = (slice_index_or c.args.names.now c.loop-name.name-index none).now in
    let at = AreEach-at c.args.names.now columns c.loop-name.name-index none c.loop-name-test.true each in
    subst (λ found. MatchOption found (NamesNone name) (IsNamed name)) c.in_default.is c.in_ok-column.ensures at.0 (at.2, at.1)

pub loop-name-preserved : goal.loop-name-preserved
loop-name-preserved c =
    let none : Bor Bytes = record { ref_ptr = (0, 0); now = [] } in
    let name = (slice_index_or c.args.names.now c.loop-name.name-index none).now in
    AreEach-next c.args.names.now c.loop-name.name-index none c.loop-name.columns.items c.push.new.self.items c.in-Some.column
    c.loop-name-test.true c.loop-name.invariant (subst (λ found. MatchOption found (NamesNone name) (IsNamed name)) c.in-Some.is c.in_ok-column.ensures) c.in_ok-push.ensures.items
