use Rattle.std.proofs.{Common.{◌≡◌, subst, sym}, lemmas.Result.IfOk-weaker}
use Rattle.span_read.specs.{IsGoodItem, Element.item_of_fields, Time.IsItemInRange}
use Rattle.span_read.proofs.Good.{IsGoodItem-item_of_fields, IsItemInRange-item_of_fields}
use Rattle.span_read.proofs.element.item_of.Goals as goal

pub returns-in_ok-fields-in-Object-clause-good : goal.returns-in_ok-fields-in-Object-clause-good
returns-in_ok-fields-in-Object-clause-good c =
    let fields = c.in_ok-fields-in-Object.fields in
    IfOk-weaker c.item_of_fields.result (λ item. item ≡ item_of_fields c.args.unit fields) IsGoodItem (λ item is. subst IsGoodItem (sym is) (IsGoodItem-item_of_fields c.args.unit fields)) c.item_of_fields.ensures

pub returns-in_ok-fields-in-Object-clause-in_range : goal.returns-in_ok-fields-in-Object-clause-in_range
returns-in_ok-fields-in-Object-clause-in_range c =
    let fields = c.in_ok-fields-in-Object.fields in
    let in_range = IsItemInRange c.args.unit in
    IfOk-weaker c.item_of_fields.result (λ item. item ≡ item_of_fields c.args.unit fields) in_range (λ item is. subst in_range (sym is) (IsItemInRange-item_of_fields c.args.unit fields)) c.item_of_fields.ensures
