use Rattle.std.specs.Prelude.{⊤}
use Rattle.std.proofs.{Common.{◌≡◌, ◌-◌, [], ◌∷◌, Some, ap, ◌∙◌, arith}, lemmas.Result.on_ok_weaker}
use Rattle.json.specs.{Json.read_key, Reads.token_of, Token.Token}
use Rattle.span_read.specs.Tokens.{data_at}
use Rattle.span_read.proofs.{Grammar.{data_at-nothing, data_at-too_deep_array, data_at-too_deep_object}, Leaves.on_err, Turns.{items_smaller, items_start, items_turn, items_refused, items_finish, members_smaller, members_start, members_turn, members_key_refused, members_value_refused, members_finish, array_value, object_value}}
use Rattle.span_read.proofs.tokens.pass.+pass.Goals as goal

pub pass_array-returns-then-depth-eq0-clause-refused : goal.pass_array-returns-then-depth-eq0-clause-refused
pass_array-returns-then-depth-eq0-clause-refused t c = data_at-too_deep_array c.args.depth c.args.reader.now c.if-depth-eq0.true

pub pass_array-items-init : goal.pass_array-items-init
pass_array-items-init t c = items_start (c.args.depth - 1) c.args.reader.now (λ ds. ⊤) tt

pub pass_array-items-smaller : goal.pass_array-items-smaller
pass_array-items-smaller t c = items_smaller (c.args.depth - 1) c.items.reader c.take_end_array.new.self c.pass_value.new.reader (λ d. ⊤) (grind arith) c.in_ok-pass_value.ensures.taken

pub pass_array-items-preserved : goal.pass_array-items-preserved
pass_array-items-preserved t c =
    items_turn c.args.depth (omega arith) (λ ds. ⊤) c.args.reader.now c.items.reader c.items.invariant (λ ds. ⊤) c.take_end_array.new.self c.pass_value.new.reader (grind arith) c.in_ok-pass_value.ensures.taken

pub pass_array-returns-in_err-pass_value-clause-refused : goal.pass_array-returns-in_err-pass_value-clause-refused
pass_array-returns-in_err-pass_value-clause-refused t c =
    on_err c.from_residual.result (items_refused c.args.depth (omega arith) (λ ds. ⊤) c.args.reader.now c.items.reader c.items.invariant c.take_end_array.new.self (grind arith) c.in_err-pass_value.ensures.refused)

pub pass_array-returns-clause-taken : goal.pass_array-returns-clause-taken
pass_array-returns-clause-taken t c = items_finish c.args.depth (omega arith) (λ ds. ⊤) c.args.reader.now c.items.reader c.items.invariant (λ ds. ⊤) c.take_end_array.new.self (grind arith) tt

pub pass_object-returns-then-depth-eq0-clause-refused : goal.pass_object-returns-then-depth-eq0-clause-refused
pass_object-returns-then-depth-eq0-clause-refused t c = data_at-too_deep_object c.args.depth c.args.reader.now c.if-depth-eq0.true

pub pass_object-members-init : goal.pass_object-members-init
pass_object-members-init t c = members_start (c.args.depth - 1) c.args.reader.now (λ ms. ⊤) tt

pub pass_object-returns-in_err-_name-clause-refused : goal.pass_object-returns-in_err-_name-clause-refused
pass_object-returns-in_err-_name-clause-refused t c =
    on_err c.from_residual.result (members_key_refused c.args.depth (omega arith) (λ ms. ⊤) c.args.reader.now c.members.reader c.members.invariant c.in_err-_name.ensures.value)

pub pass_object-members-smaller : goal.pass_object-members-smaller
pass_object-members-smaller t c =
    let named : read_key c.members.reader ≡ Some (Some c.in-Some._name.now, c.next_key.new.self) = grind arith in
    members_smaller (c.args.depth - 1) c.in-Some._name.now c.members.reader c.next_key.new.self c.pass_value.new.reader (λ d. ⊤) named c.in_ok-pass_value.ensures.taken

pub pass_object-members-preserved : goal.pass_object-members-preserved
pass_object-members-preserved t c =
    let named : read_key c.members.reader ≡ Some (Some c.in-Some._name.now, c.next_key.new.self) = grind arith in
    members_turn c.args.depth (omega arith) (λ ms. ⊤) c.args.reader.now c.members.reader c.members.invariant (λ ms. ⊤) _ _ _ named c.in_ok-pass_value.ensures.taken

pub pass_object-returns-in_err-pass_value-clause-refused : goal.pass_object-returns-in_err-pass_value-clause-refused
pass_object-returns-in_err-pass_value-clause-refused t c =
    let named : read_key c.members.reader ≡ Some (Some c.in-Some._name.now, c.next_key.new.self) = grind arith in
    on_err c.from_residual-in_err-pass_value.result
    (members_value_refused c.args.depth (omega arith) (λ ms. ⊤) c.args.reader.now c.members.reader c.members.invariant _ _ named c.in_err-pass_value.ensures.refused)

pub pass_object-returns-clause-taken : goal.pass_object-returns-clause-taken
pass_object-returns-clause-taken t c = members_finish c.args.depth (omega arith) (λ ms. ⊤) c.args.reader.now c.members.reader c.members.invariant c.next_key.new.self (grind arith)

pub pass_begun-returns-in-Array-clause-taken : goal.pass_begun-returns-in-Array-clause-taken
pass_begun-returns-in-Array-clause-taken t c =
    let ts = c.args.reader.now in
    let opened : token_of c.args.token ∷ ts ≡ Token.begin_array ∷ ts = grind (arith, c.in_ok-beginning_of.ensures.beginning ts) in
    on_ok_weaker c.pass_array.result (array_value c.args.depth _ ts c.pass_array.new.reader (λ d. ⊤) (λ ds. ⊤) opened (λ ds h. tt)) c.pass_array.ensures.taken

pub pass_begun-returns-in-Array-clause-refused : goal.pass_begun-returns-in-Array-clause-refused
pass_begun-returns-in-Array-clause-refused t c =
    let ts = c.args.reader.now in
    let opened : token_of c.args.token ∷ ts ≡ Token.begin_array ∷ ts = grind (arith, c.in_ok-beginning_of.ensures.beginning ts) in
    rw opened c.pass_array.ensures.refused

pub pass_begun-returns-in-Object-clause-taken : goal.pass_begun-returns-in-Object-clause-taken
pass_begun-returns-in-Object-clause-taken t c =
    let ts = c.args.reader.now in
    let opened : token_of c.args.token ∷ ts ≡ Token.begin_object ∷ ts = grind (arith, c.in_ok-beginning_of.ensures.beginning ts) in
    on_ok_weaker c.pass_object.result (object_value c.args.depth _ ts c.pass_object.new.reader (λ d. ⊤) (λ ms. ⊤) opened (λ ms h. tt)) c.pass_object.ensures.taken

pub pass_begun-returns-in-Object-clause-refused : goal.pass_begun-returns-in-Object-clause-refused
pass_begun-returns-in-Object-clause-refused t c =
    let ts = c.args.reader.now in
    let opened : token_of c.args.token ∷ ts ≡ Token.begin_object ∷ ts = grind (arith, c.in_ok-beginning_of.ensures.beginning ts) in
    rw opened c.pass_object.ensures.refused

pub pass_begun-returns-in_default : goal.pass_begun-returns-in_default
pass_begun-returns-in_default t c = let begun = c.in_ok-beginning_of.ensures.beginning c.args.reader.now in grind (arith, begun)

pub pass_value-returns-in_err-token-clause-refused : goal.pass_value-returns-in_err-token-clause-refused
pass_value-returns-in_err-token-clause-refused t c =
    let empty : c.args.reader.now ≡ [] = grind arith in
    on_err c.from_residual.result (ap (data_at c.args.depth) empty ∙ data_at-nothing c.args.depth)
