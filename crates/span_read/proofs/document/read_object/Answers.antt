use Rattle.std.proofs.Common.{◌≡◌, ◌-◌, Some, None, codes, refl, sym, ap, ◌∙◌, arith, rules}
use Rattle.json.specs.Json.{read_key}
use Rattle.span_read.specs.{Divided.{left_of, left_with}, Document.doc_of_elements, Tokens.data_at}
use Rattle.span_read.proofs.{Collected.{elements_of-put, elements_of-put_other}, Middles.{left_with-key, left_with-value, left_with-whole}, Grammar.data_at-too_deep_object, Turns.{members_smaller, members_start, members_turn, members_key_refused, members_value_refused, members_finish}}
use Rattle.span_read.proofs.document.read_object.Goals as goal

pub returns-then-depth-eq0-clause-refused : goal.returns-then-depth-eq0-clause-refused
returns-then-depth-eq0-clause-refused c = λ whole no. data_at-too_deep_object c.args.depth (left_of c.args.text.now) c.if-depth-eq0.true

pub members-init : goal.members-init
members-init c = (members_start (c.args.depth - 1) (left_of c.args.text.now) _ refl, λ whole. whole, c.requires)

pub returns-in_err-name-clause-refused : goal.returns-in_err-name-clause-refused
returns-in_err-name-clause-refused c = λ whole no.
    let alone = left_with-whole c.members.text.middle c.members.text.tokens.reader (c.members.invariant.1 whole) in
    members_key_refused c.args.depth (omega arith) _ (left_of c.args.text.now) (left_of c.members.text) c.members.invariant.0 (ap read_key alone ∙ c.in_err-name.ensures.value)

pub members-smaller-then-eq : goal.members-smaller-then-eq
members-smaller-then-eq c =
    let named = left_with-key c.members.text.middle c.members.text.tokens.reader c.next_key.new.self (Some c.in-Some.name.now) (grind arith) in
    members_smaller (c.args.depth - 1) _ _ _ _ _ named c.in_ok-found.ensures.found

pub members-preserved-then-eq : goal.members-preserved-then-eq
members-preserved-then-eq c =
    let named = left_with-key c.members.text.middle c.members.text.tokens.reader c.next_key.new.self (Some c.in-Some.name.now) (grind arith) in
    let taken = c.in_ok-found.ensures.found in
    let same : c.in-Some.name.now ≡ codes "traceEvents" = search rules in (
      members_turn c.args.depth (omega arith) _ (left_of c.args.text.now) (left_of c.members.text) c.members.invariant.0 _ _ _ _ named
          (taken.0, taken.1, taken.2 ∙ ap (doc_of_elements c.args.format) (sym (elements_of-put c.in-Some.name.now taken.0 c.members.invariant.0.before same))),
      λ whole. c.read_trace_events.ensures.whole (c.members.invariant.1 whole),
      c.read_trace_events.ensures.read,
    )

pub members-smaller : goal.members-smaller
members-smaller c =
    let named = left_with-key c.members.text.middle c.members.text.tokens.reader c.next_key.new.self (Some c.in-Some.name.now) (grind arith) in
    members_smaller (c.args.depth - 1) _ _ _ _ _ named (left_with-value c.members.text.middle (c.args.depth - 1) _ _ _ c.in_ok-pass_value.ensures.taken)

pub members-preserved : goal.members-preserved
members-preserved c =
    let named = left_with-key c.members.text.middle c.members.text.tokens.reader c.next_key.new.self (Some c.in-Some.name.now) (grind arith) in
    let taken = left_with-value c.members.text.middle (c.args.depth - 1) _ _ _ c.in_ok-pass_value.ensures.taken in
    let apart : c.in-Some.name.now ≡ codes "traceEvents" → ⊥ = search rules in (
      members_turn c.args.depth (omega arith) _ (left_of c.args.text.now) (left_of c.members.text) c.members.invariant.0 _ _ _ _ named
          (taken.0, taken.1, c.members.invariant.0.holds ∙ ap (doc_of_elements c.args.format) (sym (elements_of-put_other c.in-Some.name.now taken.0 c.members.invariant.0.before apart))),
      c.members.invariant.1,
      c.members.invariant.2,
    )

pub returns-in_err-found-clause-refused : goal.returns-in_err-found-clause-refused
returns-in_err-found-clause-refused c = λ whole no.
    let named = left_with-key c.members.text.middle c.members.text.tokens.reader c.next_key.new.self (Some c.in-Some.name.now) (grind arith) in
    members_value_refused c.args.depth (omega arith) _ (left_of c.args.text.now) (left_of c.members.text) c.members.invariant.0 _ _ named (c.read_trace_events.ensures.refused (c.members.invariant.1 whole) (grind arith))

pub returns-in_err-pass_value-clause-refused : goal.returns-in_err-pass_value-clause-refused
returns-in_err-pass_value-clause-refused c = λ whole no.
    let named = left_with-key c.members.text.middle c.members.text.tokens.reader c.next_key.new.self (Some c.in-Some.name.now) (grind arith) in
    members_value_refused c.args.depth (omega arith) _ (left_of c.args.text.now) (left_of c.members.text) c.members.invariant.0 _ _ named
    (ap (data_at (c.args.depth - 1)) (left_with-whole c.members.text.middle c.next_key.new.self (c.members.invariant.1 whole)) ∙ c.in_err-pass_value.ensures.refused)

pub returns-clause-found : goal.returns-clause-found
returns-clause-found c =
    let over = left_with-key c.members.text.middle c.members.text.tokens.reader c.next_key.new.self None (grind arith) in
    members_finish c.args.depth (omega arith) _ (left_of c.args.text.now) (left_of c.members.text) c.members.invariant.0 (left_with c.next_key.new.self c.members.text.middle) over
