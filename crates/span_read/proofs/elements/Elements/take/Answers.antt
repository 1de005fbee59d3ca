use Rattle.std.proofs.Common.{◌≡◌, ◌-◌, ◌++◌, ◌∷◌, [], refl, sym, ap, ◌∙◌, arith}
use Rattle.json.specs.Token.{end_array}
use Rattle.span_read.specs.Element.{item_of_data}
use Rattle.span_read.proofs.{Bracket.Turns.{ended_start, ended_turn, ended_refused, ended_bracket, ended_text}, Collected.{Adds-none, Adds-push, Adds-over}, Grammar.data_at-shorter}
use Rattle.span_read.proofs.elements.Elements.take.Goals as goal

pub elements-init : goal.elements-init
elements-init c = ended_start (c.args.depth - 1) c.args.tokens.now.reader _ (Adds-none c.args.format c.args.self.now)

pub returns-in-EndArray-clause-taken : goal.returns-in-EndArray-clause-taken
returns-in-EndArray-clause-taken c =
    let last : c.elements.tokens.reader ≡ end_array ∷ c.next.new.self = grind arith in
    ended_bracket c.args.depth c.requires _ c.args.tokens.now.reader c.elements.tokens.reader c.elements.invariant c.next.new.self last

pub returns-in_err-pass_begun-clause-refused : goal.returns-in_err-pass_begun-clause-refused
returns-in_err-pass_begun-clause-refused c = λ no.
    ended_refused c.args.depth c.requires _ c.args.tokens.now.reader c.elements.tokens.reader c.elements.invariant c.in-Some.token c.next.new.self c.in-Some.ensures.value c.in_default-token.not-EndArray c.in_err-pass_begun.ensures.refused

pub elements-smaller-then-len-format : goal.elements-smaller-then-len-format
elements-smaller-then-len-format c =
    let taken = c.in_ok-pass_begun.ensures.taken in
    let less = data_at-shorter (c.args.depth - 1) _ c.pass_begun.new.reader taken.0 taken.1 in
    rw c.in-Some.ensures.value less

pub elements-preserved-then-len-format : goal.elements-preserved-then-len-format
elements-preserved-then-len-format c =
    let taken = c.in_ok-pass_begun.ensures.taken in
    ended_turn c.args.depth c.requires _ c.args.tokens.now.reader c.elements.tokens.reader c.elements.invariant c.in-Some.token c.next.new.self c.in-Some.ensures.value c.in_default-token.not-EndArray _ c.pass_begun.new.reader
    (taken.0, taken.1, λ ds added. Adds-over c.args.format c.args.self.now c.elements.self _ ds taken.0 added (omega (arith, c.if-len-format.true)) refl refl)

pub returns-in_err-item-clause-refused : goal.returns-in_err-item-clause-refused
returns-in_err-item-clause-refused c = λ no.
    ended_refused c.args.depth c.requires _ c.args.tokens.now.reader c.elements.tokens.reader c.elements.invariant c.in-Some.token c.next.new.self c.in-Some.ensures.value c.in_default-token.not-EndArray (c.read_item.ensures.refused (grind arith))

pub elements-smaller : goal.elements-smaller
elements-smaller c =
    let taken = c.in_ok-item.ensures.item in
    let less = data_at-shorter (c.args.depth - 1) _ c.read_item.new.tokens.reader taken.0 taken.1 in
    rw c.in-Some.ensures.value less

pub elements-preserved : goal.elements-preserved
elements-preserved c =
    let taken = c.in_ok-item.ensures.item in
    let pushed : c.push.new.self ≡ c.elements.self.items ++ item_of_data c.args.format.unit taken.0 ∷ [] = c.in_ok-push.ensures.items ∙ ap (λ i. c.elements.self.items ++ i ∷ []) (sym taken.2) in
    ended_turn c.args.depth c.requires _ c.args.tokens.now.reader c.elements.tokens.reader c.elements.invariant c.in-Some.token c.next.new.self c.in-Some.ensures.value c.in_default-token.not-EndArray _ c.read_item.new.tokens.reader
    (taken.0, taken.1, λ ds added. Adds-push c.args.format c.args.self.now c.elements.self _ ds taken.0 added (omega arith) pushed refl)

pub returns-clause-taken : goal.returns-clause-taken
returns-clause-taken c =
    let none : c.elements.tokens.reader ≡ [] = grind arith in
    let left : c.next.new.self ≡ [] = grind arith in
    ended_text c.args.depth c.requires _ c.args.tokens.now.reader c.elements.tokens.reader c.elements.invariant c.next.new.self none left
